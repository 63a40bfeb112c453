use Rattle.lift_program.proofs.refused.text_in.Goals as goal

pub returns-in-Err-clause-refused : goal.returns-in-Err-clause-refused
returns-in-Err-clause-refused g c = λ same. (c.in-Err.error, c.in-Err.ensures.refused, λ wanting. cc (c.fault_of_call.ensures.memory wanting))
