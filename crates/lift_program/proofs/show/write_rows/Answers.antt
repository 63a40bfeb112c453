use Rattle.std.proofs.Common.{inl, refl}
use Rattle.lift_program.proofs.Flushing.{on_err}
use Rattle.lift_program.proofs.show.write_rows.Goals as goal

pub returns-in_err-push_rows-clause-out_of_memory : goal.returns-in_err-push_rows-clause-out_of_memory
returns-in_err-push_rows-clause-out_of_memory g c = λ same. (c.args.writer.now, (0, refl), inl refl)

pub returns-in_err-push_rows-clause-unwritten : goal.returns-in_err-push_rows-clause-unwritten
returns-in_err-push_rows-clause-unwritten g c = on_err c.from_residual.result _ (inl refl)
