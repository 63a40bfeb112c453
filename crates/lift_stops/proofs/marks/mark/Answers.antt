use Rattle.lift_stops.proofs.Marked.{bit_joins}
use Rattle.lift_stops.proofs.marks.mark.Goals as goal

pub returns-clause-bits : goal.returns-clause-bits
returns-clause-bits c place below = rw (← c.get.ensures.value, c.from.ensures) (bit_joins c.args.set c.get.result place c.get.ensures.in_range)
