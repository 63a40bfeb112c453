use Rattle.std.proofs.Common.{arith}
use Rattle.lift_stops.proofs.Marked.{first-up, first-down}
use Rattle.lift_stops.proofs.marks.first_of.Goals as goal

pub returns-in-Up-clause-first : goal.returns-in-Up-clause-first
returns-in-Up-clause-first c = rw c.in-Up.is (first-up c.args.set (omega arith) (omega arith))

pub returns-in-Down-clause-first : goal.returns-in-Down-clause-first
returns-in-Down-clause-first c = rw c.in-Down.is (first-down c.args.set (omega arith) (omega arith))
