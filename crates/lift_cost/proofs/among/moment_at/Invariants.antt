use Rattle.std.proofs.Common.{◌≡◌, drop}
use Rattle.lift_cost.specs.Cost.{moment_at}
use Rattle.lift_cost.proofs.among.moment_at.Given as goal

abbrev pub invariant-loop-i : goal.invariant-loop-i
invariant-loop-i l = moment_at l.halt (drop l.i l.halts) (drop l.i l.moments) ≡ moment_at l.halt l.halts l.moments
