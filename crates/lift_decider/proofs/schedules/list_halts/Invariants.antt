use Rattle.std.proofs.Common.{◌≡◌}
use Rattle.lift_decider.proofs.schedules.list_halts.Given as goal

abbrev pub invariant-loop-place : goal.invariant-loop-place
invariant-loop-place l = l.schedules ≡ l.initial.schedules
