use Rattle.std.proofs.Common.{◌≡◌, take}
use Rattle.lift_policy.proofs.schedules.schedule_of.Given as goal

abbrev pub invariant-loop-row : goal.invariant-loop-row
invariant-loop-row l = l.schedule ≡ record { position = l.fn.position; rows = take l.row-index l.row-items }
