use Rattle.std.proofs.Common.{ℕ, ◌<◌}
use Rattle.lift_desk.specs.Seats.{view_at, Owes}
use Rattle.lift_relay.proofs.settling.owes.Given as goal

abbrev pub invariant-loop-t : goal.invariant-loop-t
invariant-loop-t l = (k : ℕ) → k < l.t → ¬ Owes (view_at l.seat k)
