use Rattle.std.proofs.Common.{◌≡◌, ℕ, ◌<◌, ◌≤◌, suc, length}
use Rattle.lift_desk.specs.Seats.{IsClerkOf, view_at}
use Rattle.lift_desk_tests.proofs.clerk.scan.Given as goal

abbrev pub invariant-loop-t : goal.invariant-loop-t
invariant-loop-t l = record {
  stays : IsClerkOf l.desk l.clerk;
  looked : (u : ℕ) → u < l.t → (view_at l.clerk u).looks ≡ suc (view_at l.initial.clerk u).looks;
  others : (u : ℕ) → l.t ≤ u → view_at l.clerk u ≡ view_at l.initial.clerk u;
  counts : l.answered ≤ l.t;
}
