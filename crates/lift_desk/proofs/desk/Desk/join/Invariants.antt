use Rattle.std.proofs.Common.{◌≡◌, List, ◌++◌, length}
use Rattle.lift_desk.specs.Seats.{ClerkPlace, with_looks_of}
use Rattle.lift_desk.proofs.desk.Desk.join.Given as goal

abbrev pub invariant-loop-place : goal.invariant-loop-place
invariant-loop-place l = record {
  can_next : (goal.iterator-loop-place).can_next l.place-iterator;
  is_finite : (goal.iterator-loop-place).is_finite l.place-iterator;
  -- the places to which seats were joined, and those that are left
  places : (joined : List ClerkPlace) × (joined ++ l.place-iterator ≡ l.fn.clerk) × (length joined ≡ length l.whole.items);
  -- the seats that were joined in, and those that are left
  ahead : (joined : List ClerkPlace) × (joined ++ l.seats ≡ l.fn.ahead) × (length joined ≡ length l.whole.items);
  whole : l.whole.items ++ with_looks_of l.seats l.place-iterator ≡ with_looks_of l.fn.ahead l.fn.clerk;
}
