use Rattle.std.proofs.Common.{◌≡◌, ◌++◌, length}
use Rattle.lift_desk.specs.Seats.{ahead_from}
use Rattle.lift_desk.proofs.desk.Desk.split.Given as goal

abbrev pub invariant-loop-place : goal.invariant-loop-place
invariant-loop-place l = record {
  can_next : (goal.iterator-loop-place).can_next l.place-iterator;
  is_finite : (goal.iterator-loop-place).is_finite l.place-iterator;
  behind : l.behind.items ++ l.place-iterator ≡ l.fn.clerk;
  ahead : l.ahead.items ++ ahead_from l.place-iterator ≡ ahead_from l.fn.clerk;
  same : length l.ahead.items ≡ length l.behind.items;
}
