use Rattle.std.proofs.Common.{◌≤◌, None, take}
use Rattle.lift_journal.specs.Order.{IsInOrderAfter}
use Rattle.lift_journal.proofs.order.is_in_order.Given as goal

abbrev pub invariant-loop-k : goal.invariant-loop-k
invariant-loop-k l = record {
  behind : 1 ≤ l.k;
  ordered : IsInOrderAfter None (take l.k l.records);
}
