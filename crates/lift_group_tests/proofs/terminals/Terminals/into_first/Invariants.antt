use Rattle.std.proofs.Common.{◌≡◌}
use Rattle.lift_desk.specs.Seats.{IsSeatOf}
use Rattle.lift_group_tests.proofs.terminals.Terminals.into_first.Given as goal

abbrev pub invariant-loop : goal.invariant-loop
invariant-loop g l = record {
  desk : l.group.desk.now ≡ l.fn.self.desk.now;
  seat : IsSeatOf l.group.desk.now l.seat;
}
