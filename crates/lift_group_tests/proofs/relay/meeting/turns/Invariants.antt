use Rattle.std.proofs.Common.{◌≡◌}
use Rattle.lift_group_tests.proofs.relay.meeting.turns.Given as goal

abbrev pub invariant-loop : goal.invariant-loop
invariant-loop g l = record { desk : l.clerk.desk ≡ l.fn.clerk.desk }
