use Rattle.lift_desk.specs.Seats.{IsSeatOf, IsClerkOf}
use Rattle.lift_sessions_tests.proofs.desk.use_turns.Given as goal

abbrev pub invariant-loop : goal.invariant-loop
invariant-loop l = IsSeatOf l.desk l.seat × IsClerkOf l.desk l.clerk
