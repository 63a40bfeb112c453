use Rattle.lift_desk.specs.Seats.{IsSeatOf, IsClerkOf}
use Rattle.lift_sessions_tests.proofs.desk.successes.Given as goal

abbrev pub invariant-loop-step : goal.invariant-loop-step
invariant-loop-step l = IsSeatOf l.desk l.seat × IsClerkOf l.desk l.clerk
