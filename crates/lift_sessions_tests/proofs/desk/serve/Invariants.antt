use Rattle.lift_desk.specs.Seats.{IsClerkOf}
use Rattle.lift_sessions_tests.proofs.desk.serve.Given as goal

abbrev pub invariant-loop : goal.invariant-loop
invariant-loop l = IsClerkOf l.desk l.clerk
