use Rattle.lift_desk.specs.Seats.{IsSeatOf}
use Rattle.lift_group_tests.proofs.relay.meeting.hears_letter.Given as goal

abbrev pub invariant-loop : goal.invariant-loop
invariant-loop l = record { stays : IsSeatOf l.desk l.seat }
