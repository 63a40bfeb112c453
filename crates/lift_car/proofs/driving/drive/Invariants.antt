use Rattle.std.proofs.Common.{◌≡◌, List, length, None, false}
use Rattle.lift_base.specs.declared.command.Reply.{Reply}
use Rattle.lift_car.specs.Drive.{DoesErrands, HaltsBeside, standing}
use Rattle.lift_car.proofs.driving.drive.Given as goal

-- so many answers were heard so far, and the drive goes on
abbrev pub invariant-loop : goal.invariant-loop
invariant-loop g l = record {
  free : (g.P.Port.view l.port).pending ≡ None;
  stays : g.P.Port.place l.port ≡ g.P.Port.place l.initial.port;
  run : (replies : List Reply) × (length replies ≡ l.counter) × DoesErrands g.C.Car.stands g.C.Car.goes (HaltsBeside g.P.Port.view g.C.Halts.halts) l.limits.looks replies
      (standing l.initial.last false (g.P.Port.view l.initial.port) l.initial.car)
      (standing l.last l.arrived (g.P.Port.view l.port) l.car);
}
