use Rattle.std.proofs.Common.{arith}
use Rattle.lift_cost.proofs.Delayed.{one_makes}
use Rattle.lift_cost.proofs.ways.Ways.make_alone.Goals as goal

pub returns-clause-on : goal.returns-clause-on
returns-clause-on c persons start made made_with none on =
    one_makes c.args.building.now persons start made made_with c.args.self c.args.halt.now _ _ on none
    (omega (arith, c.flight-flight.ensures.value, c.door_ms-door_ms.ensures.value)) (omega (arith, c.flight-flight.ensures.value, c.door_ms-door_ms.ensures.value))
