-- A car that is at once where it is sent.
use Rattle.std.specs.Prelude.{◌≡◌}
use Rattle.lift_base.specs.declared.travel.Position.{Position}
use Rattle.lift_base.specs.declared.travel.Stop.{Stop as StopAt}
use Rattle.lift_car.specs.declared.car.ModelCar.{ModelCar}
use Rattle.lift_car.specs.Drive.{position_at}

abbrev pub position_of_car : ModelCar → Position
position_of_car car = car.position

abbrev pub IsSentTo : ModelCar → StopAt → ModelCar → Type 0
IsSentTo before stop after = after.position ≡ position_at stop
