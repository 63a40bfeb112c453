use Rattle.lift_car.proofs.Single.{one_thing}
use Rattle.lift_car.proofs.lines.lines_ask_for_one_thing.Goals as goal

pub returns : goal.returns
returns c = one_thing
