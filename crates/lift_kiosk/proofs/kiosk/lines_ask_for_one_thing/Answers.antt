use Rattle.lift_kiosk.proofs.Single.{one_thing}
use Rattle.lift_kiosk.proofs.kiosk.lines_ask_for_one_thing.Goals as goal

pub returns : goal.returns
returns c = one_thing
