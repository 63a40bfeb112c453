use Rattle.lift_desk.proofs.Agreed.{agree}
use Rattle.lift_desk.proofs.laws.seats_agree.Goals as goal

pub returns : goal.returns
returns c = agree
