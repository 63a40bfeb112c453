use Rattle.lift_clerk.proofs.Pasts.{pasts_go_on}
use Rattle.lift_clerk.proofs.group.pasts_go_on.Goals as goal

pub returns : goal.returns
returns g c = pasts_go_on c.laws.ensures
