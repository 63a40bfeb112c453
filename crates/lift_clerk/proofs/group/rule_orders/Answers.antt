use Rattle.lift_clerk.proofs.Ordered.{orders}
use Rattle.lift_clerk.proofs.group.rule_orders.Goals as goal

pub returns : goal.returns
returns g c = orders c.seats_agree.ensures
