use Rattle.lift_parts.proofs.OrderedAhead.{orders_ahead}
use Rattle.lift_parts.proofs.tie.rule_orders_ahead.Goals as goal

pub returns : goal.returns
returns c = orders_ahead c.seats_agree.ensures
