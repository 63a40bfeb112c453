use Rattle.lift_clerk.proofs.Called.{hear_event, hear_nothing}
use Rattle.lift_clerk.proofs.group.hear_once.Goals as goal

pub returns-clause-event : goal.returns-clause-event
returns-clause-event g c = hear_event c.pasts_go_on.ensures c.args.seat.now c.hear.new.seat c.hear.result c.hear.ensures.looked

pub returns-clause-nothing : goal.returns-clause-nothing
returns-clause-nothing g c = hear_nothing c.pasts_go_on.ensures c.args.seat.now c.hear.new.seat c.hear.result c.hear.ensures.looked
