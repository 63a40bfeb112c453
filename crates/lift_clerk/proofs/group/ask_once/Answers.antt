use Rattle.lift_clerk.proofs.Called.{ask_event}
use Rattle.lift_clerk.proofs.group.ask_once.Goals as goal

pub returns-clause-event : goal.returns-clause-event
returns-clause-event g c = ask_event c.pasts_go_on.ensures c.args.seat.now c.ask.new.seat c.args.number c.args.body c.ask.result c.ask.ensures.waiting c.ask.ensures.ok
