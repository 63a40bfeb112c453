use Rattle.lift_relay.proofs.Allocated.{none_in_hand}
use Rattle.lift_relay.proofs.allocator.Allocator.turn.Goals as goal

pub returns-clause-sends : goal.returns-clause-sends
returns-clause-sends g c = none_in_hand (g.P.Policy.chooses c.args.self.now.policy) _ _ _ c.send_and_scan.ensures
