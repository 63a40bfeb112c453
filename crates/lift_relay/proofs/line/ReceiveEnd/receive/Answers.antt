use Rattle.lift_relay.proofs.Moves.{receives, receiver_learns}
use Rattle.lift_relay.proofs.line.ReceiveEnd.receive.Goals as goal

pub pop-requires : goal.pop-requires
pop-requires g c = let i = c.self.invariant in (i.of_line, receives _ _ i.begun i.receives, receiver_learns _ _ i.begun i.receives)
