use Rattle.lift_desk.proofs.Keeps.{hears_keep}
use Rattle.lift_desk.proofs.seat.Seat.hear.Goals as goal

pub load-word-requires-clause-keeps : goal.load-word-requires-clause-keeps
load-word-requires-clause-keeps c id = hears_keep _ _ _ c.self.invariant.asks
