use Rattle.std.proofs.Common.{arith}
use Rattle.lift_world.proofs.Replayed.{batch_front}
use Rattle.lift_world.proofs.world.World.recovered.Goals as goal

pub returns-in-WithBatch : goal.returns-in-WithBatch
returns-in-WithBatch c = rw (c.in-WithBatch.is, ← c.self.view_is) (batch_front c.self.inside.accepted.items c.self.inside.safe c.self.inside.flight.upto c.max.result (omega arith))
