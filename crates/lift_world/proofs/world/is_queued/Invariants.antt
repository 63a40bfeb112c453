use Rattle.std.proofs.Common.{◌≡◌, drop}
use Rattle.std.specs.List.{list_any}
use Rattle.lift_world.specs.World.{is_taken_of}
use Rattle.lift_world.proofs.world.is_queued.Given as goal

abbrev pub invariant-loop-batch : goal.invariant-loop-batch
invariant-loop-batch l = list_any (λ b. list_any (is_taken_of l.terminal) b.commands) (drop l.batch-index l.queue) ≡ list_any (λ b. list_any (is_taken_of l.terminal) b.commands) l.queue
