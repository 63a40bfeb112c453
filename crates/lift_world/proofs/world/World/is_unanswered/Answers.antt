use Rattle.std.proofs.Common.{sym, ◌∙◌}
use Rattle.lift_world.specs.World.{is_taken_of}
use Rattle.lift_world.proofs.Replayed.{unanswered_any}
use Rattle.lift_world.proofs.world.World.is_unanswered.Goals as goal

pub returns : goal.returns
returns c = c.is_on_its_way.ensures ∙ sym (unanswered_any (is_taken_of c.args.terminal) c.args.self.now)
