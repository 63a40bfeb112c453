use Rattle.std.proofs.Common.{ap, ◌∙◌}
use Rattle.lift_desk.proofs.Keeps.{notes_split}
use Rattle.lift_desk.proofs.ahead.AheadPlace.note.Goals as goal

pub split-requires-clause-keeps : goal.split-requires-clause-keeps
split-requires-clause-keeps c id = notes_split _ _ (c.self.invariant.ahead (ap (λ p. p.seated) c.self.view_is ∙ c.requires.seated))
