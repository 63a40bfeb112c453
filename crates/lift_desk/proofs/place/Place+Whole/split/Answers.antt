use Rattle.std.proofs.Common.{ap, ◌∙◌}
use Rattle.lift_desk.proofs.Keeps.{ahead_split}
use Rattle.lift_desk.proofs.place.Place+Whole.split.Goals as goal

pub split-requires-clause-keeps : goal.split-requires-clause-keeps
split-requires-clause-keeps c id =
    let seated = ap (λ p. p.seated) c.self.view_is ∙ c.requires.seated in
    let i = c.self.invariant in
    ahead_split _ _ (i.answers seated) i.in_order (i.lends seated)
