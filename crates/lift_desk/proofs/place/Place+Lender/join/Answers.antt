use Rattle.std.proofs.Common.{rules, ap, ◌∙◌}
use Rattle.lift_desk.proofs.Keeps.{ahead_join}
use Rattle.lift_desk.proofs.place.Place+Lender.join.Goals as goal

pub join-requires-clause-keeps : goal.join-requires-clause-keeps
join-requires-clause-keeps c id another =
    ahead_join _ _ _ _ (c.self.invariant.answers (ap (λ p. p.seated) c.self.view_is ∙ c.requires.seated.0)) (c.into_looker.ensures.ahead (search rules))
