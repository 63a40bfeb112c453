use Rattle.std.proofs.Common.{ap, ◌∙◌}
use Rattle.lift_desk.proofs.Keeps.{unites_join, meets_keep, untold_split}
use Rattle.lift_desk.proofs.seat.Seat.meet.Goals as goal

pub join-requires-clause-keeps : goal.join-requires-clause-keeps
join-requires-clause-keeps c id another = unites_join _ _ _ _ c.self.invariant.asks c.requires.clerk.2 c.requires.clerk.3

pub load-word-requires-clause-keeps : goal.load-word-requires-clause-keeps
load-word-requires-clause-keeps c id =
    let j = c.join.ensures in
    meets_keep _ _ _ (ap (λ s. s.view.asks) j ∙ c.self.invariant.asks) (ap (λ s. s.view.answers) j ∙ c.requires.clerk.2)

pub split-requires-clause-keeps : goal.split-requires-clause-keeps
split-requires-clause-keeps c id =
    let j = c.join.ensures in
    let l = ap (λ m. m.0) c.load-word.ensures.tells.1 in
    untold_split _ _ (ap (λ v. v.asks) l ∙ ap (λ s. s.view.asks) j ∙ c.self.invariant.asks) (ap (λ v. v.answers) l ∙ ap (λ s. s.view.answers) j ∙ c.requires.clerk.2)
