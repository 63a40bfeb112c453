use Rattle.std.proofs.Common.{ap, ◌∙◌}
use Rattle.lift_desk.proofs.Keeps.{unites_join, compares_keep, seats_split}
use Rattle.lift_desk.proofs.seat.Seat.share.Goals as goal

pub join-requires-clause-keeps : goal.join-requires-clause-keeps
join-requires-clause-keeps c id another = unites_join _ _ _ _ c.self.invariant.asks c.requires.clerk.2 c.requires.clerk.3

pub load-requires-clause-keeps : goal.load-requires-clause-keeps
load-requires-clause-keeps c id =
    let j = c.join.ensures in
    compares_keep _ _ _ (ap (λ s. s.view.asks) j ∙ c.self.invariant.asks) (ap (λ s. s.view.answers) j ∙ c.requires.clerk.2)

pub split-requires-clause-keeps : goal.split-requires-clause-keeps
split-requires-clause-keeps c id =
    let j = c.join.ensures in
    let l = ap (λ m. m.0) c.load.ensures.tells.0 in
    seats_split _ _ (ap (λ v. v.asks) l ∙ ap (λ s. s.view.asks) j ∙ c.self.invariant.asks) (ap (λ v. v.answers) l ∙ ap (λ s. s.view.answers) j ∙ c.requires.clerk.2)
