use Rattle.std.proofs.Common.{ap, ◌∙◌}
use Rattle.lift_desk.proofs.Keeps.{ahead_unites_join, compares_ahead_keep, ahead_parts_split}
use Rattle.lift_desk.proofs.seat.Seat.share_ahead.Goals as goal

pub join-requires-clause-keeps : goal.join-requires-clause-keeps
join-requires-clause-keeps c id another = ahead_unites_join _ _ _ _ c.self.invariant.asks c.requires.rights.0 c.requires.rights.1

pub load-requires-clause-keeps : goal.load-requires-clause-keeps
load-requires-clause-keeps c id =
    let j = c.join.ensures in
    compares_ahead_keep _ _ _ (ap (λ s. s.view.asks) j ∙ c.self.invariant.asks) (ap (λ s. s.view.looks_ahead) j ∙ c.requires.rights.0)

pub split-requires-clause-keeps : goal.split-requires-clause-keeps
split-requires-clause-keeps c id =
    let j = c.join.ensures in
    let l = ap (λ m. m.0) c.load.ensures.tells.0 in
    ahead_parts_split _ _ (ap (λ v. v.asks) l ∙ ap (λ s. s.view.asks) j ∙ c.self.invariant.asks) (ap (λ v. v.looks_ahead) l ∙ ap (λ s. s.view.looks_ahead) j ∙ c.requires.rights.0)
