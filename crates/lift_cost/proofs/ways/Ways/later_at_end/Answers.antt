use Rattle.std.proofs.Common.{◌≡◌, ◌+◌, ◌*◌, ◌++◌, ◌∷◌, List, drop, get_or, length, ap, sym, subst, ◌∙◌, arith}
use Rattle.std.proofs.lemmas.Bool.{eqb-false}
use Rattle.std.proofs.lemmas.List.{drop_more}
use Rattle.lift_base.specs.declared.travel.Halt.{Halt}
use Rattle.lift_building.specs.Plan.{Plan}
use Rattle.lift_cost.specs.Ways.{weighted, persons_along}
use Rattle.lift_cost.specs.Delays.{persons_in}
use Rattle.lift_cost.proofs.Delayed.{later_there}
use Rattle.lift_cost.proofs.ways.Ways.later_at_end.Goals as goal

pub returns-clause-value : goal.returns-clause-value
returns-clause-value c start made made_with on =
    let plan : Plan = c.args.building.now in
    let persons = persons_in c.args.leaving.now in
    let first : Halt = get_or c.args.halts.now 0 c.index-halts-0.result in
    let behind : List Halt = drop 1 c.args.halts.now in
    let delay = c.delay_at-delay.result in
    let some = eqb-false (length c.args.halts.now) 0 (sym c.is_empty.ensures ∙ c.if-is_empty.false) in
    let whole : c.args.halts.now ≡ first ∷ behind = drop_more c.args.halts.now 0 c.index-halts-0.result (omega (arith, some)) in
    subst (λ (halts : List Halt). weighted plan persons start 0 (made_with ++ halts) ≡ weighted plan persons start 0 (made ++ halts) + (c.args.self.now.later + c.times_along.result)) (sym whole)
    (later_there plan persons start made made_with c.args.self.now first behind delay _ on c.delay_at-delay.ensures.value
    (c.times_along.ensures.value ∙ ap (λ (halts : List Halt). delay * persons_along persons halts) whole))
