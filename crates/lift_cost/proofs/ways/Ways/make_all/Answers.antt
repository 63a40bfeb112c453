use Rattle.std.proofs.Common.{◌≡◌, ◌<◌, ◌+◌, ◌*◌, ◌++◌, ◌∷◌, List, drop, get_or, length, ap, sym, subst, ◌∙◌, arith}
use Rattle.std.proofs.lemmas.Bool.{eqb-false}
use Rattle.std.proofs.lemmas.List.{drop_more}
use Rattle.std.proofs.lemmas.List.Elements.{recursion_from_All}
use Rattle.lift_base.specs.declared.travel.Halt.{Halt}
use Rattle.lift_building.specs.Plan.{Plan}
use Rattle.lift_cost.specs.Ways.{floor_after, leaves_after, persons_along}
use Rattle.lift_cost.specs.Delays.{persons_in, IsOnWays}
use Rattle.lift_cost.specs.declared.ways.Ways.{Ways}
use Rattle.lift_cost.proofs.Delayed.{both_make, within_after}
use Rattle.lift_cost.proofs.ways.Ways.make_all.Goals as goal

pub returns-clause-on : goal.returns-clause-on
returns-clause-on c start made made_with on =
    let plan : Plan = c.args.building.now in
    let persons = persons_in c.args.leaving.now in
    let first : Halt = get_or c.args.halts.now 0 c.index-halts-0.result in
    let behind : List Halt = drop 1 c.args.halts.now in
    let delay = c.delay_at-delay.result in
    let after : Ways = record {
      floor = c.go_along-floor.result.0;
      floor_with = c.go_along-floor.result.0;
      leaves_with = c.go_along-floor.result.1;
      delay = delay;
      later = c.args.self.later + c.times_along.result;
    } in
    let some = eqb-false (length c.args.halts.now) 0 (sym c.is_empty.ensures ∙ c.if-is_empty.false) in
    let whole : c.args.halts.now ≡ first ∷ behind = drop_more c.args.halts.now 0 c.index-halts-0.result (omega (arith, some)) in
    subst (λ (halts : List Halt). IsOnWays plan persons start (made ++ halts) (made_with ++ halts) after) (sym whole)
    (both_make plan persons start made made_with c.args.self first behind _ _ delay _ on c.delay_at-delay.ensures.value
    (c.times_along.ensures.value ∙ ap (λ (halts : List Halt). delay * persons_along persons halts) whole)
    (c.go_along-floor.ensures.floor ∙ ap (λ (halts : List Halt). floor_after c.args.self.floor_with halts) whole)
    (c.go_along-floor.ensures.leaves ∙ ap (λ (halts : List Halt). leaves_after plan c.args.self.floor_with c.args.self.leaves_with halts) whole))

pub returns-clause-here : goal.returns-clause-here
returns-clause-here c here =
    let within = within_after c.args.building.now.floors c.args.self.floor_with c.args.halts.now here (recursion_from_All (λ (halt : Halt). halt.floor < c.args.building.now.floors) c.args.halts.now c.requires.within) in
    omega (arith, c.go_along-floor.ensures.floor, within)
