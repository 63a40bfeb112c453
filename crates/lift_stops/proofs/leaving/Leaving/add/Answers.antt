use Rattle.std.proofs.Common.{◌≡◌, ◌≤◌, ◌*◌, List, ℕ, length, get_or, ap, sym, subst, ◌∙◌, arith}
use Rattle.lift_base.specs.declared.travel.Halt.{Halt}
use Rattle.lift_stops.specs.StopList.{halt_at}
use Rattle.lift_stops.specs.Leaving.{AreLeaving, leaving_at}
use Rattle.lift_stops.proofs.Leavings.{one_leaves}
use Rattle.lift_stops.proofs.leaving.Leaving.add.Goals as goal

pub returns-clause-added : goal.returns-clause-added
returns-clause-added c rows position short made leaving =
    let row = c.args.row.now in
    let at = c.goal_of-place.ensures.value position made in
    let table : List ℕ = c.self.inside.persons in
    let own : Halt = halt_at position row row.to in
    let place = c.goal_of-place.result in
    let before : AreLeaving rows position table = subst (AreLeaving rows position) (sym c.self.view_is) leaving in
    let here : get_or table place 0 ≡ leaving_at rows position own =
    ap (λ place. get_or table place 0) at ∙ before.at_each own c.goal_of-place.ensures.floor in
    let few : get_or table place 0 ≤ 15 * length rows = omega (arith, here, before.limit own) in
    one_leaves rows row position table place _ c.goal_of-place.ensures.floor
    (omega (arith, c.get.ensures.value, c.get.ensures.in_range)) at
    (omega (arith, few, short, c.from-persons.ensures, c.get.ensures.value, c.get.ensures.in_range)) before
