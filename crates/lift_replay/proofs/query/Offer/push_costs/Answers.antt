use Rattle.std.proofs.Common.{◌++◌, ◌∙◌, ap, string_bytes, subst, length, ◌<◌, List, ℕ, sym}
use Rattle.lift_policy.specs.Choices.{total_cost_at}
use Rattle.lift_replay.specs.Query.{all_text}
use Rattle.lift_replay.specs.Report.{cost_text}
use Rattle.lift_replay.proofs.Prices.{eligible_at, prices_all}
use Rattle.lift_replay.proofs.query.Offer.push_costs.Goals as goal

pub push_cost_of-requires-clause-eligible : goal.push_cost_of-requires-clause-eligible
push_cost_of-requires-clause-eligible c =
    eligible_at c.args.self.now.building.now c.args.self.now.view.now c.args.self.now.call.now c.letters-car-items.result.now c.loop-car.car-index c.car-item.result
    (c.letters-car-items.ensures.value ∙ c.in-Some.ensures.some) c.loop-car-test.true c.car-item.is

pub returns-after-loop-car : goal.returns-after-loop-car
returns-after-loop-car c =
    let cost = total_cost_at c.args.self.now.building.now c.args.self.now.view.now c.args.self.now.call.now in
    let before = string_bytes c.args.report.now in
    let P : List ℕ → Type 0 = λ cars. 0 < length cars in
    c.loop-car.invariant
    ∙ prices_all cost before c.letters-car-items.result.now c.loop-car.car-index c.loop-car-test.false (subst P (sym c.letters-car-items.ensures.value) c.letters-car-items.ensures.lawful.some)
    ∙ ap (λ cars. before ++ all_text (λ car. cost_text car (cost car)) cars) (c.letters-car-items.ensures.value ∙ c.in-Some.ensures.some)
