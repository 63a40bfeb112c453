use Rattle.std.proofs.Common.{List, ℕ, length, subst}
use Rattle.lift_policy.specs.Least.{IsFirstLeastAt}
use Rattle.lift_policy.specs.Choices.{IsFirstLeast}
use Rattle.lift_policy.specs.lemmas.Least.{picked_is}
use Rattle.lift_policy.proofs.policies.pick.Goals as goal

pub returns : goal.returns
returns g c =
    let m : ℕ → ℕ = g.M.Measure.measures c.args.policy.now c.args.building.now c.args.view.now c.args.call.now in
    let P : List ℕ → Type 0 = λ xs. IsFirstLeast m xs c.index-letters-first_least.result in
    let Q : List ℕ → Type 0 = λ xs. IsFirstLeastAt xs (length xs) c.first_least.result in
    let h : IsFirstLeast m c.letters-letters.result.now c.index-letters-first_least.result =
    picked_is m c.letters-letters.result.now c.loop-car.measures.items c.loop-car.car-index c.first_least.result c.index-letters-first_least.result
    (let R = c.letters-letters.ensures.lawful.rising in rw c.letters-letters.ensures.value R)
    c.loop-car.invariant c.loop-car-test.false (subst Q c.deref.ensures.0 c.first_least.ensures) c.index-letters-first_least.is in
    subst P c.letters-letters.ensures.value h
