use Rattle.std.proofs.Common.{◌≡◌, ◌≤◌, ◌<◌, ◌-◌, ◌+◌, ℕ, List, length, get_or, sym, subst, arith}
use Rattle.std.proofs.lemmas.List.{get_or_default}
use Rattle.lift_policy.specs.Eligible.{Rise}
use Rattle.lift_policy.specs.lemmas.Least.{Rise-le}
use Rattle.lift_cases.specs.Highest.{IsHighest}
use Rattle.lift_cases.proofs.highest.HighestPolicy.choose.Goals as goal

highest : (letters : List ℕ) (place car : ℕ) → Rise 0 letters → length letters ≤ place + 1 → place < length letters → car ≡ get_or letters place car → IsHighest letters car
highest letters place car rising end inside found = record {
  member = (place, inside, sym found);
  highest = λ k d h.
      let a = Rise-le 0 letters k place car rising (omega arith) inside in
      let b : get_or letters k car ≡ get_or letters k d = get_or_default letters k car d h in omega arith;
}

pub returns-clause-chosen : goal.returns-clause-chosen
returns-clause-chosen c =
    let P : List ℕ → Type 0 = λ xs. IsHighest xs c.index-letters-letters.result in
    let some = c.letters-letters.ensures.lawful.some in
    let e = c.letters-letters.ensures.value in
    subst P e (highest c.letters-letters.result.now (length c.letters-letters.result.now - 1) c.index-letters-letters.result
    (rw e c.letters-letters.ensures.lawful.rising) (omega arith) (let s : 0 < length c.letters-letters.result.now = rw e some in omega arith) c.index-letters-letters.is)
