-- The car of the first least measure.
use Rattle.std.proofs.Common.{◌≡◌, ℕ, zero, suc, ◌+◌, ◌<◌, ◌≤◌, ◌⊎◌, List, [], ◌∷◌, length, get_or}
use Rattle.std.proofs.Common.{map, sym, ap, subst, ◌∙◌, inl, inr, arith, take}
use Rattle.std.proofs.lemmas.List.{get_or-map, get_or_default, length-map, take_all}
use Rattle.lift_policy.specs.Eligible.{Rise}
use Rattle.lift_policy.specs.Least.{IsFirstLeastAt}
use Rattle.lift_policy.specs.Choices.{IsFirstLeast}

pub Rise-low : (low : ℕ) (xs : List ℕ) (j d : ℕ) → Rise low xs → j < length xs → low ≤ get_or xs j d
Rise-low low [] j d h inside = absurd (omega arith)
Rise-low low (x ∷ xs) zero d h inside = h.0
Rise-low low (x ∷ xs) (suc j) d h inside =
    let a : j < length xs = omega arith in
    let b = Rise-low (x + 1) xs j d h.1 a in let e = h.0 in omega arith

pub Rise-le : (low : ℕ) (xs : List ℕ) (i j d : ℕ) → Rise low xs → i ≤ j → j < length xs
    → get_or xs i d ≤ get_or xs j d
Rise-le low [] i j d h order inside = absurd (omega arith)
Rise-le low (x ∷ xs) zero zero d h order inside = omega arith
Rise-le low (x ∷ xs) zero (suc j) d h order inside =
    let a : j < length xs = omega arith in let b = Rise-low (x + 1) xs j d h.1 a in omega arith
Rise-le low (x ∷ xs) (suc i) zero d h order inside = absurd (omega arith)
Rise-le low (x ∷ xs) (suc i) (suc j) d h order inside =
    let a : j < length xs = omega arith in let b : i ≤ j = omega arith in
    Rise-le (x + 1) xs i j d h.1 b a

-- the letter at the place of the first least measure
pub first_least_is : (measure : ℕ → ℕ) (letters : List ℕ) (place car : ℕ) → Rise 0 letters
    → IsFirstLeastAt (map measure letters) (length (map measure letters)) place
    → car ≡ get_or letters place car → IsFirstLeast measure letters car
first_least_is measure letters place car rising at found =
    let count : length (map measure letters) ≡ length letters = length-map letters measure in
    let inside : place < length letters = let a = at.inside in omega arith in
    let here : get_or (map measure letters) place 0 ≡ measure car =
    get_or-map measure letters place car 0 inside ∙ ap measure (sym found) in
    let there : (k d : ℕ) → k < length letters
    → get_or (map measure letters) k 0 ≡ measure (get_or letters k d) = λ k d h.
    get_or-map measure letters k d 0 h in
    record {
      member = (place, inside, sym found);
      least = λ k d h. let a =
          at.least k (let g : k < length (map measure letters) = omega arith in g) in let b =
          there k d h in omega arith;
      lowest = λ k d h e. lower k d h e here (there k d h) inside
          (elim (split k) [ inl before ↦ inl (at.first k before) | inr after ↦ inr after ]);
    }
  where
    split : (k : ℕ) → (k < place) ⊎ (place ≤ k)
    split k = cases k place
      where
        cases : (m n : ℕ) → (m < n) ⊎ (n ≤ m)
        cases m zero = inr (omega arith)
        cases zero (suc n) = inl (omega arith)
        cases (suc m) (suc n) = elim
            (cases m n) [ inl h ↦ inl (omega arith) | inr h ↦ inr (omega arith) ]

    lower : (k d : ℕ) → k < length letters → measure (get_or letters k d) ≡ measure car
        → get_or (map measure letters) place 0 ≡ measure car
        → get_or (map measure letters) k 0 ≡ measure (get_or letters k d) → place < length letters
        → (get_or (map measure letters) place 0 < get_or (map measure letters) k 0) ⊎ (place ≤ k)
        → car ≤ get_or letters k d
    lower k d h e here there inside (inl less) = absurd (omega arith)
    lower k d h e here there inside (inr after) =
        let a = Rise-le 0 letters place k car rising after h in
        let b : get_or letters k car ≡ get_or letters k d = get_or_default letters k car d h in
        omega arith

-- the same, once all letters are measured
pub picked_is : (measure : ℕ → ℕ) (letters numbers : List ℕ) (index place car : ℕ) → Rise 0 letters
    → numbers ≡ map measure (take index letters) → length letters ≤ index
    → IsFirstLeastAt numbers (length numbers) place
    → car ≡ get_or letters place car → IsFirstLeast measure letters car
picked_is measure letters numbers index place car rising is end at found =
    let e : numbers ≡ map measure letters = is ∙ ap (map measure) (take_all index letters end) in
    first_least_is measure letters place car rising (let P : List ℕ
    → Type 0 = λ xs. IsFirstLeastAt xs (length xs) place in subst P e at) found
