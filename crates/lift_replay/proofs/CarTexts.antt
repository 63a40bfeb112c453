-- The lines of the open calls, car by car.
use Rattle.std.proofs.Common.{◌≡◌, ℕ, ◌+◌, ◌<◌, ◌≤◌, List, [], ◌∷◌, ◌++◌, get_or, take, sym, ap, ◌∙◌, arith}
use Rattle.std.specs.List.{flat_map}
use Rattle.std.proofs.lemmas.List.{take_more, take_all, append_assoc, flat_map_more}
use Rattle.std.proofs.lemmas.List.FromFn.{length-range_with_len, get_or-range_with_len}
use Rattle.lift_base.specs.declared.limits.TheConstants.{MOST_CARS}
use Rattle.lift_register.specs.Register.{cars}

next_car : (i : ℕ) → i < MOST_CARS → take (i + 1) cars ≡ take i cars ++ i ∷ []
unfolding cars
next_car i below =
    let car : get_or cars i 0 ≡ i = omega (arith, get_or-range_with_len 0 MOST_CARS i 0 below) in
    take_more cars i 0 (omega (arith, length-range_with_len 0 MOST_CARS, below)) ∙ ap (λ car. take i cars ++ car ∷ []) car

no_more_cars : (i : ℕ) → MOST_CARS ≤ i → take i cars ≡ cars
unfolding cars
no_more_cars i past = take_all i cars (omega (arith, length-range_with_len 0 MOST_CARS, past))

-- after the lines of the cars before it stand those of this car
pub lines_more : (f : ℕ → List ℕ) (head : List ℕ) (i : ℕ) → i < MOST_CARS → (head ++ flat_map f (take i cars)) ++ f i ≡ head ++ flat_map f (take (i + 1) cars)
lines_more f head i below = flat_map_more f head (take i cars) i ∙ ap (λ list. head ++ flat_map f list) (sym (next_car i below))

-- the lines of all cars
pub lines_all : (f : ℕ → List ℕ) (before head : List ℕ) (i : ℕ) → MOST_CARS ≤ i → (before ++ head) ++ flat_map f (take i cars) ≡ before ++ (head ++ flat_map f cars)
lines_all f before head i past = append_assoc before head (flat_map f (take i cars)) ∙ ap (λ list. before ++ (head ++ flat_map f list)) (no_more_cars i past)
