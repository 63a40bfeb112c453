-- Places of halts in a table.
use Rattle.std.proofs.Common.{◌≡◌, ◌≢◌, ℕ, ◌+◌, ◌-◌, ◌*◌, ◌<◌, ◌≤◌, ◌==◌, true, false, refl, arith}
use Rattle.std.proofs.Common.{inl, inr}
use Rattle.std.proofs.lemmas.Bool.{cases_Bool, eqb-true, eqb-false}
use Rattle.lift_base.specs.Travel.{pass_number}
use Rattle.lift_base.specs.declared.limits.TheConstants.{MOST_FLOORS}
use Rattle.lift_base.specs.declared.travel.Pass.{Pass}
use Rattle.lift_base.specs.declared.travel.Pass.TheVariants.{First, Second, Third}
use Rattle.lift_base.specs.declared.travel.Halt.{Halt}
use Rattle.lift_stops.specs.StopList.{same_pass, same_halt}
use Rattle.lift_stops.specs.Leaving.{place_of}

pub pass_below : (pass : Pass) → MOST_FLOORS * (pass_number pass - 1) ≤ 2 * MOST_FLOORS
pass_below First = omega arith
pass_below Second = omega arith
pass_below Third = omega arith

-- a halt's place is within the table
pub place_within : (halt : Halt) → halt.floor < MOST_FLOORS → place_of halt < 3 * MOST_FLOORS
place_within halt low = omega (arith, low, pass_below halt.pass)

pub passes_apart : (p q : Pass) (f g : ℕ) → f < MOST_FLOORS → g < MOST_FLOORS → same_pass p q ≡ false
    → MOST_FLOORS * (pass_number p - 1) + f ≢ MOST_FLOORS * (pass_number q - 1) + g
passes_apart First First f g low_f low_g other = absurd cc
passes_apart First Second f g low_f low_g other = omega arith
passes_apart First Third f g low_f low_g other = omega arith
passes_apart Second First f g low_f low_g other = omega arith
passes_apart Second Second f g low_f low_g other = absurd cc
passes_apart Second Third f g low_f low_g other = omega arith
passes_apart Third First f g low_f low_g other = omega arith
passes_apart Third Second f g low_f low_g other = omega arith
passes_apart Third Third f g low_f low_g other = absurd cc

pub same_passes : (p q : Pass) → same_pass p q ≡ true → pass_number p ≡ pass_number q
same_passes First First same = refl
same_passes First Second same = absurd cc
same_passes First Third same = absurd cc
same_passes Second First same = absurd cc
same_passes Second Second same = refl
same_passes Second Third same = absurd cc
same_passes Third First same = absurd cc
same_passes Third Second same = absurd cc
same_passes Third Third same = refl

-- two halts have different places
pub places_apart : (a b : Halt) → a.floor < MOST_FLOORS → b.floor < MOST_FLOORS → same_halt a b ≡ false
    → place_of b ≢ place_of a
places_apart a b low_a low_b other = elim (cases_Bool (same_pass a.pass b.pass)) [
  | inl same ↦
      let floors : (a.floor == b.floor) ≡ false = rw same at other in
      let differ = eqb-false a.floor b.floor floors in
      let passes = same_passes a.pass b.pass same in
      omega (arith, differ, passes)
  | inr apart ↦
      let places = passes_apart a.pass b.pass a.floor b.floor low_a low_b apart in
      omega (arith, places)
]

-- a halt has one place
pub same_place : (a b : Halt) → same_halt a b ≡ true → place_of b ≡ place_of a
same_place a b same = elim (cases_Bool (same_pass a.pass b.pass)) [
  | inl alike ↦
      let floors : (a.floor == b.floor) ≡ true = rw alike at same in
      let level = eqb-true a.floor b.floor floors in
      let passes = same_passes a.pass b.pass alike in
      omega (arith, level, passes)
  | inr apart ↦
      let no : false ≡ true = rw apart at same in
      absurd cc
]
