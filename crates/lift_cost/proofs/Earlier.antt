-- Halts of a list, floors below a limit, and either of two tests.
use Rattle.std.proofs.Common.{◌≡◌, ℕ, ◌<◌, Bool, true, false, ◌||◌, List, refl, inl, inr}
use Rattle.std.proofs.lemmas.Bool.{cases_Bool}
use Rattle.std.specs.List.{AllByRecursion}
use Rattle.lift_base.specs.declared.travel.Halt.{Halt}
use Rattle.lift_stops.specs.StopList.{same_halt}
use Rattle.lift_stops.specs.Parts.{has_halt}

abbrev pub AllBelow : ℕ → List Halt → Type 0
AllBelow floors hs = AllByRecursion (λ h. h.floor < floors) hs

pub or_right : (a b : Bool) → b ≡ true → (a || b) ≡ true
or_right true b e = refl
or_right false b e = e

pub neither : (a b : Bool) → (a || b) ≡ false → (a ≡ false) × (b ≡ false)
neither true b e = absurd cc
neither false b e = (refl, e)

pub not_here : (g h : Halt) (gs : List Halt) → ((k : Halt) → same_halt g k ≡ true → has_halt k gs ≡ false) → has_halt h gs ≡ true → same_halt g h ≡ false
not_here g h gs differ has =
    elim (cases_Bool (same_halt g h)) [
      | inl here ↦ absurd (let missing = differ h here in cc)
      | inr there ↦ there
    ]
