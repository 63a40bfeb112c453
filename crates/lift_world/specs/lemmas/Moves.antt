-- The ways in which an event is found possible: what holds before it and of what it leads to holds
-- after it.
use Rattle.std.proofs.Common.{◌≡◌, Bool, true, false, cond, Option, Some, None, refl}
use Rattle.std.specs.Prelude.{unwrap_or, option_and_then, option_map}
use Rattle.lift_world.specs.Decided.{when}
use Rattle.lift_world.specs.World.{World}

-- what is possible nowhere, whatever the test says
pub never : {A : Type 0} (b : Bool) → cond b None None ≡ (let none : Option A = None in none)
never true = refl
never false = refl

module _ (P : World → Type 0) where
  pub hold_when : (w x : World) (b : Bool) → P w → (b ≡ true → P x) → P (unwrap_or (when b x) w)
  hold_when w x true k h = h refl
  hold_when w x false k h = k

  pub hold_if : (w : World) (o : Option World) (b : Bool) → P w → (b ≡ true → P (unwrap_or o w))
      → P (unwrap_or (cond b o None) w)
  hold_if w o true k h = h refl
  hold_if w o false k h = k

  pub hold_then : {A : Type 0} (w : World) (f : A → Option World) (o : Option A) → P w
      → ((x : A) → o ≡ Some x → P (unwrap_or (f x) w)) → P (unwrap_or (option_and_then f o) w)
  hold_then w f None k g = k
  hold_then w f (Some x) k g = g x refl

  pub hold_map : {A : Type 0} (w : World) (f : A → World) (o : Option A) → P w
      → ((x : A) → o ≡ Some x → P (f x)) → P (unwrap_or (option_map f o) w)
  hold_map w f None k g = k
  hold_map w f (Some x) k g = g x refl
