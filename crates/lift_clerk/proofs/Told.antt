-- What changes where a clerk is told of asks.
use Rattle.std.proofs.Common.{◌≡◌, inr, ℕ, zero, suc, List, [], ◌∷◌, refl, sym, subst}
use Rattle.lift_desk.specs.Steps.{with_told_asks}
use Rattle.lift_desk.specs.Seats.{ClerkPlace, view_at, clerk_with}
use Rattle.lift_clerk.specs.Clerk.{ClerkState, IsToldAt}
use Rattle.lift_clerk.specs.Steps.{ClerkRests}

abbrev told_at : List ClerkPlace → ℕ → List ℕ → List ClerkPlace
told_at clerk t words = clerk_with clerk t (with_told_asks (view_at clerk t) words)

-- what was taken and answered stays
same_words : (clerk : List ClerkPlace) (t : ℕ) (words : List ℕ) (u : ℕ)
    → ((view_at (told_at clerk t words) u).taken ≡ (view_at clerk u).taken) × ((view_at (told_at clerk t words) u).answered ≡ (view_at clerk u).answered)
same_words [] t words u = (refl, refl)
same_words (p ∷ clerk) zero words zero = (refl, refl)
same_words (p ∷ clerk) zero words (suc u) = (refl, refl)
same_words (p ∷ clerk) (suc t) words zero = (refl, refl)
same_words (p ∷ clerk) (suc t) words (suc u) = same_words clerk t words u

pub tells_rest : {D P : Type 0} → (before after : ClerkState D P) (t : ℕ) (words : List ℕ) → IsToldAt before after t words → ClerkRests before after
tells_rest before after t words is =
    subst (ClerkRests before) (sym is)
    (record { desk = refl; words = λ u. same_words before.seat t words u; state = λ whole. refl; register = refl; doubt = refl; plan = refl; broken = inr refl })
