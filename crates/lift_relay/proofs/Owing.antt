-- Seats that have answered all that they took owe nothing.
use Rattle.std.proofs.Common.{◌≡◌, ℕ, zero, suc, ◌<◌, List, [], ◌∷◌, length, get_or, refl, sym, subst, arith}
use Rattle.lift_desk.specs.Seats.{ClerkPlace, no_place, Owes, OwesNothing}
use Rattle.lift_parts.specs.Flusher.{AllAnsweredBy}

same_at : (places : List ClerkPlace) (k : ℕ) (d e : ClerkPlace) → k < length places → get_or places k d ≡ get_or places k e
same_at [] k d e below = absurd (omega arith)
same_at (p ∷ places) zero d e below = refl
same_at (p ∷ places) (suc k) d e below = same_at places k d e (omega arith)

pub nothing_owed : (places : List ClerkPlace) (turns : List ℕ) → AllAnsweredBy places turns → OwesNothing places
nothing_owed places turns all_answered k d below = subst (λ (p : ClerkPlace). ¬ Owes p.view) (sym (same_at places k d no_place below)) (all_answered k).0
