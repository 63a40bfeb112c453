-- Seats that are told what a terminal has asked: what they took stays.
use Rattle.std.proofs.Common.{◌≡◌, ℕ, zero, suc, ◌+◌, List, [], ◌∷◌, ◌++◌, refl, ap}
use Rattle.lift_desk.specs.Seats.{ClerkPlace, view_at, clerk_with}
use Rattle.lift_desk.specs.Steps.{with_told_asks}
use Rattle.lift_parts.specs.Batch.{turns_of}
use Rattle.lift_parts.specs.Scan.{turns_in, turn_at}

pub turns_told : (seat : List ClerkPlace) (t : ℕ) (words : List ℕ) → turns_of (clerk_with seat t (with_told_asks (view_at seat t) words)) ≡ turns_of seat
turns_told [] t words = refl
turns_told (p ∷ seat) zero words = refl
turns_told (p ∷ seat) (suc t) words = ap (λ l. turns_of (p ∷ []) ++ l) (turns_told seat t words)

pub uses_told : (seat : List ClerkPlace) (t : ℕ) (words : List ℕ) → turns_in (clerk_with seat t (with_told_asks (view_at seat t) words)) ≡ turns_in seat
uses_told [] t words = refl
uses_told (p ∷ seat) zero words = refl
uses_told (p ∷ seat) (suc t) words = ap (λ n. turn_at p + n) (uses_told seat t words)
