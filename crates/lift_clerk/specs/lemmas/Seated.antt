-- What is so of the words taken at each seat, and of no words, is so at each terminal.
use Rattle.std.proofs.Common.{◌≡◌, ℕ, zero, suc, ◌<◌, ◌≤◌, Bool, true, false, List, [], ◌∷◌, length, refl, sym, subst, arith}
use Rattle.std.specs.Prelude.{nat_lt}
use Rattle.std.proofs.lemmas.Bool.Decides.{nat_tests}
use Rattle.lift_desk.specs.Seats.{ClerkPlace, view_at}

no_seat : (places : List ClerkPlace) (t : ℕ) → length places ≤ t → (view_at places t).taken ≡ []
no_seat [] t h = refl
no_seat (p ∷ places) zero h = absurd (omega arith)
no_seat (p ∷ places) (suc t) h = no_seat places t (omega arith)

below : (m n : ℕ) → nat_lt m n ≡ true → m < n
below m n e = grind (arith, nat_tests)

beyond : (m n : ℕ) → nat_lt m n ≡ false → n ≤ m
beyond m n e = grind (arith, nat_tests)

module _ (Is : List ℕ → Type 0) (nothing : Is []) (places : List ClerkPlace) (t : ℕ) (has : t < length places → Is (view_at places t).taken) where
  by_seat : (b : Bool) → nat_lt t (length places) ≡ b → Is (view_at places t).taken
  by_seat true is = has (below _ _ is)
  by_seat false is = subst Is (sym (no_seat places t (beyond _ _ is))) nothing

  pub taken_at : Is (view_at places t).taken
  taken_at = by_seat (nat_lt t (length places)) refl
