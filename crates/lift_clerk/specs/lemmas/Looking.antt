-- Looks, one at each of the first places, and one more.
use Rattle.std.proofs.Common.{◌≡◌, ℕ, zero, suc, ◌<◌, ◌≤◌, List, [], ◌∷◌, ◌++◌, length, get_or}
use Rattle.std.proofs.Common.{Option, refl, sym, ap, ◌∙◌, subst, arith, length-append}
use Rattle.std.proofs.lemmas.List.{length-map}
use Rattle.atomic_table.specs.Seated.{TableId}
use Rattle.lift_desk.specs.declared.words.Ask.{Ask}
use Rattle.lift_desk.specs.Steps.{with_taking}
use Rattle.lift_desk.specs.Seats.{ClerkPlace, IsClerkOf, no_place, view_at, clerk_with, placed_at}
use Rattle.lift_clerk.specs.Visits.{Visit, AreLooksAt, Scans, looked_at}

pub length-looked : (places : List ClerkPlace) (visits : List Visit)
    → length (looked_at places visits) ≡ length places
length-looked places [] = refl
length-looked [] (u ∷ visits) = refl
length-looked (p ∷ places) (u ∷ visits) = ap suc (length-looked places visits)

-- the places after these looks are as they were
untouched : (places : List ClerkPlace) (visits : List Visit) (n : ℕ) (d : ClerkPlace)
    → length visits ≤ n → get_or (looked_at places visits) n d ≡ get_or places n d
untouched places [] n d h = refl
untouched [] (u ∷ visits) n d h = refl
untouched (p ∷ places) (u ∷ visits) zero d h = absurd (omega arith)
untouched (p ∷ places) (u ∷ visits) (suc n) d h = untouched places visits n d (omega arith)

-- a look after those that were made
looked-more : (places : List ClerkPlace) (visits : List Visit) (n : ℕ) (v : Visit)
    → n ≡ length visits → n < length places
    → clerk_with (looked_at places visits) n
    (with_taking (view_at (looked_at places visits) n) v.word)
    ≡ looked_at places (visits ++ v ∷ [])
looked-more [] visits n v e h = absurd (omega arith)
looked-more (p ∷ places) [] zero v e h = refl
looked-more (p ∷ places) [] (suc n) v e h = absurd (omega arith)
looked-more (p ∷ places) (u ∷ visits) zero v e h = absurd (omega arith)
looked-more (p ∷ places) (u ∷ visits) (suc n) v e h =
    ap (λ l. placed_at p.table (with_taking p.view u.word) ∷ l)
    (looked-more places visits n v (omega arith) (omega arith))

-- one look at a place, and nothing else
pub record Looked (IsLook : ClerkPlace → Visit → Type 0) (seat next : List ClerkPlace)
    (n word : ℕ) (found : Option Ask) : Type 0 where
  pub seat_is : next ≡ clerk_with seat n (with_taking (view_at seat n) word)
  pub look : IsLook (get_or seat n no_place) (record { word = word; found = found })

module _ (IsLook : ClerkPlace → Visit → Type 0) where
  looks-more : (places : List ClerkPlace) (visits : List Visit) (n : ℕ) (v : Visit)
      → n ≡ length visits → n < length places → AreLooksAt IsLook places visits
      → IsLook (get_or places n no_place) v → AreLooksAt IsLook places (visits ++ v ∷ [])
  looks-more [] visits n v e h looks here = absurd (omega arith)
  looks-more (p ∷ places) [] zero v e h looks here = (here, tt)
  looks-more (p ∷ places) [] (suc n) v e h looks here = absurd (omega arith)
  looks-more (p ∷ places) (u ∷ visits) zero v e h looks here = absurd (omega arith)
  looks-more (p ∷ places) (u ∷ visits) (suc n) v e h looks here =
      (looks.0, looks-more places visits n v (omega arith) (omega arith) looks.1 here)

  pub one-more : (Found Then : List Visit → Type 0) (places seat next : List ClerkPlace) (n word : ℕ)
      (found : Option Ask) → n < length places → Scans IsLook Found places seat n
      → Looked IsLook seat next n word found
      → ((visits : List Visit) → length visits ≡ n → Found visits
      → Then (visits ++ record { word = word; found = found } ∷ []))
      → Scans IsLook Then places next (suc n)
  one-more Found Then places seat next n word found inside all one then =
      let v : Visit = record { word = word; found = found } in
      let count : n ≡ length all.visits = sym all.count in
      record {
        visits = all.visits ++ v ∷ [];
        count = omega (arith, length-append all.visits (v ∷ []));
        looks = looks-more places all.visits n v count inside all.looks
            (subst (λ (p : ClerkPlace). IsLook p v) (ap (λ l. get_or l n no_place) all.looked
            ∙ untouched places all.visits n no_place (omega arith)) one.look);
        looked = one.seat_is
            ∙ ap (λ l. clerk_with l n (with_taking (view_at l n) word)) all.looked
            ∙ looked-more places all.visits n v count inside;
        found = then all.visits all.count all.found;
      }

-- the place looked at next is there
pub inside-desk : (IsLook : ClerkPlace → Visit → Type 0) (Found : List Visit → Type 0)
    (desk : List TableId) (places seat : List ClerkPlace) (n m : ℕ) → Scans IsLook Found places seat m
    → IsClerkOf desk seat → n < length desk → (n < length seat) × (n < length places)
inside-desk IsLook Found desk places seat n m scans seated h =
    let many : length seat ≡ length desk =
    sym (length-map seat (λ (p : ClerkPlace). p.table)) ∙ ap length seated in
    let all : length seat ≡ length places =
    ap length scans.looked ∙ length-looked places scans.visits in
    (omega arith, omega arith)
