-- The clerk's places after one of them has changed.
use Rattle.std.proofs.Common.{◌≡◌, ◌≢◌, ℕ, zero, suc, ◌+◌, ◌<◌, true, List, [], ◌∷◌, ◌++◌, map}
use Rattle.std.proofs.Common.{take, drop, length, set, get_or, refl, sym, ap, ◌∙◌, subst, arith}
use Rattle.std.proofs.Common.{length-set, add-zero, zero-add, Some}
use Rattle.std.specs.Prelude.{slice_get}
use Rattle.std.specs.List.{refill}
use Rattle.std.proofs.lemmas.List.{length-map}
use Rattle.atomic_table.specs.Seated.{TableId}
use Rattle.lift_desk.specs.Seats.{ClerkPlace, no_place, no_table, seats_from, clerk_of, ahead_from}
use Rattle.lift_desk.specs.Seats.{view_at, clerk_with, placed_at, IsClerkOf, AreSeatsOf}
use Rattle.lift_desk.specs.Seats.{AllSeated, OwesNothing, with_looks_of}
use Rattle.lift_desk.specs.declared.view.ClerkView.{ClerkView}
use Rattle.lift_desk.specs.Rule.{no_asks}

refill_all : {A : Type 0} (xs ws : List A) → length ws ≡ length xs
    → take (length ws) (ws ++ drop (length ws) xs) ≡ ws
refill_all xs [] e = refl
refill_all [] (w ∷ ws) e = absurd (omega arith)
refill_all (x ∷ xs) (w ∷ ws) e = ap (λ l. w ∷ l) (refill_all xs ws (omega arith))

pub refill_set : {A : Type 0} (xs ys : List A) (i : ℕ) (a : A) → ys ≡ xs
    → refill (length xs) xs (set ys i a) ≡ set xs i a
refill_set xs ys i a e =
    let same : length (set xs i a) ≡ length xs = length-set xs i a in
    subst (λ zs. refill (length xs) xs (set zs i a) ≡ set xs i a) (sym e)
    (subst (λ n. take n (set xs i a ++ drop (length (set xs i a)) xs) ≡ set xs i a) same
    (refill_all xs (set xs i a) same))

seated_set : (places : List ClerkPlace) (i : ℕ) (p : ClerkPlace) → p.seated ≡ true
    → AllSeated places → AllSeated (set places i p)
seated_set [] i p is all k h = absurd (omega arith)
seated_set (q ∷ places) zero p is all zero h = is
seated_set (q ∷ places) zero p is all (suc k) h = all (suc k) h
seated_set (q ∷ places) (suc i) p is all zero h = all zero (omega arith)
seated_set (q ∷ places) (suc i) p is all (suc k) h =
    seated_set places i p is (λ j below. all (suc j) (omega arith)) k (omega arith)

pub seated_refill : (places now : List ClerkPlace) (i : ℕ) (p : ClerkPlace) → now ≡ places
    → p.seated ≡ true → AllSeated places → AllSeated (refill (length places) places (set now i p))
seated_refill places now i p e is all =
    subst AllSeated (sym (refill_set places now i p e)) (seated_set places i p is all)

map_at : {X Y : Type 0} (f : X → Y) (xs : List X) (i : ℕ) (d : Y) (x : X) → i < length xs
    → get_or (map f xs) i d ≡ f (get_or xs i x)
map_at f [] i d x h = absurd (omega arith)
map_at f (y ∷ xs) zero d x h = refl
map_at f (y ∷ xs) (suc i) d x h = map_at f xs i d x (omega arith)

-- the clerk's place and the table of one terminal
pub table_at : {X : Type 0} (f : X
    → TableId) (places now : List ClerkPlace) (tables : List X) (i : ℕ) (d : ClerkPlace) (t : X)
    → now ≡ places → map (λ (p : ClerkPlace). p.table) places ≡ map f tables → i < length tables
    → t ≡ get_or tables i t
    → ((k : ℕ) → k < length tables → (get_or (map f tables) k no_table).words ≡ 2)
    → ((get_or now i d).table ≡ f t) × ((f t).words ≡ 2)
table_at f places now tables i d t e tied h is words =
    let same : length places ≡ length tables =
    sym (length-map places (λ (p : ClerkPlace). p.table)) ∙ ap length tied ∙ length-map tables
    f in
    let there : get_or (map f tables) i no_table ≡ f t =
    map_at f tables i no_table t h ∙ ap f (sym is) in
    let here : get_or (map (λ (p : ClerkPlace). p.table) places) i no_table
    ≡ (get_or places i d).table =
    map_at (λ (p : ClerkPlace). p.table) places i no_table d (omega arith) in (
      ap (λ ps. (get_or ps i d).table) e ∙ sym here ∙ ap (λ l. get_or l i no_table) tied ∙ there,
      ap (λ z. z.words) (sym there) ∙ words i h,
    )

pub seats_from-push : (k : ℕ) (zs : List TableId) (z : TableId) (n : ℕ) → k + length zs ≡ n
    → seats_from k (zs ++ z ∷ [])
    ≡ seats_from k zs ++ (record { table = z; terminal = n; view = no_asks }) ∷ []
seats_from-push k [] z n e = let is : k ≡ n = omega arith in λ i.
    (record { table = z; terminal = is i; view = no_asks }) ∷ []
seats_from-push k (y ∷ zs) z n e =
    ap (λ l. (record { table = y; terminal = k; view = no_asks }) ∷ l)
    (seats_from-push (suc k) zs z n (omega arith))

pub clerk_seated : (desk : List TableId) → AllSeated (clerk_of desk)
clerk_seated [] k h = absurd (omega arith)
clerk_seated (z ∷ zs) zero h = refl
clerk_seated (z ∷ zs) (suc k) h = clerk_seated zs k (omega arith)

-- each of these tables has two words
abbrev pub AllOfTwo : List TableId → Type 0
AllOfTwo desk = (k : ℕ) → k < length desk → (get_or desk k no_table).words ≡ 2

pub two_more : (desk : List TableId) (z : TableId) → AllOfTwo desk → z.words ≡ 2
    → AllOfTwo (desk ++ z ∷ [])
two_more [] z all is zero h = is
two_more [] z all is (suc k) h = absurd (omega arith)
two_more (y ∷ desk) z all is zero h = all zero (omega arith)
two_more (y ∷ desk) z all is (suc k) h =
    two_more desk z (λ j below. all (suc j) (omega arith)) is k (omega arith)

-- the changed view, and the others
pub view_at-here : (clerk : List ClerkPlace) (t : ℕ) (v : ClerkView) → t < length clerk
    → view_at (clerk_with clerk t v) t ≡ v
view_at-here clerk t v h =
    ap (λ (p : ClerkPlace). p.view) (here clerk t (placed_at (get_or clerk t no_place).table v) h)
  where
    here : (l : List ClerkPlace) (i : ℕ) (p : ClerkPlace) → i < length l
        → get_or (set l i p) i no_place ≡ p
    here [] i p h = absurd (omega arith)
    here (x ∷ l) zero p h = refl
    here (x ∷ l) (suc i) p h = here l i p (omega arith)

pub view_at-else : (clerk : List ClerkPlace) (t u : ℕ) (v : ClerkView) → u ≢ t
    → view_at (clerk_with clerk t v) u ≡ view_at clerk u
view_at-else clerk t u v apart =
    ap (λ (p : ClerkPlace). p.view)
    (other clerk t u (placed_at (get_or clerk t no_place).table v) apart)
  where
    other : (l : List ClerkPlace) (i j : ℕ) (p : ClerkPlace) → j ≢ i
        → get_or (set l i p) j no_place ≡ get_or l j no_place
    other [] i j p n = refl
    other (x ∷ l) zero zero p n = absurd (n refl)
    other (x ∷ l) zero (suc j) p n = refl
    other (x ∷ l) (suc i) zero p n = refl
    other (x ∷ l) (suc i) (suc j) p n = other l i j p (λ e. n (ap suc e))

tables_set : (l : List ClerkPlace) (i : ℕ) (p q : ClerkPlace) → q ≡ get_or l i q → p.table ≡ q.table
    → map (λ (p : ClerkPlace). p.table) (set l i p) ≡ map (λ (p : ClerkPlace). p.table) l
tables_set [] i p q is same = refl
tables_set (x ∷ l) zero p q is same = λ k.
    (same ∙ ap (λ (p : ClerkPlace). p.table) is) k ∷ map (λ (p : ClerkPlace). p.table) l
tables_set (x ∷ l) (suc i) p q is same = ap (λ ts. x.table ∷ ts) (tables_set l i p q is same)

-- a place that keeps its table
pub stays_refill : (desk : List TableId) (places now : List ClerkPlace) (i : ℕ) (p q : ClerkPlace)
    → now ≡ places → q ≡ get_or now i q → p.table ≡ q.table
    → IsClerkOf desk places → IsClerkOf desk (refill (length places) places (set now i p))
stays_refill desk places now i p q e is same clerk =
    ap (map (λ (p : ClerkPlace). p.table)) (refill_set places now i p e) ∙ tables_set places i p q
    (is ∙ ap (λ l. get_or l i q) e) same ∙ clerk

seats_at_from : (k : ℕ) (all desk : List TableId)
    → ((i : ℕ) → slice_get all (k + i) ≡ slice_get desk i) → AreSeatsOf all (seats_from k desk)
seats_at_from k all [] same i d h = absurd (omega arith)
seats_at_from k all (z ∷ desk) same zero d h =
    subst (λ n. slice_get all n ≡ Some z) (add-zero k) (same 0)
seats_at_from k all (z ∷ desk) same (suc i) d h =
    seats_at_from (suc k) all desk (λ j. let e : suc k + j ≡ k + suc j = omega arith in
    ap (slice_get all) e ∙ same (suc j)) i d (omega arith)

pub seats_at : (desk : List TableId) → AreSeatsOf desk (seats_from 0 desk)
seats_at desk = seats_at_from 0 desk desk (λ i. ap (slice_get desk) (zero-add i))

pub clerk_at : (desk : List TableId) → IsClerkOf desk (clerk_of desk)
clerk_at [] = refl
clerk_at (z ∷ desk) = ap (λ l. z ∷ l) (clerk_at desk)

-- the clerk's seats with the looks of others are where they were, and seats at all places
tables_with_looks : (ahead places : List ClerkPlace)
    → map (λ (p : ClerkPlace). p.table) (with_looks_of ahead places)
    ≡ map (λ (p : ClerkPlace). p.table) places
tables_with_looks ahead [] = refl
tables_with_looks [] (p ∷ places) = refl
tables_with_looks (seat ∷ ahead) (p ∷ places) =
    ap (λ ts. p.table ∷ ts) (tables_with_looks ahead places)

pub with_looks_at : (desk : List TableId) (ahead places : List ClerkPlace) → IsClerkOf desk places
    → IsClerkOf desk (with_looks_of ahead places)
with_looks_at desk ahead places is = tables_with_looks ahead places ∙ is

pub with_looks_seated : (ahead places : List ClerkPlace) → AllSeated places
    → AllSeated (with_looks_of ahead places)
with_looks_seated ahead [] all k h = absurd (omega arith)
with_looks_seated [] (p ∷ places) all k h = all k h
with_looks_seated (seat ∷ ahead) (p ∷ places) all zero h = all zero (omega arith)
with_looks_seated (seat ∷ ahead) (p ∷ places) all (suc k) h =
    with_looks_seated ahead places (λ j below. all (suc j) (omega arith)) k (omega arith)

-- what was taken and answered stays, and each place counts the looks of both
pub words_with_looks : (ahead places : List ClerkPlace) (t : ℕ)
    → ((view_at (with_looks_of ahead places) t).taken ≡ (view_at places t).taken)
    × ((view_at (with_looks_of ahead places) t).answered ≡ (view_at places t).answered)
words_with_looks ahead [] t = (refl, refl)
words_with_looks [] (p ∷ places) t = (refl, refl)
words_with_looks (seat ∷ ahead) (p ∷ places) zero = (refl, refl)
words_with_looks (seat ∷ ahead) (p ∷ places) (suc t) = words_with_looks ahead places t

pub looks_of_both : (ahead places : List ClerkPlace) (t : ℕ) → t < length places
    → (view_at (with_looks_of ahead places) t).looks
    ≡ (view_at places t).looks + (view_at ahead t).looks
looks_of_both ahead [] t h = absurd (omega arith)
looks_of_both [] (p ∷ places) t h = sym (add-zero (view_at (p ∷ places) t).looks)
looks_of_both (seat ∷ ahead) (p ∷ places) zero h = refl
looks_of_both (seat ∷ ahead) (p ∷ places) (suc t) h = looks_of_both ahead places t (omega arith)

pub none_owed_with_looks : (ahead places : List ClerkPlace) → OwesNothing places
    → OwesNothing (with_looks_of ahead places)
none_owed_with_looks ahead [] all k d h = absurd (omega arith)
none_owed_with_looks [] (p ∷ places) all k d h = all k d h
none_owed_with_looks (seat ∷ ahead) (p ∷ places) all zero d h = all zero d (omega arith)
none_owed_with_looks (seat ∷ ahead) (p ∷ places) all (suc k) d h =
    none_owed_with_looks ahead places (λ j e below. all (suc j) e (omega arith)) k d (omega arith)

-- seats ahead that have looked at nothing add nothing
pub with_no_looks : (places : List ClerkPlace)
    → with_looks_of (ahead_from places) places ≡ places
with_no_looks [] = refl
with_no_looks (p ∷ places) = λ k.
    record p { view = record p.view { looks = add-zero p.view.looks k } } ∷ with_no_looks places k

-- nothing is owed where nothing was taken
pub nothing_owed : (desk : List TableId) → OwesNothing (clerk_of desk)
nothing_owed [] k d h owes = omega arith
nothing_owed (z ∷ desk) zero d h owes = omega arith
nothing_owed (z ∷ desk) (suc k) d h owes = nothing_owed desk k d (omega arith) owes

pub ahead_seated : (clerk : List ClerkPlace) → AllSeated (ahead_from clerk)
ahead_seated [] k h = absurd (omega arith)
ahead_seated (p ∷ clerk) zero h = refl
ahead_seated (p ∷ clerk) (suc k) h = ahead_seated clerk k (omega arith)

-- the seats ahead of all the clerk's places are at the same tables
pub ahead_at : (desk : List TableId) (places ahead : List ClerkPlace) → ahead ≡ ahead_from places
    → IsClerkOf desk places → IsClerkOf desk ahead
ahead_at desk places ahead e is = ap (map (λ (p : ClerkPlace). p.table)) e ∙ tables_ahead places ∙ is
  where
    tables_ahead : (l : List ClerkPlace)
        → map (λ (p : ClerkPlace). p.table) (ahead_from l) ≡ map (λ (p : ClerkPlace). p.table) l
    tables_ahead [] = refl
    tables_ahead (p ∷ l) = ap (λ ts. p.table ∷ ts) (tables_ahead l)
