-- Places that are taken one by one, each with its table.
use Rattle.std.proofs.Common.{◌≡◌, ℕ, zero, suc, ◌<◌, true, List, [], ◌∷◌, ◌++◌, map, length, get_or, refl, sym, ap, ◌∙◌, arith, append_assoc, length-append, subst, Option, Some, None}
use Rattle.std.specs.Prelude.{MatchOption, IsSome}
use Rattle.std.proofs.lemmas.List.{length-map}
use Rattle.atomic_table.specs.Seated.{TableId}
use Rattle.lift_desk.specs.Seats.{ClerkPlace, AllSeated, no_place, no_table, ahead_from, placed_at, with_looks_of}
use Rattle.lift_desk.specs.Rule.{taken_only, with_more_looks}
use Rattle.lift_desk.specs.lemmas.Places.{table_at}

seam : {A : Type 0} (front : List A) (x : A) (rest : List A) (d : A) → get_or (front ++ x ∷ rest) (length front) d ≡ x
seam [] x rest d = refl
seam (y ∷ front) x rest d = seam front x rest d

-- the place that is next of all places
next_is : {A : Type 0} (front left rest all : List A) (x d : A) → front ++ left ≡ all → left ≡ x ∷ rest → get_or all (length front) d ≡ x
next_is front left rest all x d e steps = ap (λ l. get_or l (length front) d) (sym e ∙ ap (λ l. front ++ l) steps) ∙ seam front x rest d

pub next_below : {A : Type 0} (front left rest all : List A) (x : A) → front ++ left ≡ all → left ≡ x ∷ rest → length front < length all
next_below front left rest all x e steps = omega (arith, ap length e, ap length steps, length-append front left)

pub next_seated : (front left rest all : List ClerkPlace) (x : ClerkPlace) → front ++ left ≡ all → left ≡ x ∷ rest → AllSeated all → x.seated ≡ true
next_seated front left rest all x e steps seated =
    ap (λ (p : ClerkPlace). p.seated) (sym (next_is front left rest all x no_place e steps)) ∙ seated (length front) (next_below front left rest all x e steps)

-- it is at its table, which has two words
pub next_table : {X : Type 0} (f : X → TableId) (tables : List X) (front left rest all : List ClerkPlace) (x : ClerkPlace) (n : ℕ) (t : X)
    → front ++ left ≡ all → left ≡ x ∷ rest → n ≡ length front
    → map (λ (p : ClerkPlace). p.table) all ≡ map f tables → t ≡ get_or tables n t
    → ((k : ℕ) → k < length tables → (get_or (map f tables) k no_table).words ≡ 2)
    → (x.table ≡ f t) × ((f t).words ≡ 2)
next_table f tables front left rest all x n t e steps at tied is words =
    let below = next_below front left rest all x e steps in
    let same : length all ≡ length tables = sym (length-map all (λ (p : ClerkPlace). p.table)) ∙ ap length tied ∙ length-map tables f in
    let there = table_at f all all tables n no_place t refl tied (omega arith) is words in
    (ap (λ (p : ClerkPlace). p.table) (sym (next_is front left rest all x no_place e steps) ∙ ap (λ k. get_or all k no_place) (sym at)) ∙ there.0, there.1)

-- one more was taken
pub one_more : {A : Type 0} (front left rest all : List A) (x : A) → front ++ left ≡ all → left ≡ x ∷ rest → (front ++ x ∷ []) ++ rest ≡ all
one_more front left rest all x e steps = append_assoc front (x ∷ []) rest ∙ ap (λ l. front ++ l) (sym steps) ∙ e

-- what the places of a clerk have ahead of them, one by one
pub one_more_ahead : (front : List ClerkPlace) (left rest : List ClerkPlace) (all : List ClerkPlace) (x y : ClerkPlace) → front ++ ahead_from left ≡ all → left ≡ x ∷ rest → y ≡ placed_at x.table (taken_only x.view)
    → (front ++ y ∷ []) ++ ahead_from rest ≡ all
one_more_ahead front left rest all x y e steps is =
    append_assoc front (y ∷ []) (ahead_from rest) ∙ ap (λ (z : ClerkPlace). front ++ z ∷ ahead_from rest) is ∙ ap (λ l. front ++ ahead_from l) (sym steps) ∙ e

-- what the places of a clerk are with the looks of the seats ahead of them, one by one
pub one_more_joined : (front seats more left rest all : List ClerkPlace) (seat place joined : ClerkPlace) → front ++ with_looks_of seats left ≡ all → seats ≡ seat ∷ more → left ≡ place ∷ rest
    → joined ≡ record place { view = with_more_looks place.view seat.view.looks } → (front ++ joined ∷ []) ++ with_looks_of more rest ≡ all
one_more_joined front seats more left rest all seat place joined e ahead steps is =
    append_assoc front (joined ∷ []) (with_looks_of more rest) ∙ ap (λ (z : ClerkPlace). front ++ z ∷ with_looks_of more rest) is
    ∙ ap (λ (p : List ClerkPlace × List ClerkPlace). front ++ with_looks_of p.0 p.1) (λ k. (sym ahead k, sym steps k)) ∙ e

pub none_left : {A : Type 0} (front left all : List A) → front ++ left ≡ all → left ≡ [] → front ≡ all
none_left front left all e none = sym (nothing front) ∙ ap (λ l. front ++ l) (sym none) ∙ e
  where
    nothing : {A : Type 0} (l : List A) → l ++ [] ≡ l
    nothing [] = refl
    nothing (x ∷ l) = ap (λ z. x ∷ z) (nothing l)

-- the seat of the same table
pub same_table : (desk : List TableId) (one left rest all : List ClerkPlace) (x : ClerkPlace) (other more remain whole : List ClerkPlace) (y : ClerkPlace)
    → one ++ left ≡ all → left ≡ x ∷ rest → other ++ more ≡ whole → more ≡ y ∷ remain → length other ≡ length one
    → map (λ (p : ClerkPlace). p.table) all ≡ desk → map (λ (p : ClerkPlace). p.table) whole ≡ desk → y.table ≡ x.table
same_table desk one left rest all x other more remain whole y e steps d ends many at_one at_other =
    let tables : map (λ (p : ClerkPlace). p.table) whole ≡ map (λ (p : ClerkPlace). p.table) all = at_other ∙ sym at_one in
    let far = next_below other more remain whole y d ends in
    let near = next_below one left rest all x e steps in
    ap (λ (p : ClerkPlace). p.table) (sym (next_is other more remain whole y no_place d ends))
    ∙ sym (map_get whole (length other) far) ∙ ap (λ l. get_or l (length other) no_table) tables ∙ ap (λ n. get_or (map (λ (p : ClerkPlace). p.table) all) n no_table) many
    ∙ map_get all (length one) near ∙ ap (λ (p : ClerkPlace). p.table) (next_is one left rest all x no_place e steps)
  where
    map_get : (l : List ClerkPlace) (n : ℕ) → n < length l → get_or (map (λ (p : ClerkPlace). p.table) l) n no_table ≡ (get_or l n no_place).table
    map_get [] n h = absurd (omega arith)
    map_get (p ∷ l) zero h = refl
    map_get (p ∷ l) (suc n) h = map_get l n (omega arith)

-- while places of the clerk are left, so are seats ahead of them
pub some_left : (desk : List TableId) (one left rest all : List ClerkPlace) (x : ClerkPlace) (other whole : List ClerkPlace)
    → one ++ left ≡ all → left ≡ x ∷ rest → other ++ [] ≡ whole → length other ≡ length one
    → map (λ (p : ClerkPlace). p.table) all ≡ desk → map (λ (p : ClerkPlace). p.table) whole ≡ desk → {A : Type 0} → A
some_left desk one left rest all x other whole e steps d many at_one at_other =
    let far : length all ≡ length whole = sym (length-map all (λ (p : ClerkPlace). p.table)) ∙ ap length (at_one ∙ sym at_other) ∙ length-map whole (λ (p : ClerkPlace). p.table) in
    let near = next_below one left rest all x e steps in
    let empty : List ClerkPlace = [] in
    let ends : length (other ++ empty) ≡ length whole = ap length d in
    absurd (omega (arith, ends, length-append other empty))

-- what the next of a list is
pub next_some : (found : Option ClerkPlace) (old new : List ClerkPlace) → MatchOption found ((old ≡ []) × (new ≡ [])) (λ x. old ≡ x ∷ new) → (old ≡ [] → IsSome found) → IsSome found
next_some None old new gives unless = unless gives.0
next_some (Some x) old new gives unless = refl

pub next_one : (found : Option ClerkPlace) (x : ClerkPlace) (old new : List ClerkPlace) → found ≡ Some x → MatchOption found ((old ≡ []) × (new ≡ [])) (λ y. old ≡ y ∷ new) → old ≡ x ∷ new
next_one found x old new is gives = subst (λ (o : Option ClerkPlace). MatchOption o ((old ≡ []) × (new ≡ [])) (λ y. old ≡ y ∷ new)) is gives
