-- A list is mapped from its front on, in its own place.
use Rattle.std.proofs.Common.{◌≡◌, ◌+◌, ◌<◌, ◌≤◌, ℕ, List, [], ◌∷◌, ◌++◌, length, take, drop, get_or, remove, sym, ap, ◌∙◌, arith, append_assoc, add-one}
use Rattle.std.proofs.Math.ListN.{set, length-set}
use Rattle.std.proofs.Math.Seq.{take-add}
use Rattle.std.proofs.lemmas.List.{take_at, drop_at, drop-drop, drop_more, take_more_set, drop-set-lt, take-append-drop, length-take-le}
use Rattle.std.proofs.lemmas.List.Concat.{flat_map-append}
use Rattle.std.proofs.lemmas.List.Edits.{length-remove}
use Rattle.std.specs.List.{flat_map, refill}

-- what is mapped so far, and the rest mapped
abbrev pub mapped_from : {X : Type 0} → (X → List X) → List X → ℕ → List X
mapped_from f xs i = take i xs ++ flat_map f (drop i xs)

pub passes : {X : Type 0} (f : X → List X) (xs : List X) (i k : ℕ) → flat_map f (take k (drop i xs)) ≡ take k (drop i xs) → mapped_from f xs i ≡ mapped_from f xs (i + k)
passes {X} f xs i k same =
    let ys : List X = drop i xs in
    ap (λ (l : List X). take i xs ++ flat_map f l) (sym (take-append-drop k ys))
    ∙ ap (λ (l : List X). take i xs ++ l) (flat_map-append f (take k ys) (drop k ys))
    ∙ ap (λ (l : List X). take i xs ++ (l ++ flat_map f (drop k ys))) same
    ∙ sym (append_assoc (take i xs) (take k ys) (flat_map f (drop k ys)))
    ∙ ap (λ (l : List X). l ++ flat_map f (drop k ys)) (sym (take-add i k xs))
    ∙ ap (λ (l : List X). take (i + k) xs ++ flat_map f l) (drop-drop k i xs)

pub passes_first : {X : Type 0} (f : X → List X) (xs : List X) (k : ℕ) → flat_map f (take k xs) ≡ take k xs → flat_map f xs ≡ mapped_from f xs k
passes_first {X} f xs k same = passes f xs 0 k same ∙ ap (mapped_from f xs) (omega arith)

-- one is written in the place of one, in a list or in what is lent of it
becomes : {X : Type 0} (f : X → List X) (xs : List X) (i : ℕ) (x : X) (blank : X) → i < length xs → x ∷ [] ≡ f (get_or xs i blank) → mapped_from f xs i ≡ mapped_from f (set xs i x) (i + 1)
becomes {X} f xs i x blank within is =
    ap (λ (l : List X). take i xs ++ flat_map f l) (drop_more xs i blank within)
    ∙ ap (λ (l : List X). take i xs ++ (l ++ flat_map f (drop (i + 1) xs))) (sym is)
    ∙ sym (append_assoc (take i xs) (x ∷ []) (flat_map f (drop (i + 1) xs)))
    ∙ ap (λ (l : List X). l ++ flat_map f (drop (i + 1) xs)) (sym (take_more_set xs i x within))
    ∙ ap (λ (l : List X). take (i + 1) (set xs i x) ++ flat_map f l) (sym (drop-set-lt (i + 1) xs i x (omega arith)))

pub becomes_lent : {X : Type 0} (f : X → List X) (xs lent : List X) (i : ℕ) (x : X) (blank : X) → lent ≡ xs → i < length xs → x ∷ [] ≡ f (get_or xs i blank)
    → (mapped_from f xs i ≡ mapped_from f (refill (length xs) xs (set lent i x)) (i + 1)) × (i + 1 ≤ length (refill (length xs) xs (set lent i x))) × (length (refill (length xs) xs (set lent i x)) ≤ length xs)
becomes_lent {X} f xs lent i x blank is within mapped =
    let now : refill (length xs) xs (set xs i x) ≡ set xs i x = take_at (set xs i x) (drop (length (set xs i x)) xs) (length xs) (length-set xs i x) in
    rw (is, now) (becomes f xs i x blank within mapped, omega (arith, within, length-set xs i x), omega (arith, length-set xs i x))

-- what stands after the one that is taken out
removed : {X : Type 0} (xs : List X) (i : ℕ) → remove xs i ≡ take i xs ++ drop (i + 1) xs
removed {X} xs i = sym (ap (λ (n : ℕ). take i xs ++ drop n xs) (add-one i))

goes : {X : Type 0} (f : X → List X) (xs : List X) (i : ℕ) (blank : X) → i < length xs → [] ≡ f (get_or xs i blank) → mapped_from f xs i ≡ mapped_from f (remove xs i) i
goes {X} f xs i blank within is =
    let front : length (take i xs) ≡ i = length-take-le i xs (omega (arith, within)) in
    let rest : List X = drop (i + 1) xs in
    let is-removed : remove xs i ≡ take i xs ++ rest = removed xs i in
    ap (λ (l : List X). take i xs ++ flat_map f l) (drop_more xs i blank within)
    ∙ ap (λ (l : List X). take i xs ++ (l ++ flat_map f rest)) (sym is)
    ∙ ap (λ (l : List X). l ++ flat_map f rest) (sym (take_at (take i xs) rest i front))
    ∙ ap (λ (l : List X). take i (take i xs ++ rest) ++ flat_map f l) (sym (drop_at (take i xs) rest i front))
    ∙ ap (λ (l : List X). mapped_from f l i) (sym is-removed)

pub goes_short : {X : Type 0} (f : X → List X) (xs : List X) (i : ℕ) (blank : X) → i < length xs → [] ≡ f (get_or xs i blank)
    → (mapped_from f xs i ≡ mapped_from f (remove xs i) i) × (i ≤ length (remove xs i)) × (length (remove xs i) ≤ length xs)
goes_short f xs i blank within is = (goes f xs i blank within is, omega (arith, within, length-remove xs i within), omega (arith, length-remove xs i within))
