-- Lists of words: the last one, the turns, and beginnings.
use Rattle.std.proofs.Common.{◌≡◌, ℕ, zero, suc, ◌+◌, ◌<◌, ◌≤◌, List, [], ◌∷◌, ◌++◌, map, length}
use Rattle.std.proofs.Common.{get_or, refl, sym, ap, ◌∙◌, subst, arith, length-append, append_assoc}
use Rattle.std.specs.Prelude.{All, Contains}
use Rattle.std.specs.List.Sorted.{IsStrictlyIncreasing}
use Rattle.std.proofs.lemmas.List.{append-nil, length-map}
use Rattle.std.proofs.lemmas.List.Elements.{Contains-append_left, All-push}
use mathlib.Core.List.{IsPrefix}
use Rattle.lift_desk.specs.Words.{turn_of, last_of}
use Rattle.lift_desk.specs.Rule.{stamp_of, CountTurns, IsAhead}

pub last_of-push : (xs : List ℕ) (x : ℕ) → last_of (xs ++ x ∷ []) ≡ x
last_of-push [] x = refl
last_of-push (y ∷ []) x = refl
last_of-push (y ∷ z ∷ xs) x = last_of-push (z ∷ xs) x

pub CountTurns-push : (k : ℕ) (xs : List ℕ) (x : ℕ) → CountTurns k xs → turn_of x ≡ k + length xs
    → CountTurns k (xs ++ x ∷ [])
CountTurns-push k [] x h e = (omega arith, tt)
CountTurns-push k (y ∷ ys) x h e = (h.0, CountTurns-push (suc k) ys x h.1 (omega arith))

turn_of-last_cons : (k x : ℕ) (xs : List ℕ) → CountTurns k (x ∷ xs)
    → turn_of (last_of (x ∷ xs)) ≡ k + length xs
turn_of-last_cons k x [] h = let e = h.0 in omega arith
turn_of-last_cons k x (y ∷ ys) h = let r = turn_of-last_cons (suc k) y ys h.1 in omega arith

-- the last word's turn counts the words
pub turn_of-last_of : (xs : List ℕ) → CountTurns 1 xs → turn_of (last_of xs) ≡ length xs
turn_of-last_of [] h = refl
turn_of-last_of (x ∷ xs) h = let r = turn_of-last_cons 1 x xs h in omega arith

pub CountTurns-front : (k : ℕ) (xs ys : List ℕ) → CountTurns k (xs ++ ys) → CountTurns k xs
CountTurns-front k [] ys h = tt
CountTurns-front k (x ∷ xs) ys h = (h.0, CountTurns-front (suc k) xs ys h.1)

pub CountTurns-prefix : (k : ℕ) (xs ys : List ℕ) → IsPrefix xs ys → CountTurns k ys
    → CountTurns k xs
CountTurns-prefix k xs ys p h = CountTurns-front k xs p.0 (subst (CountTurns k) (sym p.1) h)

CountTurns-stamps : (k : ℕ) (xs ys : List ℕ) (rest : List (ℕ × ℕ))
    → map stamp_of xs ++ rest ≡ map stamp_of ys → CountTurns k ys → CountTurns k xs
CountTurns-stamps k [] ys rest e h = tt
CountTurns-stamps k (x ∷ xs) [] rest e h = absurd (cc)
CountTurns-stamps k (x ∷ xs) (y ∷ ys) rest e h =
    let head : stamp_of x ≡ stamp_of y = cc in
    let tail : map stamp_of xs ++ rest ≡ map stamp_of ys = cc in
    (ap (λ (s : ℕ × ℕ). s.0) head ∙ h.0, CountTurns-stamps (suc k) xs ys rest tail h.1)

-- words with the turns of a beginning of these
pub CountTurns-stamped : (k : ℕ) (xs ys : List ℕ) → IsPrefix (map stamp_of xs) (map stamp_of ys)
    → CountTurns k ys → CountTurns k xs
CountTurns-stamped k xs ys p h = CountTurns-stamps k xs ys p.0 p.1 h

pub prefix_length : {A : Type 0} (xs ys : List A) → IsPrefix xs ys → length xs ≤ length ys
prefix_length xs ys p = omega (arith, length-append xs p.0, ap length p.1)

pub stamped_length : (xs ys : List ℕ) → IsPrefix (map stamp_of xs) (map stamp_of ys)
    → length xs ≤ length ys
stamped_length xs ys p =
    omega (
      arith,
      prefix_length (map stamp_of xs)
          (map stamp_of ys) p,
      length-map xs stamp_of,
      length-map ys stamp_of,
    )

no_rest : {A : Type 0} (xs rest ys : List A) → xs ++ rest ≡ ys → length ys ≤ length xs → xs ≡ ys
no_rest xs [] ys e h = sym (append-nil xs) ∙ e
no_rest xs (r ∷ rest) ys e h = absurd (omega (arith, length-append xs (r ∷ rest), ap length e))

-- a beginning that is as long is the whole
pub prefix_whole : {A : Type 0} (xs ys : List A) → IsPrefix xs ys → length ys ≤ length xs → xs ≡ ys
prefix_whole xs ys p h = no_rest xs p.0 ys p.1 h

pub prefix_refl : {A : Type 0} (xs : List A) → IsPrefix xs xs
prefix_refl xs = ([], append-nil xs)

pub prefix_nil : {A : Type 0} (xs : List A) → IsPrefix [] xs
prefix_nil xs = (xs, refl)

pub prefix_push : {A : Type 0} (xs ys : List A) (y : A) → IsPrefix xs ys
    → IsPrefix xs (ys ++ y ∷ [])
prefix_push xs ys y p = (
  p.0 ++ y ∷ [],
  sym (append_assoc xs p.0 (y ∷ [])) ∙ ap (λ l.
      l ++ y ∷ []) p.1,
)

one_rest : (xs rest ys : List ℕ) → xs ++ rest ≡ ys → length ys ≡ suc (length xs)
    → ys ≡ xs ++ last_of ys ∷ []
one_rest xs [] ys e h = absurd (omega (arith, length-append xs [], ap length e))
one_rest xs (r ∷ []) ys e h =
    sym e ∙ ap (λ z. xs ++ z ∷ []) (sym (last_of-push xs r) ∙ ap last_of e)
one_rest xs (r ∷ s ∷ rest) ys e h =
    absurd (omega (arith, length-append xs (r ∷ s ∷ rest), ap length e))

-- one word more
pub prefix_next : (xs ys : List ℕ) → IsPrefix xs ys → length ys ≡ suc (length xs)
    → ys ≡ xs ++ last_of ys ∷ []
prefix_next xs ys p h = one_rest xs p.0 ys p.1 h

-- the stamp of the next word
pub stamped_next : (xs ys : List ℕ) (x : ℕ) → IsPrefix (map stamp_of xs) (map stamp_of ys)
    → length ys ≡ suc (length xs) → stamp_of x ≡ stamp_of (last_of ys)
    → map stamp_of (xs ++ x ∷ []) ≡ map stamp_of ys
stamped_next [] [] x p h e = absurd (omega arith)
stamped_next [] (y ∷ []) x p h e = ap (λ s. s ∷ []) e
stamped_next [] (y ∷ z ∷ ys) x p h e = absurd (omega arith)
stamped_next (x' ∷ xs) [] x p h e = absurd (omega arith)
stamped_next (x' ∷ xs) (y ∷ []) x p h e = absurd (omega arith)
stamped_next (x' ∷ xs) (y ∷ z ∷ ys) x p h e =
    let pe = p.1 in
    let head : stamp_of x' ≡ stamp_of y = cc in
    let tail : map stamp_of xs ++ p.0 ≡ map stamp_of (z ∷ ys) = cc in
    let r = stamped_next xs (z ∷ ys) x (p.0, tail) (omega arith) e in
    λ i. head i ∷ r i

-- the last word of some
pub All-last_of : (P : ℕ → Type 0) (xs : List ℕ) → All P xs → 0 < length xs → P (last_of xs)
All-last_of P [] h n = absurd (omega arith)
All-last_of P (x ∷ []) h n = h 0 0 (omega arith)
All-last_of P (x ∷ y ∷ ys) h n =
    All-last_of P (y ∷ ys) (λ k d below. h (suc k) d (omega arith)) (omega arith)

pub IsAhead-push : (asked taken : List ℕ) (word : ℕ) → IsAhead asked taken
    → IsAhead (asked ++ word ∷ []) taken
IsAhead-push asked taken word h = record {
  asked_all = λ k d below.
      Contains-append_left asked (word ∷ []) (get_or taken k d) (h.asked_all k d below);
  rise = h.rise;
}

turns_rise : (k : ℕ) (xs : List ℕ) → CountTurns k xs → IsStrictlyIncreasing (map turn_of xs)
turns_rise k [] h i below = absurd (omega arith)
turns_rise k (x ∷ []) h i below = absurd (omega arith)
turns_rise k (x ∷ y ∷ ys) h zero below = let a = h.0 in let b = h.1.0 in
    let r : turn_of x < turn_of y = omega arith in r
turns_rise k (x ∷ y ∷ ys) h (suc i) below =
    let e : suc (i + 1) ≡ suc i + 1 = omega arith in
    let xs : List ℕ = map turn_of (x ∷ y ∷ ys) in
    subst (λ m. get_or xs (suc i) 0 < get_or xs m 0) e
    (turns_rise (suc k) (y ∷ ys) h.1 i (omega arith))

contains_prefix : (xs ys : List ℕ) → IsPrefix xs ys → All (Contains ys) xs
contains_prefix xs ys p =
    subst (λ z. All (Contains z) xs) p.1 (λ k d below.
    Contains-append_left xs p.0 (get_or xs k d)
    (k, below, get_or_same xs k d (get_or xs k d) below))
  where
    get_or_same : (l : List ℕ) (k d e : ℕ) → k < length l → get_or l k e ≡ get_or l k d
    get_or_same [] k d e below = absurd (omega arith)
    get_or_same (x ∷ l) zero d e below = refl
    get_or_same (x ∷ l) (suc k) d e below = get_or_same l k d e (omega arith)

-- the clerk's own asks are in order
pub IsAhead-prefix : (asked taken : List ℕ) → CountTurns 1 asked → IsPrefix taken asked
    → IsAhead asked taken
IsAhead-prefix asked taken turns p =
    record {
      asked_all = contains_prefix taken asked p;
      rise = turns_rise 1 taken (CountTurns-prefix 1 taken asked p turns);
    }

-- nothing was taken
pub IsAhead-nothing : (asked : List ℕ) → IsAhead asked []
IsAhead-nothing asked = record {
  asked_all = λ k d below. absurd (omega arith);
  rise = λ i below. absurd (omega arith);
}

rise_push : (xs : List ℕ) (x : ℕ) → IsStrictlyIncreasing (map turn_of xs)
    → turn_of (last_of xs) < turn_of x → IsStrictlyIncreasing (map turn_of (xs ++ x ∷ []))
rise_push [] x h above i below = absurd (omega arith)
rise_push (y ∷ []) x h above zero below = above
rise_push (y ∷ []) x h above (suc i) below = absurd (omega arith)
rise_push (y ∷ z ∷ ys) x h above zero below = h zero (omega arith)
rise_push (y ∷ z ∷ ys) x h above (suc i) below =
    let xs : List ℕ = map turn_of (y ∷ z ∷ (ys ++ x ∷ [])) in
    let rest : List ℕ = map turn_of (y ∷ z ∷ ys) in
    subst (λ m. get_or xs (suc i) 0 < get_or xs m 0) (next i)
    (rise_push (z ∷ ys) x (λ j b.
    subst (λ m. get_or rest (suc j) 0 < get_or rest m 0) (sym (next j)) (h (suc j) (omega arith)))
    above i (omega arith))
  where
    next : (k : ℕ) → suc (k + 1) ≡ suc k + 1
    next k = omega arith

-- the last ask is taken, where it is new
pub IsAhead-take : (asked taken : List ℕ) → 0 < length asked → IsAhead asked taken
    → turn_of (last_of taken) < turn_of (last_of asked)
    → IsAhead asked (taken ++ last_of asked ∷ [])
IsAhead-take asked taken some_asked h above = record {
  asked_all = All-push (Contains asked) taken (last_of asked) h.asked_all
      (contains_last asked some_asked);
  rise = rise_push taken (last_of asked) h.rise above;
}
  where
    contains_last : (l : List ℕ) → 0 < length l → Contains l (last_of l)
    contains_last [] n = absurd (omega arith)
    contains_last (x ∷ []) n = (0, omega arith, refl)
    contains_last (x ∷ y ∷ ys) n = let r = contains_last (y ∷ ys) (omega arith) in
        (suc r.0, omega arith, r.2)

-- words with the same stamps end with the same stamp
pub stamped_same : (xs ys : List ℕ) → map stamp_of xs ≡ map stamp_of ys → 0 < length xs
    → stamp_of (last_of xs) ≡ stamp_of (last_of ys)
stamped_same [] ys e h = absurd (omega arith)
stamped_same (x ∷ xs) [] e h = absurd (cc)
stamped_same (x ∷ []) (y ∷ []) e h = cc
stamped_same (x ∷ []) (y ∷ z ∷ ys) e h = absurd (cc)
stamped_same (x ∷ w ∷ xs) (y ∷ []) e h = absurd (cc)
stamped_same (x ∷ w ∷ xs) (y ∷ z ∷ ys) e h =
    let rest : map stamp_of (w ∷ xs) ≡ map stamp_of (z ∷ ys) = cc in
    stamped_same (w ∷ xs) (z ∷ ys) rest (omega arith)

-- the turn of a word is its place, so the last word is the only one with the last turn
turn_within : (k : ℕ) (xs : List ℕ) (x i : ℕ) → CountTurns k xs → i < length xs → get_or xs i x ≡ x
    → turn_of x ≡ k + i
turn_within k [] x i h below is = absurd (omega arith)
turn_within k (y ∷ ys) x zero h below is = sym (ap turn_of is) ∙ h.0 ∙ omega arith
turn_within k (y ∷ ys) x (suc i) h below is = let r =
    turn_within (suc k) ys x i h.1 (omega arith) is in omega arith

last_at : (xs : List ℕ) (x i : ℕ) → suc i ≡ length xs → get_or xs i x ≡ x → x ≡ last_of xs
last_at [] x i e is = absurd (omega arith)
last_at (y ∷ []) x zero e is = sym is
last_at (y ∷ []) x (suc i) e is = absurd (omega arith)
last_at (y ∷ z ∷ ys) x zero e is = absurd (omega arith)
last_at (y ∷ z ∷ ys) x (suc i) e is = last_at (z ∷ ys) x i (omega arith) is

pub turn_at_most : (xs : List ℕ) (x : ℕ) → CountTurns 1 xs → Contains xs x → turn_of x ≤ length xs
turn_at_most xs x h c = let below = c.1 in let is = turn_within 1 xs x c.0 h c.1 c.2 in omega arith

pub turn_is_last : (xs : List ℕ) (x : ℕ) → CountTurns 1 xs → Contains xs x → turn_of x ≡ length xs
    → x ≡ last_of xs
turn_is_last xs x h c e = let is = turn_within 1 xs x c.0 h c.1 c.2 in
    last_at xs x c.0 (omega arith) c.2
