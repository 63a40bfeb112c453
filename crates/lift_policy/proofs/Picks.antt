-- The first least measure as a function, and the decision that it gives.
use Rattle.std.proofs.Common.{◌≡◌, ℕ, suc, ◌+◌, ◌<◌, ◌≤◌, ◌↔◌, Bool, true, false, cond, ltb, List, [], ◌∷◌, length, refl, sym, ap, subst, arith}
use Rattle.std.specs.Prelude.{Contains, Option, Some, None, IsSome}
use Rattle.std.proofs.lemmas.Bool.{ltb-true, ltb-false}
use Rattle.std.proofs.lemmas.List.Elements.{All-contains, All-cons, All-nil}
use Rattle.lift_policy.specs.Eligible.{Rise}
use Rattle.lift_policy.specs.Choices.{IsFirstLeast, better, first_least}
use Rattle.lift_policy.specs.lemmas.Least.{Rise-low}

head_in : (x : ℕ) (xs : List ℕ) → Contains (x ∷ xs) x
head_in x xs = (0, omega arith, refl)

later_in : (x : ℕ) (xs : List ℕ) (y : ℕ) → Contains xs y → Contains (x ∷ xs) y
later_in x xs y (k, inside, at) = (suc k, omega arith, at)

keeps_first : (m : ℕ → ℕ) (x : ℕ) (xs : List ℕ) (later : ℕ) → Rise (x + 1) xs → IsFirstLeast m xs later → m x ≤ m later → IsFirstLeast m (x ∷ xs) x
keeps_first m x xs later rising is le = record {
  member = head_in x xs;
  least = All-cons (λ other. m x ≤ m other) x xs (omega arith) (λ k d h. let a = is.least k d h in omega arith);
  lowest = All-cons (λ other. m other ≡ m x → x ≤ other) x xs (λ e. omega arith) (λ k d h e. let a = Rise-low (x + 1) xs k d rising h in omega arith);
}

takes_later : (m : ℕ → ℕ) (x : ℕ) (xs : List ℕ) (later : ℕ) → Rise (x + 1) xs → IsFirstLeast m xs later → m later < m x → IsFirstLeast m (x ∷ xs) later
takes_later m x xs later rising is lt = record {
  member = later_in x xs later is.member;
  least = All-cons (λ other. m later ≤ m other) x xs (omega arith) is.least;
  lowest = All-cons (λ other. m other ≡ m later → later ≤ other) x xs (λ e. absurd (omega arith)) is.lowest;
}

alone : (m : ℕ → ℕ) (x : ℕ) → IsFirstLeast m (x ∷ []) x
alone m x = record {
  member = head_in x [];
  least = All-cons (λ other. m x ≤ m other) x [] (omega arith) (All-nil (λ other. m x ≤ m other));
  lowest = All-cons (λ other. m other ≡ m x → x ≤ other) x [] (λ e. omega arith) (All-nil (λ other. m other ≡ m x → x ≤ other));
}

better_of : (m : ℕ → ℕ) (x later : ℕ) (xs : List ℕ) (b : Bool) → ltb (m later) (m x) ≡ b → Rise (x + 1) xs → IsFirstLeast m xs later → IsFirstLeast m (x ∷ xs) (cond b later x)
better_of m x later xs true e rising is = takes_later m x xs later rising is (ltb-true _ _ e)
better_of m x later xs false e rising is = keeps_first m x xs later rising is (ltb-false _ _ e)

first_of : (m : ℕ → ℕ) (x : ℕ) (xs : List ℕ) (found : Option ℕ) → Rise (x + 1) xs → (found ≡ None → xs ≡ []) → ((car : ℕ) → found ≡ Some car → IsFirstLeast m xs car)
    → IsFirstLeast m (x ∷ xs) (better m x found)
first_of m x xs None rising none some = let P : List ℕ → Type 0 = λ ys. IsFirstLeast m (x ∷ ys) x in subst P (sym (none refl)) (alone m x)
first_of m x xs (Some later) rising none some = better_of m x later xs (ltb (m later) (m x)) refl rising (some later refl)

none_of : (m : ℕ → ℕ) (xs : List ℕ) → first_least m xs ≡ None → xs ≡ []
none_of m [] h = refl
none_of m (x ∷ xs) h = cc

found_is : (m : ℕ → ℕ) (low : ℕ) (xs : List ℕ) (car : ℕ) → Rise low xs → first_least m xs ≡ Some car → IsFirstLeast m xs car
found_is m low [] car rising h = cc
found_is m low (x ∷ xs) car rising h =
    let e : better m x (first_least m xs) ≡ car = cc in
    let P : ℕ → Type 0 = λ c. IsFirstLeast m (x ∷ xs) c in
    subst P e (first_of m x xs (first_least m xs) rising.1 (none_of m xs) (λ c f. found_is m (x + 1) xs c rising.1 f))

-- two cars that are both the first least are one
one_first : (m : ℕ → ℕ) (xs : List ℕ) (a b : ℕ) → IsFirstLeast m xs a → IsFirstLeast m xs b → a ≡ b
one_first m xs a b p q =
    let ab : m a ≤ m b = All-contains (λ other. m a ≤ m other) xs b p.least q.member in
    let ba : m b ≤ m a = All-contains (λ other. m b ≤ m other) xs a q.least p.member in
    let e : m b ≡ m a = omega arith in
    let la : a ≤ b = All-contains (λ other. m other ≡ m a → a ≤ other) xs b p.lowest q.member e in
    let lb : b ≤ a = All-contains (λ other. m other ≡ m b → b ≤ other) xs a q.lowest p.member (sym e) in omega arith

is_found : (m : ℕ → ℕ) (low : ℕ) (xs : List ℕ) (car : ℕ) (found : Option ℕ) → first_least m xs ≡ found → Rise low xs → IsFirstLeast m xs car → found ≡ Some car
is_found m low xs car None e rising h =
    let n : xs ≡ [] = none_of m xs e in
    let P : List ℕ → Type 0 = λ ys. Contains ys car in
    let c = subst P n h.member in absurd (omega (arith, c.1))
is_found m low xs car (Some other) e rising h = ap (λ (c : ℕ). Some c) (one_first m xs other car (found_is m low xs other rising e) h)

-- of rising letters the first least is the one that the function finds
pub first_least-exact : (m : ℕ → ℕ) (low : ℕ) (xs : List ℕ) (car : ℕ) → Rise low xs → IsFirstLeast m xs car ↔ (first_least m xs ≡ Some car)
first_least-exact m low xs car rising =
    (λ h. is_found m low xs car (first_least m xs) refl rising h, λ h. found_is m low xs car rising h)

pub first_least-some : (m : ℕ → ℕ) (xs : List ℕ) → 0 < length xs → IsSome (first_least m xs)
first_least-some m [] h = absurd (omega arith)
first_least-some m (x ∷ xs) h = refl

in_or_later : (m : ℕ → ℕ) (x : ℕ) (later : ℕ) (xs : List ℕ) (b : Bool) → Contains xs later → Contains (x ∷ xs) (cond b later x)
in_or_later m x later xs true h = later_in x xs later h
in_or_later m x later xs false h = head_in x xs

better_in : (m : ℕ → ℕ) (x : ℕ) (xs : List ℕ) (found : Option ℕ) → ((car : ℕ) → found ≡ Some car → Contains xs car) → Contains (x ∷ xs) (better m x found)
better_in m x xs None h = head_in x xs
better_in m x xs (Some later) h = in_or_later m x later xs (ltb (m later) (m x)) (h later refl)

pub first_least-member : (m : ℕ → ℕ) (xs : List ℕ) (car : ℕ) → first_least m xs ≡ Some car → Contains xs car
first_least-member m [] car h = cc
first_least-member m (x ∷ xs) car h =
    let e : better m x (first_least m xs) ≡ car = cc in
    let P : ℕ → Type 0 = λ c. Contains (x ∷ xs) c in
    subst P e (better_in m x xs (first_least m xs) (λ c f. first_least-member m xs c f))
