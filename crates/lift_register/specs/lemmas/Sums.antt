-- Lists and sums over the cars, the terminals and the kiosks.
use Rattle.std.proofs.Common.{◌≡◌, ◌≢◌, ℕ, zero, suc, ◌+◌, ◌<◌, ◌≤◌, ◌*◌, List, [], ◌∷◌, length}
use Rattle.std.proofs.Common.{map, sum_by, get_or, refl, sym, ◌∙◌, ap, arith, inl, inr}
use Rattle.std.specs.List.{range_with_len}
use Rattle.std.proofs.Math.ListN.{set}
use Rattle.std.proofs.lemmas.List.{ext_get_or, length-set, get_or-set_other}
use Rattle.std.proofs.lemmas.Grind.{get_or-set_at}
use Rattle.std.proofs.lemmas.List.FromFn.{sum_by-map-range_with_len_more, get_or-map-range_with_len}
use Rattle.std.proofs.lemmas.List.FromFn.{length-map-range_with_len}
use Rattle.std.proofs.lemmas.List.Sums.{sum_by-cons}
use Rattle.std.proofs.Math.Nat.{eq-or-lt_of_le}
use Rattle.std.proofs.lemmas.Bool.{cases_eq}
use Rattle.lift_base.specs.declared.limits.TheConstants.{FIRST_KIOSK, MOST_CARS, MOST_DONE, MOST_KIOSKS, MOST_TERMINALS}
use Rattle.lift_register.specs.Register.{cars, terminals, kiosk_terminals}

-- a list whose places all have what f gives there
pub list_on_range : {X : Type 0} (f : ℕ → X) (xs : List X) (n : ℕ) (d : X) → length xs ≡ n
    → ((k : ℕ) → k < n → get_or xs k d ≡ f k) → xs ≡ map f (range_with_len 0 n)
list_on_range f xs n d long same =
    ext_get_or d xs (map f (range_with_len 0 n)) (long ∙ sym (length-map-range_with_len f 0 n))
    (λ k within. grind (arith, get_or-map-range_with_len, same k))

-- a list whose places all have what f gives there, but for one that is written
pub set_on_range : {X : Type 0} (f : ℕ → X) (xs : List X) (n i : ℕ) (d : X) → length xs ≡ n → i < n
    → ((k : ℕ) → k < n → k ≢ i → f k ≡ get_or xs k d) → set xs i (f i) ≡ map f (range_with_len 0 n)
set_on_range f xs n i d long below others =
    ext_get_or d (set xs i (f i)) (map f (range_with_len 0 n))
    (length-set xs i (f i) ∙ long ∙ sym (length-map-range_with_len f 0 n))
    (λ k within. grind (
      arith,
      get_or-set_at,
      get_or-set_other,
      get_or-map-range_with_len,
      length-set,
      others k,
    ))

pub list_on_cars : {X : Type 0} (f : ℕ → X) (xs : List X) (d : X) → length xs ≡ MOST_CARS
    → ((k : ℕ) → k < MOST_CARS → get_or xs k d ≡ f k) → xs ≡ map f cars
unfolding cars
list_on_cars f xs d long same = list_on_range f xs MOST_CARS d long same

pub list_on_terminals : {X : Type 0} (f : ℕ → X) (xs : List X) (d : X) → length xs ≡ MOST_TERMINALS
    → ((k : ℕ) → k < MOST_TERMINALS → get_or xs k d ≡ f k) → xs ≡ map f terminals
unfolding terminals
list_on_terminals f xs d long same = list_on_range f xs MOST_TERMINALS d long same

pub set_on_cars : {X : Type 0} (f : ℕ → X) (xs : List X) (i : ℕ) (d : X) → length xs ≡ MOST_CARS → i < MOST_CARS
    → ((k : ℕ) → k < MOST_CARS → k ≢ i → f k ≡ get_or xs k d) → set xs i (f i) ≡ map f cars
unfolding cars
set_on_cars f xs i d long below others = set_on_range f xs MOST_CARS i d long below others

pub set_on_terminals : {X : Type 0} (f : ℕ → X) (xs : List X) (i : ℕ) (d : X) → length xs ≡ MOST_TERMINALS
    → i < MOST_TERMINALS → ((k : ℕ) → k < MOST_TERMINALS → k ≢ i → f k ≡ get_or xs k d) → set xs i (f i) ≡ map f terminals
unfolding terminals
set_on_terminals f xs i d long below others = set_on_range f xs MOST_TERMINALS i d long below others

pub get_or-on_cars : {X : Type 0} (f : ℕ → X) (i : ℕ) (d : X) → i < MOST_CARS
    → get_or (map f cars) i d ≡ f i
unfolding cars
get_or-on_cars f i d below = get_or-map-range_with_len f 0 MOST_CARS i i d below (omega arith)

pub get_or-on_terminals : {X : Type 0} (f : ℕ → X) (i : ℕ) (d : X) → i < MOST_TERMINALS
    → get_or (map f terminals) i d ≡ f i
unfolding terminals
get_or-on_terminals f i d below = get_or-map-range_with_len f 0 MOST_TERMINALS i i d below (omega arith)

pub length-on_cars : {X : Type 0} (f : ℕ → X) → length (map f cars) ≡ MOST_CARS
unfolding cars
length-on_cars f = length-map-range_with_len f 0 MOST_CARS

pub length-on_terminals : {X : Type 0} (f : ℕ → X) → length (map f terminals) ≡ MOST_TERMINALS
unfolding terminals
length-on_terminals f = length-map-range_with_len f 0 MOST_TERMINALS

pub same_sum : (f g : ℕ → ℕ) (a n : ℕ) → ((k : ℕ) → a ≤ k → k < a + n → g k ≡ f k)
    → sum_by g (range_with_len a n) ≡ sum_by f (range_with_len a n)
same_sum f g a zero same = refl
same_sum f g a (suc n) same =
    rw (sum_by-cons f a (range_with_len (a + 1) n), sum_by-cons g a (range_with_len (a + 1) n))
    (omega (
      arith,
      same a (omega arith) (omega arith),
      same_sum f g (a + 1) n (λ k above below.
          same k (omega arith) (omega arith)),
    ))

-- two sums that differ at one number alone
pub more_at_one : (f g : ℕ → ℕ) (a n i x : ℕ) → ((k : ℕ) → k ≢ i → g k ≡ f k) → a ≤ i → i < a + n
    → g i ≡ f i + x → sum_by g (range_with_len a n) ≡ sum_by f (range_with_len a n) + x
more_at_one f g a zero i x others low high here = absurd (omega arith)
more_at_one f g a (suc n) i x others low high here = elim (eq-or-lt_of_le low) [
  | inl first ↦ rw (
    sum_by-cons f a (range_with_len (a + 1) n),
    sum_by-cons g a
        (range_with_len (a + 1) n),
    first,
  )
      (omega (arith, here, same_sum f g (i + 1) n (λ k above below. others k (omega arith))))
  | inr later ↦ rw (
    sum_by-cons f a (range_with_len (a + 1) n),
    sum_by-cons g a
        (range_with_len (a + 1) n),
    others a (omega arith),
  )
      (omega (arith, more_at_one f g (a + 1) n i x others (omega arith) (omega arith) here))
]

pub sum_of_nothing : (a n : ℕ) → sum_by (λ (k : ℕ). 0) (range_with_len a n) ≡ 0
sum_of_nothing a zero = refl
sum_of_nothing a (suc n) =
    rw (sum_by-cons (λ (k : ℕ). 0) a (range_with_len (a + 1) n))
    (omega (arith, sum_of_nothing (a + 1) n))

pub more_at_one_car : (f g : ℕ → ℕ) (i x : ℕ) → ((k : ℕ) → k ≢ i → g k ≡ f k) → i < MOST_CARS
    → g i ≡ f i + x → sum_by g cars ≡ sum_by f cars + x
unfolding cars
more_at_one_car f g i x others below here = more_at_one f g 0 MOST_CARS i x others (omega arith) below here

pub only_at_one_car : (f : ℕ → ℕ) (i : ℕ) → ((k : ℕ) → k ≢ i → f k ≡ 0) → i < MOST_CARS
    → sum_by f cars ≡ f i
unfolding cars
only_at_one_car f i others below =
    omega (
      arith,
      sum_of_nothing 0 MOST_CARS,
      more_at_one (λ (k : ℕ).
          0) f 0 MOST_CARS i (f i) others (omega arith) below (omega arith),
    )

pub nothing_over_cars : (f : ℕ → ℕ) → ((k : ℕ) → f k ≡ 0) → sum_by f cars ≡ 0
unfolding cars
nothing_over_cars f none =
    same_sum (λ (k : ℕ). 0) f 0 MOST_CARS (λ k above below. none k) ∙ sum_of_nothing 0 MOST_CARS

pub more_at_one_kiosk : (f g : ℕ → ℕ) (i x : ℕ) → ((k : ℕ) → k ≢ i → g k ≡ f k) → FIRST_KIOSK ≤ i → i < MOST_TERMINALS
    → g i ≡ f i + x → sum_by g kiosk_terminals ≡ sum_by f kiosk_terminals + x
unfolding kiosk_terminals
more_at_one_kiosk f g i x others above below here =
    more_at_one f g FIRST_KIOSK MOST_KIOSKS i x others above below here

pub same_sum_over_kiosks : (f g : ℕ → ℕ) → ((k : ℕ) → FIRST_KIOSK ≤ k → k < MOST_TERMINALS → g k ≡ f k)
    → sum_by g kiosk_terminals ≡ sum_by f kiosk_terminals
unfolding kiosk_terminals
same_sum_over_kiosks f g same = same_sum f g FIRST_KIOSK MOST_KIOSKS same

pub nothing_over_kiosks : (f : ℕ → ℕ) → ((k : ℕ) → f k ≡ 0) → sum_by f kiosk_terminals ≡ 0
unfolding kiosk_terminals
nothing_over_kiosks f none =
    same_sum (λ (k : ℕ). 0) f FIRST_KIOSK MOST_KIOSKS (λ k above below. none k) ∙ sum_of_nothing FIRST_KIOSK MOST_KIOSKS

pub at_most_sum : (f : ℕ → ℕ) (a n i : ℕ) → a ≤ i → i < a + n → f i ≤ sum_by f (range_with_len a n)
at_most_sum f a zero i low high = absurd (omega arith)
at_most_sum f a (suc n) i low high = elim (eq-or-lt_of_le low) [
  | inl first ↦ rw (sum_by-cons f a (range_with_len (a + 1) n), first) (omega arith)
  | inr later ↦ rw (sum_by-cons f a (range_with_len (a + 1) n))
      (omega (arith, at_most_sum f (a + 1) n i (omega arith) (omega arith)))
]

pub at_most_over_cars : (f : ℕ → ℕ) (i : ℕ) → i < MOST_CARS → f i ≤ sum_by f cars
unfolding cars
at_most_over_cars f i below = at_most_sum f 0 MOST_CARS i (omega arith) below

pub sum_below : (f : ℕ → ℕ) (m a n : ℕ) → ((k : ℕ) → f k ≤ m)
    → sum_by f (range_with_len a n) ≤ n * m
sum_below f m a zero each = omega arith
sum_below f m a (suc n) each =
    rw (sum_by-cons f a (range_with_len (a + 1) n))
    (omega (arith, each a, sum_below f m (a + 1) n each))

pub kiosks_below : (f : ℕ → ℕ) → ((k : ℕ) → f k ≤ 16777215) → sum_by f kiosk_terminals ≤ MOST_DONE
unfolding kiosk_terminals
kiosks_below f each = omega (arith, sum_below f 16777215 FIRST_KIOSK MOST_KIOSKS each)

pub sum_of_map : (f : ℕ → ℕ) (xs : List ℕ) → sum_by (λ x. x) (map f xs) ≡ sum_by f xs
sum_of_map f [] = refl
sum_of_map f (x ∷ xs) =
    rw (sum_by-cons (λ (y : ℕ). y) (f x) (map f xs), sum_by-cons f x xs, sum_of_map f xs) refl

-- a sum over one number more
pub sum_by-range_more : (f : ℕ → ℕ) (a n : ℕ)
    → sum_by f (range_with_len a (n + 1)) ≡ sum_by f (range_with_len a n) + f (a + n)
sum_by-range_more f a n =
    sym (sum_of_map f (range_with_len a (n + 1)))
    ∙ sum_by-map-range_with_len_more (λ x. x) f a n (a + n) refl
    ∙ ap (λ total. total + f (a + n)) (sum_of_map f (range_with_len a n))

-- what is true of each element of a list is so after a write of one
pub after_set : {X : Type 0} (P : ℕ → X → Type 0) (xs : List X) (i : ℕ) (x d : X) → i < length xs
    → P i x → ((k : ℕ) → P k (get_or xs k d)) → (k : ℕ) → P k (get_or (set xs i x) k d)
after_set P xs i x d below here others k = elim (cases_eq k i) [
  | inl same ↦ rw (same, get_or-set_at xs i i x d refl below) here
  | inr other ↦ rw (get_or-set_other xs i k x d other) (others k)
]
