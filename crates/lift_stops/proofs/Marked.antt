-- Bits of a set, and the halts that they stand for.
use Rattle.std.proofs.Common.{All, take, get_or, ◌⊎◌, ◌≡◌, ◌≢◌, ℕ, zero, suc, ◌+◌, ◌-◌, ◌*◌, ◌^◌, ◌/◌, ◌%◌, min, max, ◌<◌, ◌≤◌, ◌==◌, ◌&&◌, ◌||◌, Bool, true, false, cond, None, Some, slice_get, List, [], ◌∷◌, ◌++◌, map, filter, length, refl, sym, ap, subst, ◌∙◌, arith, inl, inr}
use Rattle.std.specs.Int.{bit_at, trailing_zeros, w64}
use Rattle.std.specs.Int.Bits.{bit_xor}
use Rattle.std.specs.Int.RustNames.{bit_or}
use lib.Bits.{bit_and}
use Rattle.std.specs.List.{list_any, range_with_len}
use Rattle.std.proofs.Math.Nat.{eq-or-lt_of_le, pow-suc}
use Rattle.std.proofs.lemmas.Bool.{cases_eq, cases_lt, eq-eqb, ne_eqb}
use Rattle.std.proofs.lemmas.Nat.Bits.{bit_at-zero, bit_at_set_same, bit_at_set_other, bit_at_lowest, bit_at-suc, bit_at_above, bit_at_and, bit_at_or, bit_at_xor, bit_at-lt, bit_at-trailing_zeros}
use Rattle.std.proofs.lemmas.Nat.{leading_top}
use Rattle.std.specs.Int.Count.{count_leading_zeros}
use Rattle.std.proofs.Math.ListN.{set}
use Rattle.std.proofs.lemmas.List.{take_more, take_all, append-nil, get_or-set_same, get_or-set_other}
use Rattle.std.proofs.lemmas.List.Elements.{filter_agree, filter-append}
use Rattle.lift_base.specs.Travel.{pass_number, reverse_of}
use Rattle.lift_base.specs.declared.limits.TheConstants.{MOST_FLOORS}
use Rattle.lift_base.specs.declared.travel.Dir.{Dir}
use Rattle.lift_base.specs.declared.travel.Dir.TheVariants.{Up, Down}
use Rattle.lift_base.specs.declared.travel.Pass.{Pass}
use Rattle.lift_base.specs.declared.travel.Pass.TheVariants.{First, Second, Third}
use Rattle.lift_base.specs.declared.travel.Position.{Position}
use Rattle.lift_base.specs.declared.travel.Halt.{Halt}
use Rattle.lift_base.specs.declared.history.Row.{Row}
use Rattle.lift_stops.specs.declared.marks.Marks.{Marks}
use Rattle.lift_stops.specs.Insertion.{floor_rank}
use Rattle.lift_stops.specs.StopList.{HasFloors, legs_of, pass_of, dir_in, is_needed, floors_along, halts_in, same_pass, stop_list}
use Rattle.lift_stops.specs.Marks.{has_bit, places, marked, halt_on, halts_marked, all_marked, set_in, HasHalts}
use Rattle.lift_stops.specs.lemmas.Insertion.{IsIn, filter-agree}
use Rattle.lift_stops.specs.lemmas.Halts.{halt_at, one_more, or_false, stop_list-none, stop_list-push, length-put_legs}

-- ---- the lowest bit of a set

-- above a place, tests that agree but there keep the same
keeps_above : (p q : ℕ → Bool) (k a n : ℕ) → k < a → ((i : ℕ) → i < a + n → i ≢ k → q i ≡ p i) → filter p (range_with_len a n) ≡ filter q (range_with_len a n)
keeps_above p q k a zero above agree = refl
keeps_above p q k a (suc n) above agree =
    rw (agree a (omega arith) (λ same. omega (arith, same, above)), keeps_above p q k (a + 1) n (omega (arith, above)) (λ i below. agree i (omega (arith, below)))) refl

-- the first place that passes a test, and those that pass it after that
first_kept : (p q : ℕ → Bool) (k a n : ℕ) → a ≤ k → k < a + n → p k ≡ true → q k ≡ false → ((i : ℕ) → i < k → p i ≡ false) → ((i : ℕ) → i < a + n → i ≢ k → q i ≡ p i)
    → filter p (range_with_len a n) ≡ k ∷ filter q (range_with_len a n)
first_kept p q k a zero low high kept passed none agree = absurd (omega (arith, low, high))
first_kept p q k a (suc n) low high kept passed none agree = elim (eq-or-lt_of_le low) [
  | inl here ↦ rw (here, kept, passed) (ap (λ (rest : List ℕ). k ∷ rest) (keeps_above p q k (k + 1) n (omega arith) (λ i below. agree i (omega (arith, below, here)))))
  | inr later ↦
      let skips : p a ≡ false = none a later in
      let skips_too : q a ≡ false = agree a (omega arith) (λ same. omega (arith, same, later)) ∙ skips in
      rw (skips, skips_too) (first_kept p q k (a + 1) n (omega (arith, later)) (omega (arith, high)) kept passed none (λ i below. agree i (omega (arith, below))))
]

first_among : (xs : List ℕ) (n : ℕ) → xs ≡ range_with_len 0 n → (p q : ℕ → Bool) (k : ℕ) → k < n → p k ≡ true → q k ≡ false → ((i : ℕ) → i < k → p i ≡ false) → ((i : ℕ) → i < n → i ≢ k → q i ≡ p i)
    → filter p xs ≡ k ∷ filter q xs
first_among xs n is p q k within kept passed none agree =
    rw is (first_kept p q k 0 n (omega arith) (omega (arith, within)) kept passed none (λ i below. agree i (omega (arith, below))))

places-are : places ≡ range_with_len 0 MOST_FLOORS
unfolding places
places-are = refl

pub set_bit : (b : ℕ) → b ≡ 1 → (b == 1) ≡ true
set_bit b is = rw is refl

pub unset_bit : (b : ℕ) → b ≡ 0 → (b == 1) ≡ false
unset_bit b is = rw is refl

-- ---- the first floor of a set in a direction

-- a set with a floor's bit turned
abbrev pub flipped : ℕ → ℕ → ℕ
flipped set floor = bit_xor set (1 * 2 ^ floor % 2 ^ 64)

-- a floor that was there is gone
flipped-same : (set floor : ℕ) → floor < MOST_FLOORS → bit_at set floor ≡ 1 → bit_at (flipped set floor) floor ≡ 0
flipped-same set floor below there =
    let one : bit_at (1 * 2 ^ floor % 2 ^ 64) floor ≡ 1 = bit_at_set_same w64 0 floor below in
    omega (arith, bit_at_xor set (1 * 2 ^ floor % 2 ^ 64) floor, there, one)

flipped-other : (set floor other : ℕ) → floor < MOST_FLOORS → other ≢ floor → bit_at (flipped set floor) other ≡ bit_at set other
flipped-other set floor other below differs =
    let none : bit_at (1 * 2 ^ floor % 2 ^ 64) other ≡ 0 = bit_at_set_other w64 0 floor below other differs ∙ bit_at-zero other in
    omega (arith, bit_at_xor set (1 * 2 ^ floor % 2 ^ 64) other, none)

pub rank_below : (dir : Dir) (place : ℕ) → place < MOST_FLOORS → floor_rank dir place < MOST_FLOORS
rank_below Up place below = below
rank_below Down place below = omega arith

pub rank_twice : (dir : Dir) (place : ℕ) → place < MOST_FLOORS → floor_rank dir (floor_rank dir place) ≡ place
rank_twice Up place below = refl
rank_twice Down place below = omega (arith, below)

-- the first floor of a set in a direction, and the others
marked-first : (dir : Dir) (set others floor : ℕ) → floor < MOST_FLOORS → has_bit set floor ≡ true → ((place : ℕ) → place < floor_rank dir floor → has_bit set (floor_rank dir place) ≡ false)
    → has_bit others floor ≡ false → ((other : ℕ) → other < MOST_FLOORS → other ≢ floor → has_bit others other ≡ has_bit set other) → marked dir set ≡ floor_rank dir floor ∷ marked dir others
marked-first dir set others floor low there first gone stay =
    let back = rank_twice dir floor low in
    first_among places MOST_FLOORS places-are (λ place. has_bit set (floor_rank dir place)) (λ place. has_bit others (floor_rank dir place)) (floor_rank dir floor) (rank_below dir floor low)
    (ap (has_bit set) back ∙ there) (ap (has_bit others) back ∙ gone) first
    (λ i below other. stay (floor_rank dir i) (rank_below dir i below) (λ same. other (sym (rank_twice dir i below) ∙ ap (floor_rank dir) same)))

-- one less has other bits up to the lowest bit that is set
one_less : (k n : ℕ) → bit_at n k ≡ 1 → ((i : ℕ) → i < k → bit_at n i ≡ 0) → (bit_at (n - 1) k ≡ 0) × ((i : ℕ) → k < i → bit_at (n - 1) i ≡ bit_at n i)
one_less zero n is none =
    let odd : n % 2 ≡ 1 = sym (bit_at_lowest n) ∙ is in
    let half : (n - 1) / 2 ≡ n / 2 = omega (arith, odd) in (
      bit_at_lowest (n - 1) ∙ omega (arith, odd),
      λ i above. later i above half,
    )
  where
    later : (i : ℕ) → 0 < i → (n - 1) / 2 ≡ n / 2 → bit_at (n - 1) i ≡ bit_at n i
    later zero above half = absurd (omega (arith, above))
    later (suc i) above half = bit_at-suc (n - 1) i ∙ ap (λ (m : ℕ). bit_at m i) half ∙ sym (bit_at-suc n i)
one_less (suc k) n is none =
    let even : n % 2 ≡ 0 = sym (bit_at_lowest n) ∙ none 0 (omega arith) in
    let half : (n - 1) / 2 ≡ n / 2 - 1 = omega (arith, even) in
    let rest = one_less k (n / 2) (sym (bit_at-suc n k) ∙ is) (λ i below. sym (bit_at-suc n i) ∙ none (suc i) (omega (arith, below))) in (
      bit_at-suc (n - 1) k ∙ ap (λ (m : ℕ). bit_at m k) half ∙ rest.0,
      λ i above. later i above half rest.1,
    )
  where
    later : (i : ℕ) → suc k < i → (n - 1) / 2 ≡ n / 2 - 1 → ((j : ℕ) → k < j → bit_at (n / 2 - 1) j ≡ bit_at (n / 2) j) → bit_at (n - 1) i ≡ bit_at n i
    later zero above half rest = absurd (omega (arith, above))
    later (suc i) above half rest = bit_at-suc (n - 1) i ∙ ap (λ (m : ℕ). bit_at m i) half ∙ rest i (omega (arith, above)) ∙ sym (bit_at-suc n i)

min-zero : (a : ℕ) → min a 0 ≡ 0
min-zero a = omega arith

zero-min : (a b : ℕ) → a ≡ 0 → min a b ≡ a
zero-min a b none = omega (arith, none)

min-self : (a b : ℕ) → b ≡ a → min a b ≡ a
min-self a b same = omega (arith, same)

-- its bits
lowest_cleared : (set k : ℕ) → bit_at set k ≡ 1 → ((i : ℕ) → i < k → bit_at set i ≡ 0) → (bit_at (bit_and set (set - 1)) k ≡ 0) × ((i : ℕ) → i ≢ k → bit_at (bit_and set (set - 1)) i ≡ bit_at set i)
lowest_cleared set k is none =
    let less = one_less k set is none in (
      bit_at_and set (set - 1) k ∙ ap (λ (b : ℕ). min (bit_at set k) b) less.0 ∙ min-zero (bit_at set k),
      λ i other. bit_at_and set (set - 1) i ∙ elim (cases_lt i k) [
        | inl below ↦ zero-min (bit_at set i) (bit_at (set - 1) i) (none i below)
        | inr above ↦ min-self (bit_at set i) (bit_at (set - 1) i) (less.1 i (past i other above))
      ],
    )
  where
    past : (i : ℕ) → i ≢ k → k ≤ i → k < i
    past i other above = elim (eq-or-lt_of_le above) [ inl same ↦ absurd (other (sym same)) | inr later ↦ later ]

pub first-up : (set : ℕ) → 0 < set → set < 2 ^ 64 → marked Up set ≡ trailing_zeros w64 set ∷ marked Up (bit_and set (set - 1))
first-up set some fits =
    let lowest = bit_at-trailing_zeros w64 set some fits in
    let k : ℕ = trailing_zeros w64 set in
    let less = lowest_cleared set k lowest.1 lowest.2 in
    marked-first Up set (bit_and set (set - 1)) k lowest.0 (set_bit (bit_at set k) lowest.1) (λ i below. unset_bit (bit_at set i) (lowest.2 i below))
    (unset_bit (bit_at (bit_and set (set - 1)) k) less.0) (λ i below other. ap (λ b. b == 1) (less.1 i other))

-- the highest bit of a set is its last floor
top_bit : (j set : ℕ) → 2 ^ j ≤ set → set < 2 ^ suc j → bit_at set j ≡ 1
top_bit zero set some below = bit_at_lowest set ∙ omega (arith, some, below)
top_bit (suc j) set some below =
    let double : 2 ^ suc j ≡ 2 * 2 ^ j = omega (arith, pow-suc 2 j) in
    let more : 2 ^ suc (suc j) ≡ 2 * 2 ^ suc j = omega (arith, pow-suc 2 (suc j)) in
    bit_at-suc set j ∙ top_bit j (set / 2) (omega (arith, some, double)) (omega (arith, below, more))

pub first-down : (set : ℕ) → 0 < set → set < 2 ^ 64
    → marked Down set ≡ (63 - (63 - count_leading_zeros 64 set)) ∷ marked Down (flipped set (63 - count_leading_zeros 64 set))
first-down set some fits =
    let (j, count, low, high) = leading_top 64 set some fits in
    let floor : ℕ = 63 - count_leading_zeros 64 set in
    let here : floor ≡ j = omega (arith, count) in
    let below : floor < MOST_FLOORS = omega arith in
    marked-first Down set (flipped set floor) floor below
    (ap (has_bit set) here ∙ set_bit (bit_at set j) (top_bit j set low high))
    (λ place before. unset_bit (bit_at set (63 - place)) (bit_at_above set (suc j) (63 - place) high (omega (arith, count, before))))
    (unset_bit (bit_at (flipped set floor) floor) (flipped-same set floor below (ap (bit_at set) here ∙ top_bit j set low high)))
    (λ i low other. ap (λ b. b == 1) (flipped-other set floor i below other))

keeps_none : (xs : List ℕ) → filter (λ _. false) xs ≡ []
keeps_none [] = refl
keeps_none (x ∷ xs) = keeps_none xs

pub marked-none : (dir : Dir) → marked dir 0 ≡ []
marked-none dir = filter_agree (λ place. has_bit 0 (floor_rank dir place)) (λ _. false) (λ i. unset_bit (bit_at 0 (floor_rank dir i)) (bit_at-zero (floor_rank dir i))) places ∙ keeps_none places

-- ---- a floor joins a set

or_true : (b : Bool) → true ≡ (b || true)
or_true true = refl
or_true false = refl

-- the bit of a floor that joins, and those that stay
pub bit_joins : (set floor place : ℕ) → floor < MOST_FLOORS → has_bit (bit_or set (1 * 2 ^ floor % 2 ^ 64)) place ≡ (has_bit set place || floor == place)
bit_joins set floor place below = elim (cases_eq floor place) [
  | inl here ↦
      let bit : has_bit (bit_or set (1 * 2 ^ floor % 2 ^ 64)) place ≡ true = ap (λ (i : ℕ). has_bit (bit_or set (1 * 2 ^ floor % 2 ^ 64)) i) (sym here) ∙ set_bit (bit_at (bit_or set (1 * 2 ^ floor % 2 ^ 64)) floor) (bit_at_set_same w64 set floor below) in
      bit ∙ or_true (has_bit set place) ∙ ap (λ b. has_bit set place || b) (sym (eq-eqb floor place here))
  | inr other ↦
      let differs : (floor == place) ≡ false = ne_eqb floor place other in
      let bit : has_bit (bit_or set (1 * 2 ^ floor % 2 ^ 64)) place ≡ has_bit set place = ap (λ b. b == 1) (bit_at_set_other w64 set floor below place (λ same. other (sym same))) in
      bit ∙ or_false (has_bit set place) ∙ ap (λ b. has_bit set place || b) (sym differs)
]

-- the bits of two sets together
pub or_joins : (set legs place : ℕ) → has_bit (bit_or set legs) place ≡ (has_bit set place || has_bit legs place)
or_joins set legs place = ap (λ (b : ℕ). b == 1) (bit_at_or set legs place) ∙ either (bit_at set place) (bit_at legs place) (bit_at-lt set place) (bit_at-lt legs place)
  where
    either : (a b : ℕ) → a < 2 → b < 2 → (max a b == 1) ≡ (a == 1 || b == 1)
    either zero zero _ _ = refl
    either zero (suc zero) _ _ = refl
    either (suc zero) zero _ _ = refl
    either (suc zero) (suc zero) _ _ = refl
    either (suc (suc a)) b low _ = absurd (omega (arith, low))
    either zero (suc (suc b)) _ low = absurd (omega (arith, low))
    either (suc zero) (suc (suc b)) _ low = absurd (omega (arith, low))

-- two passes are one, or have sets of their own
one_pass : (a b : Pass) → (a ≡ b × same_pass a b ≡ true) ⊎ (pass_number b - 1 ≢ pass_number a - 1 × same_pass a b ≡ false)
one_pass First First = inl (refl, refl)
one_pass Second Second = inl (refl, refl)
one_pass Third Third = inl (refl, refl)
one_pass First Second = inr ((λ same. omega (arith, same)), refl)
one_pass First Third = inr ((λ same. omega (arith, same)), refl)
one_pass Second First = inr ((λ same. omega (arith, same)), refl)
one_pass Second Third = inr ((λ same. omega (arith, same)), refl)
one_pass Third First = inr ((λ same. omega (arith, same)), refl)
one_pass Third Second = inr ((λ same. omega (arith, same)), refl)

-- what is marked with one call more
pub one_joins : (rows : List Row) (row : Row) (position : Position) (pass of : Pass) (sets : List ℕ) (place legs floor : ℕ) → pass ≡ pass_of position row → place ≡ pass_number pass - 1 → place < length sets
    → has_bit (get_or sets (pass_number of - 1) 0) floor ≡ is_needed rows position (halt_at of floor) → has_bit legs floor ≡ list_any (λ leg. leg == floor) (legs_of row)
    → has_bit (get_or (set sets place (bit_or (get_or sets place 0) legs)) (pass_number of - 1) 0) floor ≡ is_needed (rows ++ row ∷ []) position (halt_at of floor)
one_joins rows row position pass of sets place legs floor its place-is inside before needs =
    let halt : Halt = halt_at of floor in
    let own : Bool = list_any (λ leg. leg == floor) (legs_of row) in
    let joined : ℕ = bit_or (get_or sets place 0) legs in
    elim (one_pass pass of) [
      | inl same ↦
          let at : pass_number of - 1 ≡ place = ap (λ p. pass_number p - 1) (sym same.0) ∙ sym place-is in
          let written : get_or (set sets place joined) (pass_number of - 1) 0 ≡ joined = ap (λ p. get_or (set sets place joined) p 0) at ∙ get_or-set_same sets place joined 0 inside in
          let is : same_pass (pass_of position row) of ≡ true = ap (λ p. same_pass p of) (sym its) ∙ same.1 in
          ap (λ s. has_bit s floor) written ∙ or_joins (get_or sets place 0) legs floor
          ∙ ap (λ p. has_bit (get_or sets p 0) floor || has_bit legs floor) (sym at)
          ∙ ap (λ b. b || has_bit legs floor) before ∙ ap (λ b. is_needed rows position halt || b) (needs ∙ ap (λ b. b && own) (sym is))
          ∙ one_more rows row position halt
      | inr other ↦
          let apart : pass_number of - 1 ≢ place = λ same. other.0 (same ∙ place-is) in
          let isnt : same_pass (pass_of position row) of ≡ false = ap (λ p. same_pass p of) (sym its) ∙ other.1 in
          ap (λ s. has_bit s floor) (get_or-set_other sets place (pass_number of - 1) joined 0 apart) ∙ before
          ∙ or_false (is_needed rows position halt) ∙ ap (λ b. is_needed rows position halt || b) (ap (λ b. b && own) (sym isnt))
          ∙ one_more rows row position halt
    ]

-- ---- the halts that are marked

filter_map : {X Y : Type 0} (p : Y → Bool) (f : X → Y) (xs : List X) → filter p (map f xs) ≡ map f (filter (λ x. p (f x)) xs)
filter_map p f [] = refl
filter_map {X} {Y} p f (x ∷ xs) =
    rw (filter_map p f xs) (elim (p (f x)) as (λ b. cond b (f x ∷ map f (filter (λ x. p (f x)) xs)) (map f (filter (λ x. p (f x)) xs)) ≡ map f (cond b (x ∷ filter (λ x. p (f x)) xs) (filter (λ x. p (f x)) xs))) [ true ↦ refl | false ↦ refl ])

map_twice : {X Y Z : Type 0} (g : Y → Z) (f : X → Y) (xs : List X) → map g (map f xs) ≡ map (λ x. g (f x)) xs
map_twice g f [] = refl
map_twice g f (x ∷ xs) = rw (map_twice g f xs) refl

along : (dir : Dir) → floors_along dir ≡ map (floor_rank dir) places
unfolding places
along Up = refl
along Down = refl

place-below : (k a n : ℕ) → IsIn k (range_with_len a n) → k < a + n
place-below k a zero member = absurd member
place-below k a (suc n) (inl same) = omega (arith, same)
place-below k a (suc n) (inr later) = omega (arith, place-below k (a + 1) n later)

places-below : (k : ℕ) → IsIn k places → k < MOST_FLOORS
places-below k member = omega (arith, place-below k 0 MOST_FLOORS (subst (λ (xs : List ℕ). IsIn k xs) places-are member))

pass_marked : (rows : List Row) (position : Position) (marks : Marks) (pass : Pass) → HasHalts rows position marks
    → halts_marked pass (dir_in position.dir pass) (set_in marks pass) ≡ filter (is_needed rows position) (halts_in position.dir pass)
pass_marked rows position marks pass has =
    let dir : Dir = dir_in position.dir pass in
    let needed : ℕ → Bool = λ place. is_needed rows position (halt_on pass dir place) in
    let marked_here : ℕ → Bool = λ place. has_bit (set_in marks pass) (floor_rank dir place) in
    let agree : filter marked_here places ≡ filter needed places = filter-agree marked_here needed places (λ place member. has.needed pass (floor_rank dir place) (rank_below dir place (places-below place member))) in
    let all : halts_in position.dir pass ≡ map (halt_on pass dir) places = ap (map (halt_at pass)) (along dir) ∙ map_twice (halt_at pass) (floor_rank dir) places in
    ap (map (halt_on pass dir)) agree ∙ sym (filter_map (is_needed rows position) (halt_on pass dir) places) ∙ ap (filter (is_needed rows position)) (sym all)

-- where the halts are marked that some call needs, they are the stop list
pub marked-stops : (rows : List Row) (position : Position) (marks : Marks) → HasHalts rows position marks → all_marked marks position.dir ≡ stop_list rows position
unfolding stop_list
marked-stops rows position marks has =
    let needed : Halt → Bool = is_needed rows position in
    let one = halts_in position.dir First in
    let two = halts_in position.dir Second in
    let three = halts_in position.dir Third in
    rw (pass_marked rows position marks First has, pass_marked rows position marks Second has, pass_marked rows position marks Third has, ← filter-append needed one two) (sym (filter-append needed (one ++ two) three))

-- ---- how many halts

-- a pass without floors
none_of_pass : (pass : Pass) (dir : Dir) (set : ℕ) → set ≡ 0 → halts_marked pass dir set ≡ []
none_of_pass pass dir set none = ap (λ (xs : List ℕ). map (halt_on pass dir) xs) (ap (marked dir) none ∙ marked-none dir)

-- the first halt is one of the first pass that has any
pub first_of_second : (marks : Marks) (dir : Dir) (halt : Halt) → (set_in marks First) ≡ 0
    → ((others : List Halt) → Some halt ≡ slice_get (halts_marked Second (reverse_of dir) (set_in marks Second) ++ others) 0) → Some halt ≡ slice_get (all_marked marks dir) 0
first_of_second marks dir halt none first =
    first (halts_marked Third dir (set_in marks Third))
    ∙ ap (λ (halts : List Halt). slice_get (halts ++ halts_marked Second (reverse_of dir) (set_in marks Second) ++ halts_marked Third dir (set_in marks Third)) 0) (sym (none_of_pass First dir (set_in marks First) none))

after_two : (marks : Marks) (dir : Dir) → (set_in marks First) ≡ 0 → (set_in marks Second) ≡ 0 → all_marked marks dir ≡ halts_marked Third dir (set_in marks Third)
after_two marks dir none no_second =
    ap (λ (halts : List Halt). halts ++ halts_marked Second (reverse_of dir) (set_in marks Second) ++ halts_marked Third dir (set_in marks Third)) (none_of_pass First dir (set_in marks First) none)
    ∙ ap (λ (halts : List Halt). halts ++ halts_marked Third dir (set_in marks Third)) (none_of_pass Second (reverse_of dir) (set_in marks Second) no_second)

pub first_of_third : (marks : Marks) (dir : Dir) (halt : Halt) → (set_in marks First) ≡ 0 → (set_in marks Second) ≡ 0
    → ((others : List Halt) → Some halt ≡ slice_get (halts_marked Third dir (set_in marks Third) ++ others) 0) → Some halt ≡ slice_get (all_marked marks dir) 0
first_of_third marks dir halt none no_second first =
    first []
    ∙ ap (λ (halts : List Halt). slice_get halts 0) (append-nil (halts_marked Third dir (set_in marks Third)) ∙ sym (after_two marks dir none no_second))

pub first_of_none : (marks : Marks) (dir : Dir) → (set_in marks First) ≡ 0 → (set_in marks Second) ≡ 0 → (set_in marks Third) ≡ 0 → None ≡ slice_get (all_marked marks dir) 0
first_of_none marks dir none no_second no_third =
    ap (λ (halts : List Halt). slice_get halts 0) (sym (after_two marks dir none no_second ∙ none_of_pass Third dir (set_in marks Third) no_third))

few_legs : (row : Row) → length (legs_of row) ≤ 2
few_legs row = either row.aboard row.from row.to
  where
    either : (aboard : Bool) (from to : ℕ) → length (cond aboard (to ∷ []) (from ∷ to ∷ [])) ≤ 2
    either true from to = omega arith
    either false from to = omega arith

-- a call adds at most two halts
pub length-push : (rows : List Row) (row : Row) (position : Position) → HasFloors row → length (stop_list (rows ++ row ∷ []) position) ≤ length (stop_list rows position) + 2
length-push rows row position floors =
    let same = ap (λ (halts : List Halt). length halts) (stop_list-push rows row position floors) in
    omega (arith, same, length-put_legs position.dir (pass_of position row) (legs_of row) (stop_list rows position), few_legs row)

short_to : (rows : List Row) (blank : Row) (position : Position) (k : ℕ) → k ≤ length rows → All HasFloors rows → length (stop_list (take k rows) position) ≤ 2 * k
short_to rows blank position zero within floors = (let none = ap (λ (halts : List Halt). length halts) (stop_list-none position) in omega (arith, none))
short_to rows blank position (suc k) within floors =
    let next : suc k ≡ k + 1 = omega arith in
    let more = ap (λ (rs : List Row). length (stop_list rs position)) (take_more rows k blank (omega (arith, within))) in
    let one = length-push (take k rows) (get_or rows k blank) position (floors k blank (omega (arith, within))) in
    let before = short_to rows blank position k (omega (arith, within)) floors in
    rw next (omega (arith, more, one, before))

-- at most two halts for each call
pub short : (rows : List Row) (position : Position) → All HasFloors rows → length (stop_list rows position) ≤ 2 * length rows
short [] position floors = (let none = ap (λ (halts : List Halt). length halts) (stop_list-none position) in omega (arith, none))
short (row ∷ others) position floors =
    let rows : List Row = row ∷ others in
    let all = ap (λ (rs : List Row). length (stop_list rs position)) (take_all (length rows) rows (omega arith)) in
    omega (arith, all, short_to rows row position (length rows) (omega arith) floors)
