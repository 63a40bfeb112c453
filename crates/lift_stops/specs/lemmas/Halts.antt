-- The order of all halts.
use Rattle.std.proofs.Common.{◌≡◌, ◌≢◌, ℕ, suc, ◌+◌, ◌-◌, ◌<◌, ◌≤◌, ◌==◌, ◌&&◌, ◌||◌, Bool, true}
use Rattle.std.proofs.Common.{false, if◌then◌else◌, nat_lt, List, [], ◌∷◌, ◌++◌, map, filter}
use Rattle.std.proofs.Common.{length, get_or, Contains, cond, All, refl, sym, ◌∙◌, ap, arith, inl}
use Rattle.std.proofs.Common.{inr, subst}
use Rattle.std.proofs.lemmas.Bool.{ne_eqb, eq-eqb, cases_eq, cases_lt, ltb-true, lt-ltb, le-ltb}
use Rattle.std.proofs.lemmas.List.Folds.{list_any-append, list_any_at}
use Rattle.std.proofs.lemmas.List.Elements.{All-cons, All-nil}
use Rattle.std.specs.List.{list_any, list_all, range_with_len}
use Rattle.lift_base.specs.Travel.{same_dir}
use Rattle.lift_base.specs.History.{dir_of}
use Rattle.lift_base.specs.declared.limits.TheConstants.{MOST_FLOORS, TOP_FLOOR}
use Rattle.lift_base.specs.declared.travel.Dir.{Dir}
use Rattle.lift_base.specs.declared.travel.Dir.TheVariants.{Up, Down}
use Rattle.lift_base.specs.declared.travel.Pass.{Pass}
use Rattle.lift_base.specs.declared.travel.Pass.TheVariants.{First, Second, Third}
use Rattle.lift_base.specs.declared.travel.Position.{Position}
use Rattle.lift_base.specs.declared.travel.Halt.{Halt}
use Rattle.lift_base.specs.declared.history.Row.{Row}
use Rattle.lift_stops.specs.Insertion.{put, rank_of, floor_rank}
use Rattle.lift_stops.specs.StopList.{HasFloors, legs_of, first_leg, is_ahead, pass_of, dir_in}
use Rattle.lift_stops.specs.StopList.{same_pass, is_halt_of, is_needed, floors_along, halts_in}
use Rattle.lift_stops.specs.StopList.{all_halts, stop_list, halts_of}
use Rattle.lift_stops.specs.lemmas.Insertion.{Rises, Rises-from_test, IsIn, IsIn-map, IsIn-left}
use Rattle.lift_stops.specs.lemmas.Insertion.{IsIn-right, IsIn-range, and_true, length-put}
use Rattle.lift_stops.specs.lemmas.Insertion.{filter-agree, filter-filter, put-filter}

pub all_halts-rise : (dir : Dir) → Rises (rank_of dir) 0 (all_halts dir)
all_halts-rise Up = Rises-from_test (rank_of Up) 0 (all_halts Up) refl
all_halts-rise Down = Rises-from_test (rank_of Down) 0 (all_halts Down) refl

abbrev pub halt_at : Pass → ℕ → Halt
halt_at pass floor = record { pass = pass; floor = floor }

pub floors_along-all : (dir : Dir) (floor : ℕ) → floor < MOST_FLOORS → IsIn floor (floors_along dir)
floors_along-all Up floor below = IsIn-range floor 0 MOST_FLOORS (omega arith) below
floors_along-all Down floor below =
    let place : ℕ = TOP_FLOOR - floor in
    let same : TOP_FLOOR - (TOP_FLOOR - floor) ≡ floor = omega arith in
    subst (λ (f : ℕ). IsIn f (map (λ n. TOP_FLOOR - n) (range_with_len 0 MOST_FLOORS))) same
    (IsIn-map (λ n. TOP_FLOOR - n) (TOP_FLOOR - floor) (range_with_len 0 MOST_FLOORS)
    (IsIn-range (TOP_FLOOR - floor) 0 MOST_FLOORS (omega arith) (omega arith)))

pub halts_in-all : (dir : Dir) (pass : Pass) (floor : ℕ) → floor < MOST_FLOORS
    → IsIn (halt_at pass floor) (halts_in dir pass)
halts_in-all dir pass floor below =
    IsIn-map (halt_at pass) floor (floors_along (dir_in dir pass))
    (floors_along-all (dir_in dir pass) floor below)

pub all_halts-all : (dir : Dir) (pass : Pass) (floor : ℕ) → floor < MOST_FLOORS
    → IsIn (halt_at pass floor) (all_halts dir)
all_halts-all dir First floor below =
    IsIn-left (halt_at First floor) (halts_in dir First ++ halts_in dir Second) (halts_in dir Third)
    (IsIn-left (halt_at First floor) (halts_in dir First) (halts_in dir Second)
    (halts_in-all dir First floor below))
all_halts-all dir Second floor below =
    IsIn-left (halt_at Second floor) (halts_in dir First ++ halts_in dir Second)
    (halts_in dir Third) (IsIn-right (halt_at Second floor) (halts_in dir First)
    (halts_in dir Second) (halts_in-all dir Second floor below))
all_halts-all dir Third floor below =
    IsIn-right (halt_at Third floor) (halts_in dir First ++ halts_in dir Second)
    (halts_in dir Third) (halts_in-all dir Third floor below)

-- floors are all below 64
pub floors_below : (xs : List Halt) → list_all (λ (halt : Halt). nat_lt halt.floor MOST_FLOORS) xs ≡ true
    → (x : Halt) → IsIn x xs → x.floor < MOST_FLOORS
floors_below [] test x member = absurd member
floors_below (y ∷ ys) test x (inl same) =
    rw same (ltb-true y.floor MOST_FLOORS
    (and_true (nat_lt y.floor MOST_FLOORS) (list_all (λ (halt : Halt). nat_lt halt.floor MOST_FLOORS) ys) test).0)
floors_below (y ∷ ys) test x (inr later) =
    floors_below ys (and_true (nat_lt y.floor MOST_FLOORS) (list_all (λ (halt : Halt).
    nat_lt halt.floor MOST_FLOORS) ys) test).1 x later

pub all_halts-below : (dir : Dir) (x : Halt) → IsIn x (all_halts dir) → x.floor < MOST_FLOORS
all_halts-below Up x member = floors_below (all_halts Up) refl x member
all_halts-below Down x member = floors_below (all_halts Down) refl x member

pub same_tests : (m n p q : ℕ) → (m ≡ n → p ≡ q) → (p ≡ q → m ≡ n) → (m == n) ≡ (p == q)
same_tests m n p q there back = elim (cases_eq p q) [
  | inl same ↦ rw (eq-eqb p q same, eq-eqb m n (back same)) refl
  | inr other ↦ rw (ne_eqb p q other, ne_eqb m n (λ same. other (there same))) refl
]

pub same_floor_rank : (dir : Dir) (a b k : ℕ) → a < MOST_FLOORS → b < MOST_FLOORS
    → (k + floor_rank dir a == k + floor_rank dir b) ≡ (b == a)
same_floor_rank Up a b k below_a below_b =
    same_tests (k + a) (k + b) b a (λ same. omega (arith, same)) (λ same. omega (arith, same))
same_floor_rank Down a b k below_a below_b =
    same_tests (k + (TOP_FLOOR - a)) (k + (TOP_FLOOR - b)) b a (λ same. omega (arith, same)) (λ same.
    omega (arith, same))

pub floor_rank-below : (dir : Dir) (a : ℕ) → a < MOST_FLOORS → floor_rank dir a < MOST_FLOORS
floor_rank-below Up a below = below
floor_rank-below Down a below = omega (arith, below)

pub same_ranks_at : (dir : Dir) (p q : Pass) (f g : ℕ) → f < MOST_FLOORS → g < MOST_FLOORS
    → (rank_of dir (halt_at p f) == rank_of dir (halt_at q g)) ≡ (same_pass q p && g == f)
same_ranks_at dir First First f g below_f below_g =
    same_floor_rank (dir_in dir First) f g 0 below_f below_g
same_ranks_at dir First Second f g below_f below_g =
    ne_eqb (0 + floor_rank (dir_in dir First) f) (64 + floor_rank (dir_in dir Second) g) (λ same.
    omega (
      arith,
      same,
      floor_rank-below (dir_in dir First) f below_f,
      floor_rank-below
          (dir_in dir Second) g below_g,
    ))
same_ranks_at dir First Third f g below_f below_g =
    ne_eqb (0 + floor_rank (dir_in dir First) f) (128 + floor_rank (dir_in dir Third) g) (λ same.
    omega (
      arith,
      same,
      floor_rank-below (dir_in dir First) f below_f,
      floor_rank-below
          (dir_in dir Third) g below_g,
    ))
same_ranks_at dir Second First f g below_f below_g =
    ne_eqb (64 + floor_rank (dir_in dir Second) f) (0 + floor_rank (dir_in dir First) g) (λ same.
    omega (
      arith,
      same,
      floor_rank-below (dir_in dir Second) f below_f,
      floor_rank-below
          (dir_in dir First) g below_g,
    ))
same_ranks_at dir Second Second f g below_f below_g =
    same_floor_rank (dir_in dir Second) f g 64 below_f below_g
same_ranks_at dir Second Third f g below_f below_g =
    ne_eqb (64 + floor_rank (dir_in dir Second) f) (128 + floor_rank (dir_in dir Third) g) (λ same.
    omega (
      arith,
      same,
      floor_rank-below (dir_in dir Second) f below_f,
      floor_rank-below
          (dir_in dir Third) g below_g,
    ))
same_ranks_at dir Third First f g below_f below_g =
    ne_eqb (128 + floor_rank (dir_in dir Third) f) (0 + floor_rank (dir_in dir First) g) (λ same.
    omega (
      arith,
      same,
      floor_rank-below (dir_in dir Third) f below_f,
      floor_rank-below
          (dir_in dir First) g below_g,
    ))
same_ranks_at dir Third Second f g below_f below_g =
    ne_eqb (128 + floor_rank (dir_in dir Third) f) (64 + floor_rank (dir_in dir Second) g) (λ same.
    omega (
      arith,
      same,
      floor_rank-below (dir_in dir Third) f below_f,
      floor_rank-below
          (dir_in dir Second) g below_g,
    ))
same_ranks_at dir Third Third f g below_f below_g =
    same_floor_rank (dir_in dir Third) f g 128 below_f below_g

-- two halts have the same rank where they are the same
pub same_ranks : (dir : Dir) (a b : Halt) → a.floor < MOST_FLOORS → b.floor < MOST_FLOORS
    → (rank_of dir a == rank_of dir b) ≡ (same_pass b.pass a.pass && b.floor == a.floor)
same_ranks dir a b below_a below_b = same_ranks_at dir a.pass b.pass a.floor b.floor below_a below_b

-- a halt put among those that pass a test: those that pass it or are that halt
pub put-halt : (dir : Dir) (p : Halt → Bool) (x : Halt) → x.floor < MOST_FLOORS
    → put (rank_of dir) x (filter p (all_halts dir))
    ≡ filter (λ halt. p halt || same_pass x.pass halt.pass && x.floor == halt.floor) (all_halts dir)
put-halt dir p x below =
    put-filter (rank_of dir) 0 p x (all_halts dir) (all_halts-rise dir)
    (all_halts-all dir x.pass x.floor below)
    ∙ filter-agree (λ halt. p halt || rank_of dir halt == rank_of dir x) (λ halt.
    p halt || same_pass x.pass halt.pass && x.floor == halt.floor) (all_halts dir)
    (λ halt member. ap (λ b.
    p halt || b) (same_ranks dir halt x (all_halts-below dir halt member) below))

pub or_none : (a b : Bool) → a ≡ (a || b && false)
or_none true b = refl
or_none false true = refl
or_none false false = refl

pub or_both : (a b c d : Bool) → ((a || b && c) || b && d) ≡ (a || b && (c || d))
or_both true b c d = refl
or_both false true c d = refl
or_both false false c d = refl

pub length-cons : (x : ℕ) (xs : List ℕ) → length (x ∷ xs) ≡ suc (length xs)
length-cons x xs = refl

-- the halts of some rows and one more
abbrev pub put_legs : Dir → Pass → List ℕ → List Halt → List Halt
put_legs dir pass [] halts = halts
put_legs dir pass (leg ∷ legs) halts =
    put_legs dir pass legs (put (rank_of dir) (halt_at pass leg) halts)

pub put_legs-filter : (dir : Dir) (pass : Pass) (legs : List ℕ) (p : Halt → Bool)
    → ((k : ℕ) (d : ℕ) → k < length legs → get_or legs k d < MOST_FLOORS)
    → put_legs dir pass legs (filter p (all_halts dir))
    ≡ filter (λ halt. p halt || (same_pass pass halt.pass && list_any (λ leg.
    leg == halt.floor) legs)) (all_halts dir)
put_legs-filter dir pass [] p below =
    filter-agree p (λ halt. p halt || same_pass pass halt.pass && false) (all_halts dir)
    (λ halt member. or_none (p halt) (same_pass pass halt.pass))
put_legs-filter dir pass (leg ∷ legs) p below =
    rw (put-halt dir p (halt_at pass leg) (below 0 leg (omega arith)))
    (put_legs-filter dir pass legs (λ halt. p halt || same_pass pass halt.pass && leg == halt.floor)
    (λ k d within. below (suc k) d (omega (arith, within)))
    ∙ filter-agree (λ halt. (p halt || same_pass pass halt.pass && leg
    == halt.floor) || same_pass pass halt.pass && list_any (λ other. other == halt.floor) legs)
    (λ halt. p halt || same_pass pass halt.pass && list_any (λ other.
    other == halt.floor) (leg ∷ legs)) (all_halts dir)
    (λ halt member. or_both (p halt) (same_pass pass halt.pass) (leg == halt.floor)
    (list_any (λ other. other == halt.floor) legs)))

pub or_false : (b : Bool) → b ≡ (b || false)
or_false true = refl
or_false false = refl

pub one_more : (rows : List Row) (row : Row) (position : Position) (halt : Halt)
    → (is_needed rows position halt || is_halt_of position row halt)
    ≡ is_needed (rows ++ row ∷ []) position halt
one_more rows row position halt =
    rw (list_any-append (λ (row : Row). is_halt_of position row halt) rows (row ∷ []))
    (ap (λ b. is_needed rows position halt || b) (or_false (is_halt_of position row halt)))

-- The list with one more row is the list with that row's legs put in.
pub stop_list-push : (rows : List Row) (row : Row) (position : Position)
    → ((k : ℕ) (d : ℕ) → k < length (legs_of row) → get_or (legs_of row) k d < MOST_FLOORS) →
    put_legs position.dir (pass_of position row) (legs_of row) (stop_list rows position)
    ≡ stop_list (rows ++ row ∷ []) position
unfolding stop_list
stop_list-push rows row position below =
    put_legs-filter position.dir (pass_of position row) (legs_of row)
    (is_needed rows position) below
    ∙ filter-agree (λ halt. is_needed rows position halt || is_halt_of position row halt)
    (is_needed (rows ++ row ∷ []) position) (all_halts position.dir)
    (λ halt member. one_more rows row position halt)

pub length-put_legs : (dir : Dir) (pass : Pass) (legs : List ℕ) (halts : List Halt)
    → length (put_legs dir pass legs halts) ≤ length halts + length legs
length-put_legs dir pass [] halts = omega arith
length-put_legs dir pass (leg ∷ legs) halts =
    omega (
      arith,
      length-put_legs dir pass legs
          (put (rank_of dir) (halt_at pass leg) halts),
      length-put (rank_of dir)
          (halt_at pass leg) halts,
      length-cons leg legs,
    )

-- a call's pass is made in the call's direction
pub dir_in-pass_of : (position : Position) (row : Row)
    → dir_in position.dir (pass_of position row) ≡ dir_of row.from row.to
dir_in-pass_of position row =
    cases (dir_of row.from row.to) position.dir
    (is_ahead position.dir (first_leg row) position.floor)
  where
    cases : (call dir : Dir) (ahead : Bool)
        → dir_in dir (if same_dir call dir then (if ahead then First else Third) else Second) ≡ call
    cases Up Up true = refl
    cases Up Up false = refl
    cases Up Down ahead = refl
    cases Down Up ahead = refl
    cases Down Down true = refl
    cases Down Down false = refl

pub floor_rank-travel : (from to : ℕ) → from ≢ to → from < MOST_FLOORS → to < MOST_FLOORS
    → floor_rank (dir_of from to) from < floor_rank (dir_of from to) to
floor_rank-travel from to apart below_from below_to = elim (cases_lt from to) [
  | inl up ↦ rw (lt-ltb from to up) up
  | inr down ↦ rw (le-ltb from to down) (omega (arith, apart, down, below_from))
]

-- the legs of a waiting call, in the order of travel
pub legs-put : (dir : Dir) (pass : Pass) (from to : ℕ) → dir_in dir pass ≡ dir_of from to
    → from ≢ to → from < MOST_FLOORS → to < MOST_FLOORS
    → put_legs dir pass (from ∷ to ∷ []) [] ≡ halt_at pass from ∷ halt_at pass to ∷ []
legs-put dir pass from to travels apart below_from below_to =
    let ahead : floor_rank (dir_in dir pass) from < floor_rank (dir_in dir pass) to =
    rw travels (floor_rank-travel from to apart below_from below_to) in
    let before : rank_of dir (halt_at pass from) < rank_of dir (halt_at pass to) =
    omega (arith, ahead) in
    rw (lt-ltb (rank_of dir (halt_at pass from)) (rank_of dir (halt_at pass to)) before) refl

pub filter-none : (xs : List Halt) → filter (λ _. false) xs ≡ []
filter-none [] = refl
filter-none (x ∷ xs) = filter-none xs

pub own_legs : (dir : Dir) (pass : Pass) (from to : ℕ) (aboard : Bool)
    → dir_in dir pass ≡ dir_of from to → from ≢ to →
    ((k : ℕ) (d : ℕ) → k < length (if aboard then to ∷ [] else from ∷ to ∷ [])
    → get_or (if aboard then to ∷ [] else from ∷ to ∷ []) k d < MOST_FLOORS) →
    put_legs dir pass (if aboard then to ∷ [] else from ∷ to ∷ []) []
    ≡ map (halt_at pass) (if aboard then to ∷ [] else from ∷ to ∷ [])
own_legs dir pass from to true travels apart below = refl
own_legs dir pass from to false travels apart below =
    legs-put dir pass from to travels apart (below 0 from (omega arith)) (below 1 to (omega arith))

-- A call's own halts stand in the list in the order in which its passenger needs them, wherever the
-- car is.
pub stop_list-own : (rows : List Row) (row : Row) (position : Position) → Contains rows row
    → row.from ≢ row.to → ((k : ℕ) (d : ℕ) → k < length (legs_of row)
    → get_or (legs_of row) k d < MOST_FLOORS)
    → filter (is_halt_of position row) (stop_list rows position) ≡ halts_of position row
unfolding stop_list
stop_list-own rows row position member apart below =
    filter-filter (is_needed rows position) (is_halt_of position row) (all_halts position.dir)
    (λ halt _ own. list_any_at (λ (other : Row).
    is_halt_of position other halt) rows member.0 row member.1 (rw member.2 own))
    ∙ sym (put_legs-filter position.dir (pass_of position row) (legs_of row) (λ _. false) below)
    ∙ rw (filter-none (all_halts position.dir))
    (own_legs position.dir (pass_of position row) row.from row.to row.aboard
    (dir_in-pass_of position row) apart below)

pub floors_waiting : (row : Row) → row.aboard ≡ false → row.from < MOST_FLOORS → row.to < MOST_FLOORS → HasFloors row
floors_waiting row waits below_from below_to =
    rw waits (All-cons (λ leg.
    leg < MOST_FLOORS) row.from (row.to ∷ []) below_from
    (All-cons (λ leg. leg < MOST_FLOORS) row.to [] below_to (All-nil (λ leg. leg < MOST_FLOORS))))

pub floors_aboard : (row : Row) → row.aboard ≡ true → row.to < MOST_FLOORS → HasFloors row
floors_aboard row rides below_to =
    rw rides (All-cons (λ leg. leg < MOST_FLOORS) row.to [] below_to (All-nil (λ leg. leg < MOST_FLOORS)))

legs_below : (from to : ℕ) (aboard : Bool) → from < MOST_FLOORS → to < MOST_FLOORS
    → All (λ leg. leg < MOST_FLOORS) (cond aboard (to ∷ []) (from ∷ to ∷ []))
legs_below from to true below_from below_to =
    All-cons (λ leg. leg < MOST_FLOORS) to [] below_to (All-nil (λ leg. leg < MOST_FLOORS))
legs_below from to false below_from below_to =
    All-cons (λ leg. leg < MOST_FLOORS) from (to ∷ []) below_from
    (All-cons (λ leg. leg < MOST_FLOORS) to [] below_to (All-nil (λ leg. leg < MOST_FLOORS)))

pub floors_of : (row : Row) (aboard : Bool) → row.from < MOST_FLOORS → row.to < MOST_FLOORS → HasFloors row
floors_of row aboard below_from below_to = legs_below row.from row.to row.aboard below_from below_to

pub stop_list-none : (position : Position) → stop_list [] position ≡ []
unfolding stop_list
stop_list-none position = filter-none (all_halts position.dir)

-- the halts after a row that waits
pub stop_list-waiting : (rows : List Row) (row : Row) (position : Position) → row.aboard ≡ false
    → row.from < MOST_FLOORS → row.to < MOST_FLOORS →
    put (rank_of position.dir) (halt_at (pass_of position row) row.to)
    (put (rank_of position.dir) (halt_at (pass_of position row) row.from)
    (stop_list rows position)) ≡ stop_list (rows ++ row ∷ []) position
stop_list-waiting rows row position waits below_from below_to =
    let legs : legs_of row ≡ row.from ∷ row.to ∷ [] = rw waits refl in
    ap (λ (l : List ℕ). put_legs position.dir (pass_of position row) l (stop_list rows position))
    (sym legs)
    ∙ stop_list-push rows row position (floors_waiting row waits below_from below_to)

-- the halts after a row whose passenger is aboard
pub stop_list-aboard : (rows : List Row) (row : Row) (position : Position) → row.aboard ≡ true
    → row.to < MOST_FLOORS →
    put (rank_of position.dir) (halt_at (pass_of position row) row.to) (stop_list rows position)
    ≡ stop_list (rows ++ row ∷ []) position
stop_list-aboard rows row position rides below_to =
    let legs : legs_of row ≡ row.to ∷ [] = rw rides refl in
    ap (λ (l : List ℕ). put_legs position.dir (pass_of position row) l (stop_list rows position))
    (sym legs)
    ∙ stop_list-push rows row position (floors_aboard row rides below_to)
