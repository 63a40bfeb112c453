-- Where the halts of a call that waits are put into a stop list.
use Rattle.std.proofs.Common.{◌≡◌, ◌≢◌, ℕ, ◌+◌, ◌<◌, ◌≤◌, Bool, false, List, [], ◌∷◌, ◌++◌, refl, sym, ap, subst, ◌∙◌, arith, inl}
use Rattle.std.specs.List.{AllByRecursion}
use Rattle.std.proofs.lemmas.Bool.{eq-eqb, lt-ltb, le-ltb}
use Rattle.lift_base.specs.declared.limits.TheConstants.{MOST_FLOORS}
use Rattle.lift_base.specs.declared.travel.Halt.{Halt}
use Rattle.lift_base.specs.declared.travel.Position.{Position}
use Rattle.lift_base.specs.declared.history.Row.{Row}
use Rattle.lift_stops.specs.StopList.{dir_in, pass_of, halt_at, is_needed, all_halts, stop_list}
use Rattle.lift_stops.specs.Insertion.{put, floor_rank, rank_of, IsSplit}
use Rattle.lift_stops.specs.lemmas.Halts.{all_halts-rise, put-halt, dir_in-pass_of, floor_rank-travel, stop_list-waiting}
use Rattle.lift_stops.specs.lemmas.Insertion.{Rises, Rises-filter, IsIn-right, rank_of_member}

-- ---- an element after those of lower ranks

abbrev pub AreLower : {X : Type 0} → (X → ℕ) → X → List X → Type 0
AreLower rank x xs = AllByRecursion (λ y. rank y < rank x) xs

pub put-behind : {X : Type 0} (rank : X → ℕ) (x : X) (xs ys : List X) → AreLower rank x xs → put rank x (xs ++ ys) ≡ xs ++ put rank x ys
put-behind rank x [] ys lower = refl
put-behind rank x (z ∷ xs) ys lower = rw (lt-ltb (rank z) (rank x) lower.0, put-behind rank x xs ys lower.1) refl

pub put-again : {X : Type 0} (rank : X → ℕ) (x : X) (ys : List X) → put rank x (x ∷ ys) ≡ x ∷ ys
put-again rank x ys = rw (le-ltb (rank x) (rank x) (omega arith), eq-eqb (rank x) (rank x) refl) refl

-- what stands before an element of a list of rising ranks
pub lower_before : {X : Type 0} (rank : X → ℕ) (low : ℕ) (x : X) (before behind : List X) → Rises rank low (before ++ x ∷ behind) → AreLower rank x before
lower_before rank low x [] behind rises = tt
lower_before rank low x (y ∷ ys) behind rises =
    let above : rank y + 1 ≤ rank x = rank_of_member rank (rank y + 1) x (ys ++ x ∷ behind) rises.1 (IsIn-right x ys (x ∷ behind) (inl refl)) in
    (omega (arith, above), lower_before rank (rank y + 1) x ys behind rises.1)

-- what is lower than an element is lower than a higher one
pub lower_still : {X : Type 0} (rank : X → ℕ) (x y : X) (xs : List X) → rank x < rank y → AreLower rank x xs → AreLower rank y xs
lower_still rank x y [] higher lower = tt
lower_still rank x y (z ∷ xs) higher lower = (let first = lower.0 in omega (arith, first, higher), lower_still rank x y xs higher lower.1)

-- ---- stop lists

pub with_halt-rises : (rows : List Row) (position : Position) (x : Halt) → x.floor < MOST_FLOORS → Rises (rank_of position.dir) 0 (put (rank_of position.dir) x (stop_list rows position))
unfolding stop_list
with_halt-rises rows position x low =
    subst (λ (halts : List Halt). Rises (rank_of position.dir) 0 halts) (sym (put-halt position.dir (is_needed rows position) x low))
    (Rises-filter (rank_of position.dir) 0 _ (all_halts position.dir) (all_halts-rise position.dir))

-- the halts before the place of one are made before it
pub made_before : (rows : List Row) (position : Position) (x : Halt) (before behind : List Halt) → x.floor < MOST_FLOORS → put (rank_of position.dir) x (stop_list rows position) ≡ before ++ x ∷ behind → AreLower (rank_of position.dir) x before
made_before rows position x before behind low with-it =
    lower_before (rank_of position.dir) 0 x before behind (subst (λ (halts : List Halt). Rises (rank_of position.dir) 0 halts) with-it (with_halt-rises rows position x low))

-- a car is where a call's passengers board before it is where they leave
pub boards_before : (position : Position) (row : Row) → row.from ≢ row.to → row.from < MOST_FLOORS → row.to < MOST_FLOORS → rank_of position.dir (halt_at position row row.from) < rank_of position.dir (halt_at position row row.to)
boards_before position row apart from-low to-low =
    let travels = dir_in-pass_of position row in
    let ahead : floor_rank (dir_in position.dir (pass_of position row)) row.from < floor_rank (dir_in position.dir (pass_of position row)) row.to = rw travels (floor_rank-travel row.from row.to apart from-low to-low) in
    omega (arith, ahead)

-- The stop list with a call that waits is the one without it, with where its passengers board at its place and then where they leave at its own, after that.
pub stops_with_waiting : (rows : List Row) (row : Row) (position : Position) (halts before rest middle behind : List Halt) (boards leaves : Halt) (boards_there leaves_there : Bool) → row.aboard ≡ false → row.from ≢ row.to → row.from < MOST_FLOORS → row.to < MOST_FLOORS
    → halts ≡ stop_list rows position → boards ≡ halt_at position row row.from → leaves ≡ halt_at position row row.to
    → IsSplit (rank_of position.dir) boards halts before boards_there rest → IsSplit (rank_of position.dir) leaves rest middle leaves_there behind
    → stop_list (rows ++ row ∷ []) position ≡ before ++ boards ∷ (middle ++ leaves ∷ behind)
stops_with_waiting rows row position halts before rest middle behind boards leaves boards_there leaves_there waits apart from-low to-low halts-are boards-is leaves-is first second =
    let rank : Halt → ℕ = rank_of position.dir in
    let a : Halt = halt_at position row row.from in
    let b : Halt = halt_at position row row.to in
    let higher : rank a < rank b = boards_before position row apart from-low to-low in
    let with-a : put rank a (stop_list rows position) ≡ before ++ a ∷ rest = rw (halts-are, boards-is) at first.with_it in
    let with-b : put rank b rest ≡ middle ++ b ∷ behind = rw leaves-is at second.with_it in
    let lower : AreLower rank a before = made_before rows position a before rest from-low with-a in
    let behind-all : put rank b (before ++ a ∷ rest) ≡ before ++ put rank b (a ∷ rest) = put-behind rank b before (a ∷ rest) (lower_still rank a b before higher lower) in
    let behind-a : put rank b (a ∷ rest) ≡ a ∷ put rank b rest = put-behind rank b (a ∷ []) rest (higher, tt) in
    let put-both : put rank b (put rank a (stop_list rows position)) ≡ before ++ a ∷ (middle ++ b ∷ behind) =
    ap (put rank b) with-a ∙ behind-all ∙ ap (λ (hs : List Halt). before ++ hs) (behind-a ∙ ap (λ (hs : List Halt). a ∷ hs) with-b) in
    rw (boards-is, leaves-is) (sym (stop_list-waiting rows row position waits from-low to-low) ∙ put-both)

-- the same where they would board and leave at one halt
pub stops_with_staying : (rows : List Row) (row : Row) (position : Position) (halts before behind : List Halt) (leaves : Halt) (leaves_there : Bool) → row.aboard ≡ false → row.from ≡ row.to → row.from < MOST_FLOORS → row.to < MOST_FLOORS
    → halts ≡ stop_list rows position → leaves ≡ halt_at position row row.to → IsSplit (rank_of position.dir) leaves halts before leaves_there behind
    → stop_list (rows ++ row ∷ []) position ≡ before ++ leaves ∷ behind
stops_with_staying rows row position halts before behind leaves leaves_there waits same from-low to-low halts-are leaves-is split =
    let rank : Halt → ℕ = rank_of position.dir in
    let b : Halt = halt_at position row row.to in
    let with-b : put rank b (stop_list rows position) ≡ before ++ b ∷ behind = rw (halts-are, leaves-is) at split.with_it in
    let lower : AreLower rank b before = made_before rows position b before behind to-low with-b in
    let one : halt_at position row row.from ≡ b = ap (λ floor. halt_at position row floor) same in
    let put-both : put rank b (put rank (halt_at position row row.from) (stop_list rows position)) ≡ before ++ b ∷ behind =
    ap (λ (h : Halt). put rank b (put rank h (stop_list rows position))) one ∙ ap (put rank b) with-b ∙ put-behind rank b before (b ∷ behind) lower ∙ ap (λ (hs : List Halt). before ++ hs) (put-again rank b behind) in
    rw leaves-is (sym (stop_list-waiting rows row position waits from-low to-low) ∙ put-both)
