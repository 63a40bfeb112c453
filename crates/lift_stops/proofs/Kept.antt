-- A car that goes on, and leaves no halt of its first pass behind.
use Rattle.std.proofs.Common.{◌≡◌, ◌≢◌, ℕ, ◌+◌, ◌<◌, ◌≤◌, ◌==◌, Bool, true, false, cond, Some, List, [], ◌∷◌, All, filter, length, get_or, slice_get, refl, sym, ap, ◌∙◌, arith, inl, inr, suc}
use Rattle.std.specs.List.{list_any}
use Rattle.std.proofs.lemmas.Bool.{eq-eqb, leb-true, le-leb, cases_Bool}
use Rattle.std.proofs.lemmas.List.Folds.{list_any_at}
use Rattle.std.proofs.lemmas.List.Sums.{sum_by-cons}
use Rattle.lift_base.specs.Travel.{same_dir}
use Rattle.lift_base.specs.History.{dir_of}
use Rattle.lift_base.specs.declared.limits.TheConstants.{MOST_FLOORS, TOP_FLOOR}
use Rattle.lift_base.specs.declared.travel.Dir.{Dir}
use Rattle.lift_base.specs.declared.travel.Dir.TheVariants.{Up, Down}
use Rattle.lift_base.specs.declared.travel.Pass.{Pass}
use Rattle.lift_base.specs.declared.travel.Pass.TheVariants.{First, Second, Third}
use Rattle.lift_base.specs.declared.travel.Position.{Position}
use Rattle.lift_base.specs.declared.travel.Halt.{Halt}
use Rattle.lift_base.specs.declared.history.Row.{Row}
use Rattle.lift_stops.specs.Insertion.{floor_rank, rank_of}
use Rattle.lift_stops.specs.StopList.{HasFloors, first_leg, is_ahead, pass_of, same_pass, is_halt_of, is_needed, all_halts, stop_list}
use Rattle.lift_stops.specs.Schedule.{PassesStay}
use Rattle.lift_stops.specs.Leaving.{AreLeaving, leaving_at, leaving_of}
use Rattle.lift_stops.specs.lemmas.Insertion.{Rises, Rises-filter, IsIn, rank_of_member, filter-agree}
use Rattle.lift_stops.specs.lemmas.Halts.{halt_at, all_halts-all, all_halts-rise}

-- ---- the first halt is the least

IsIn-filter : {X : Type 0} (p : X → Bool) (x : X) (xs : List X) → IsIn x xs → p x ≡ true → IsIn x (filter p xs)
IsIn-filter p x [] member passes = absurd member
IsIn-filter p x (y ∷ ys) (inl same) passes = rw (ap p (sym same) ∙ passes) (inl same)
IsIn-filter p x (y ∷ ys) (inr later) passes =
    elim (p y) as (λ b. IsIn x (cond b (y ∷ filter p ys) (filter p ys))) [
      | true ↦ inr (IsIn-filter p x ys later passes)
      | false ↦ IsIn-filter p x ys later passes
    ]

stops-rise : (rows : List Row) (position : Position) → Rises (rank_of position.dir) 0 (stop_list rows position)
unfolding stop_list
stops-rise rows position = Rises-filter (rank_of position.dir) 0 (is_needed rows position) (all_halts position.dir) (all_halts-rise position.dir)

same_pass-self : (pass : Pass) → same_pass pass pass ≡ true
same_pass-self First = refl
same_pass-self Second = refl
same_pass-self Third = refl

-- where a call's next leg is made
abbrev own_halt : Position → Row → Halt
own_halt position row = halt_at (pass_of position row) (first_leg row)

own_needed : (position : Position) (row : Row) → is_halt_of position row (own_halt position row) ≡ true
own_needed position row = rw (same_pass-self (pass_of position row)) (either row.aboard row.from row.to)
  where
    either : (aboard : Bool) (from to : ℕ) → list_any (λ leg. leg == cond aboard to from) (cond aboard (to ∷ []) (from ∷ to ∷ [])) ≡ true
    either true from to = rw (eq-eqb to to refl) refl
    either false from to = rw (eq-eqb from from refl) refl

own_low : (row : Row) → HasFloors row → first_leg row < MOST_FLOORS
own_low row floors = either row.aboard row.from row.to floors
  where
    either : (aboard : Bool) (from to : ℕ) → All (λ leg. leg < MOST_FLOORS) (cond aboard (to ∷ []) (from ∷ to ∷ [])) → cond aboard to from < MOST_FLOORS
    either true from to low = low 0 0 (omega arith)
    either false from to low = low 0 0 (omega arith)

own_listed : (rows : List Row) (position : Position) (k : ℕ) (blank : Row) → k < length rows → HasFloors (get_or rows k blank) → IsIn (own_halt position (get_or rows k blank)) (stop_list rows position)
unfolding stop_list
own_listed rows position k blank within floors =
    let row : Row = get_or rows k blank in
    let own : Halt = own_halt position row in
    IsIn-filter (is_needed rows position) own (all_halts position.dir) (all_halts-all position.dir (pass_of position row) (first_leg row) (own_low row floors))
    (list_any_at (λ (other : Row). is_halt_of position other own) rows k blank within (own_needed position row))

low_rank : (dir : Dir) (leg : ℕ) → leg < MOST_FLOORS → floor_rank dir leg ≤ TOP_FLOOR
low_rank Up leg low = omega (arith, low)
low_rank Down leg low = omega arith

-- a floor behind one ahead, as travelled, is ahead too
ahead_after : (dir : Dir) (leg floor other : ℕ) → leg < MOST_FLOORS → floor_rank dir floor ≤ floor_rank dir leg → is_ahead dir floor other ≡ true → is_ahead dir leg other ≡ true
ahead_after Up leg floor other low le ahead = le-leb other leg (omega (arith, le, leb-true other floor ahead))
ahead_after Down leg floor other low le ahead = le-leb leg other (omega (arith, le, low, leb-true floor other ahead))

-- no leg of the first pass is behind a floor that its first halt isn't behind
first_ahead : (dir : Dir) (low : ℕ) (halts : List Halt) (leg floor : ℕ) → Rises (rank_of dir) low halts → IsIn (halt_at First leg) halts → leg < MOST_FLOORS
    → ((h : Halt) → slice_get halts 0 ≡ Some h → h.pass ≡ First → is_ahead dir h.floor floor ≡ true) → is_ahead dir leg floor ≡ true
first_ahead dir low [] leg floor rises member below first = absurd member
first_ahead dir low (h ∷ hs) leg floor rises member below first = of h.pass refl
  where
    least : rank_of dir h ≤ rank_of dir (halt_at First leg)
    least = elim member [
      | inl same ↦ (let ranks = ap (rank_of dir) same in omega (arith, ranks))
      | inr later ↦ omega (arith, rank_of_member (rank_of dir) (rank_of dir h + 1) (halt_at First leg) hs rises.1 later)
    ]

    of : (pass : Pass) → h.pass ≡ pass → is_ahead dir leg floor ≡ true
    of First is = (let least-is = rw is at least in ahead_after dir leg h.floor floor below (omega (arith, least-is)) (first h refl is))
    of Second is = (let least-is = rw is at least in absurd (omega (arith, least-is, low_rank dir leg below)))
    of Third is = (let least-is = rw is at least in absurd (omega (arith, least-is, low_rank dir leg below)))

-- a floor behind another one is behind each that is ahead of that
still_after : (dir : Dir) (leg floor next : ℕ) → is_ahead dir next floor ≡ true → is_ahead dir leg floor ≡ false → is_ahead dir leg next ≡ false
still_after dir leg floor next on behind = elim (cases_Bool (is_ahead dir leg next)) [
  | inl ahead ↦ absurd (differ (sym (reaches dir leg floor next on ahead) ∙ behind))
  | inr after_next ↦ after_next
]
  where
    differ : true ≢ false
    differ e = absurd cc

    reaches : (d : Dir) (leg floor next : ℕ) → is_ahead d next floor ≡ true → is_ahead d leg next ≡ true → is_ahead d leg floor ≡ true
    reaches Up leg floor next on ahead = le-leb floor leg (omega (arith, leb-true floor next on, leb-true next leg ahead))
    reaches Down leg floor next on ahead = le-leb leg floor (omega (arith, leb-true next floor on, leb-true leg next ahead))

-- a call's pass depends on where its next leg is
kept_at : (dir : Dir) (same ahead other : Bool) → (same ≡ true → ahead ≡ true → other ≡ true) → (ahead ≡ false → other ≡ false)
    → cond same (cond other First Third) Second ≡ cond same (cond ahead First Third) Second
kept_at dir true true other on behind = rw (on refl refl) refl
kept_at dir true false other on behind = rw (behind refl) refl
kept_at dir false ahead other on behind = refl

pub keeps : (rows : List Row) (position next : Position) (halts : List Halt) → next.dir ≡ position.dir → is_ahead position.dir next.floor position.floor ≡ true
    → halts ≡ stop_list rows position → All HasFloors rows
    → ((h : Halt) → slice_get halts 0 ≡ Some h → h.pass ≡ First → is_ahead position.dir h.floor next.floor ≡ true) → PassesStay rows position next
keeps rows position next halts dir-is on listed floors first = record {
  dir = dir-is;
  passes = λ k blank within.
      let row : Row = get_or rows k blank in
      let leg : ℕ = first_leg row in
      let dir : Dir = position.dir in
      let same : Bool = same_dir (dir_of row.from row.to) dir in
      let ahead : Bool = is_ahead dir leg position.floor in
      let own : IsIn (own_halt position row) halts = rw listed (own_listed rows position k blank within (floors k blank within)) in
      let goes_on : same ≡ true → ahead ≡ true → is_ahead dir leg next.floor ≡ true =
      λ is_same is_on.
      let pass-is : pass_of position row ≡ First = rw (is_same, is_on) refl in
      first_ahead dir 0 halts leg next.floor (rw listed (stops-rise rows position)) (rw pass-is at own) (own_low row (floors k blank within)) first in
      rw dir-is (kept_at dir same ahead (is_ahead dir leg next.floor) goes_on (still_after dir leg position.floor next.floor on));
}

-- ---- what depends on passes alone

same_needs : (rows : List Row) (position next : Position) (halt : Halt) → All (λ row. pass_of next row ≡ pass_of position row) rows → is_needed rows next halt ≡ is_needed rows position halt
same_needs [] position next halt passes = refl
same_needs (row ∷ rows) position next halt passes =
    let here : pass_of next row ≡ pass_of position row = passes 0 row (omega arith) in
    let later = same_needs rows position next halt (λ k blank within. passes (suc k) blank (omega (arith, within))) in
    rw (here, later) refl

pub same_stops : (rows : List Row) (position next : Position) → PassesStay rows position next → stop_list rows next ≡ stop_list rows position
unfolding stop_list
same_stops rows position next keeps =
    filter-agree (is_needed rows next) (is_needed rows position) (all_halts next.dir) (λ halt member. same_needs rows position next halt keeps.passes)
    ∙ ap (λ (dir : Dir). filter (is_needed rows position) (all_halts dir)) keeps.dir

same_leaving : (rows : List Row) (position next : Position) (halt : Halt) → All (λ row. pass_of next row ≡ pass_of position row) rows → leaving_at rows next halt ≡ leaving_at rows position halt
same_leaving [] position next halt passes = refl
same_leaving (row ∷ rows) position next halt passes =
    let here : pass_of next row ≡ pass_of position row = passes 0 row (omega arith) in
    let later = same_leaving rows position next halt (λ k blank within. passes (suc k) blank (omega (arith, within))) in
    let own : leaving_of next halt row ≡ leaving_of position halt row = rw here refl in
    omega (arith, own, later, sum_by-cons (leaving_of next halt) row rows, sum_by-cons (leaving_of position halt) row rows)

pub same_table : (rows : List Row) (position next : Position) (table : List ℕ) → PassesStay rows position next → AreLeaving rows position table → AreLeaving rows next table
same_table rows position next table keeps leaving = record {
  size = leaving.size;
  at_each = λ halt low. leaving.at_each halt low ∙ sym (same_leaving rows position next halt keeps.passes);
  limit = λ halt. omega (arith, leaving.limit halt, same_leaving rows position next halt keeps.passes);
}
