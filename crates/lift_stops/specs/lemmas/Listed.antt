-- What every stop list keeps: its halts differ, stand at legs of its calls, and stay when calls
-- join.
use Rattle.std.proofs.Common.{◌≡◌, ◌≢◌, ℕ, ◌<◌, Bool, true, false, cond, not, ◌||◌, ◌&&◌, ◌==◌}
use Rattle.std.proofs.Common.{List, [], ◌∷◌, refl, sym, ap, subst, ◌∙◌, inl, inr, ◌⊎◌}
use Rattle.std.proofs.Common.{filter, get_or, Contains, zero-add}
use Rattle.std.specs.List.{list_any, list_all, AllByRecursion, range_with_len}
use Rattle.std.proofs.lemmas.Bool.{cases_Bool, and_parts, eqb-true, eq-eqb}
use Rattle.std.proofs.lemmas.List.Folds.{list_any_at, list_all_at}
use Rattle.std.proofs.lemmas.List.FromFn.{get_or-range_with_len}
use Rattle.lift_base.specs.declared.limits.TheConstants.{MOST_FLOORS}
use Rattle.lift_base.specs.declared.travel.Dir.{Dir}
use Rattle.lift_base.specs.declared.travel.Dir.TheVariants.{Up, Down}
use Rattle.lift_base.specs.declared.travel.Pass.{Pass}
use Rattle.lift_base.specs.declared.travel.Pass.TheVariants.{First, Second, Third}
use Rattle.lift_base.specs.declared.travel.Halt.{Halt}
use Rattle.lift_base.specs.declared.travel.Position.{Position}
use Rattle.lift_base.specs.declared.history.Row.{Row}
use Rattle.lift_stops.specs.StopList.{pass_of, same_pass, same_halt, halt_at, legs_of, is_halt_of}
use Rattle.lift_stops.specs.StopList.{is_needed, all_halts, stop_list, StopsInOrder}
use Rattle.lift_stops.specs.Parts.{has_halt, AllDiffer}
use Rattle.lift_stops.specs.lemmas.Halts.{stop_list-own, floors_of}

-- ---- one halt stands where it stands

passes_equal : (a b : Pass) → same_pass a b ≡ true → a ≡ b
passes_equal First First e = refl
passes_equal First Second e = absurd cc
passes_equal First Third e = absurd cc
passes_equal Second First e = absurd cc
passes_equal Second Second e = refl
passes_equal Second Third e = absurd cc
passes_equal Third First e = absurd cc
passes_equal Third Second e = absurd cc
passes_equal Third Third e = refl

abbrev halt_of : Pass × ℕ → Halt
halt_of p = record { pass = p.0; floor = p.1 }

pub halts_equal : (a b : Halt) → same_halt a b ≡ true → a ≡ b
halts_equal a b e =
    let (passes, floors) = and_parts (same_pass a.pass b.pass) (a.floor == b.floor) e in
    let pass-is = passes_equal a.pass b.pass passes in
    let floor-is = eqb-true a.floor b.floor floors in
    ap (λ p. halt_of (p, a.floor)) pass-is ∙ ap (λ f. halt_of (b.pass, f)) floor-is

-- ---- a list of halts that differ, as a test

abbrev all_differ : List Halt → Bool
all_differ [] = true
all_differ (g ∷ gs) = not (has_halt g gs) && all_differ gs

not_true : (b : Bool) → not b ≡ true → b ≡ false
not_true true e = absurd cc
not_true false e = refl

differ_from_test : (gs : List Halt) → all_differ gs ≡ true → AllDiffer gs
differ_from_test [] e = tt
differ_from_test (g ∷ gs) e =
    let (here, later) = and_parts (not (has_halt g gs)) (all_differ gs) e in (
      λ h same. ap (λ k. has_halt k gs) (sym (halts_equal g h same)) ∙ not_true
          (has_halt g gs) here,
      differ_from_test gs later,
    )

pub halts_differ : (dir : Dir) → AllDiffer (all_halts dir)
halts_differ Up = differ_from_test (all_halts Up) refl
halts_differ Down = differ_from_test (all_halts Down) refl

-- ---- a filter

or_none : (a b : Bool) → (a || b) ≡ false → (a ≡ false) × (b ≡ false)
or_none true b e = absurd cc
or_none false b e = (refl, e)

none_kept_at : (keep : Bool) (g h : Halt) (rest gs : List Halt)
    → (same_halt g h || has_halt h gs) ≡ false → (has_halt h gs ≡ false → has_halt h rest ≡ false)
    → has_halt h (cond keep (g ∷ rest) rest) ≡ false
none_kept_at true g h rest gs e later = let (here, there) =
    or_none (same_halt g h) (has_halt h gs) e in rw (here, later there)
none_kept_at false g h rest gs e later = let (here, there) =
    or_none (same_halt g h) (has_halt h gs) e in later there

none_kept : (p : Halt → Bool) (h : Halt) (gs : List Halt) → has_halt h gs ≡ false
    → has_halt h (filter p gs) ≡ false
none_kept p h [] e = refl
none_kept p h (g ∷ gs) e = none_kept_at (p g) g h (filter p gs) gs e (none_kept p h gs)

differ_at : (keep : Bool) (g : Halt) (rest : List Halt)
    → ((h : Halt) → same_halt g h ≡ true → has_halt h rest ≡ false) → AllDiffer rest
    → AllDiffer (cond keep (g ∷ rest) rest)
differ_at true g rest here later = (here, later)
differ_at false g rest here later = later

pub differ_kept : (p : Halt → Bool) (gs : List Halt) → AllDiffer gs → AllDiffer (filter p gs)
differ_kept p [] differ = tt
differ_kept p (g ∷ gs) differ =
    differ_at (p g) g (filter p gs) (λ h same.
    none_kept p h gs (differ.0 h same)) (differ_kept p gs differ.1)

at_at : (At : ℕ → Type 0) (keep : Bool) (g : Halt) (rest : List Halt) → (keep ≡ true → At g.floor)
    → AllByRecursion (λ (h : Halt). At h.floor) rest
    → AllByRecursion (λ (h : Halt). At h.floor) (cond keep (g ∷ rest) rest)
at_at At true g rest here later = (here refl, later)
at_at At false g rest here later = later

at_kept : (At : ℕ → Type 0) (p : Halt → Bool) → ((h : Halt) → p h ≡ true → At h.floor)
    → (gs : List Halt) → AllByRecursion (λ (h : Halt). At h.floor) (filter p gs)
at_kept At p inside [] = tt
at_kept At p inside (g ∷ gs) = at_at At (p g) g (filter p gs) (inside g) (at_kept At p inside gs)

or_one : (a b : Bool) → (a || b) ≡ true → (a ≡ true) ⊎ (b ≡ true)
or_one true b e = inl refl
or_one false b e = inr e

or_second : (a b : Bool) → b ≡ true → (a || b) ≡ true
or_second true b e = refl
or_second false b e = e

has_at : (keep : Bool) (g h : Halt) (rest : List Halt) → (keep ≡ true → same_halt g h ≡ true)
    → keep ≡ true → has_halt h (cond keep (g ∷ rest) rest) ≡ true
has_at true g h rest same kept = rw (same kept)
has_at false g h rest same kept = absurd cc

has_still : (keep : Bool) (g h : Halt) (rest : List Halt) → has_halt h rest ≡ true
    → has_halt h (cond keep (g ∷ rest) rest) ≡ true
has_still true g h rest has = or_second (same_halt g h) (has_halt h rest) has
has_still false g h rest has = has

has_kept : (p : Halt → Bool) (h : Halt) → p h ≡ true → (gs : List Halt) → has_halt h gs ≡ true
    → has_halt h (filter p gs) ≡ true
has_kept p h passes [] has = absurd cc
has_kept p h passes (g ∷ gs) has =
    elim (or_one (same_halt g h) (has_halt h gs) has) [
      | inl here ↦ has_at (p g) g h (filter p gs) (λ _. here) (ap p (halts_equal g h here) ∙ passes)
      | inr later ↦ has_still (p g) g h (filter p gs) (has_kept p h passes gs later)
    ]

-- ---- stop lists

-- no halt stands twice in a stop list
pub stops_differ : (rows : List Row) (position : Position) → AllDiffer (stop_list rows position)
unfolding stop_list
stops_differ rows position =
    differ_kept (is_needed rows position) (all_halts position.dir) (halts_differ position.dir)

any_leg : (At : ℕ → Type 0) (floor : ℕ) (legs : List ℕ) → list_any (λ leg. leg == floor) legs ≡ true
    → AllByRecursion At legs → At floor
any_leg At floor [] e inside = absurd cc
any_leg At floor (leg ∷ legs) e inside =
    elim (or_one (leg == floor) (list_any (λ leg. leg == floor) legs) e) [
      | inl here ↦ subst At (eqb-true leg floor here) inside.0
      | inr later ↦ any_leg At floor legs later inside.1
    ]

any_row : (At : ℕ → Type 0) (position : Position) (h : Halt) (rows : List Row)
    → is_needed rows position h ≡ true
    → AllByRecursion (λ (row : Row). AllByRecursion At (legs_of row)) rows → At h.floor
any_row At position h [] e inside = absurd cc
any_row At position h (row ∷ rows) e inside =
    elim (or_one (is_halt_of position row h) (is_needed rows position h) e) [
      | inl here ↦ any_leg At h.floor (legs_of row)
          (and_parts (same_pass (pass_of position row) h.pass)
          (list_any (λ leg. leg == h.floor) (legs_of row)) here).1 inside.0
      | inr later ↦ any_row At position h rows later inside.1
    ]

-- what holds of all legs of some calls holds of each floor in their stop list
pub stops_at_legs : (At : ℕ → Type 0) (rows : List Row) (position : Position)
    → AllByRecursion (λ (row : Row). AllByRecursion At (legs_of row)) rows
    → AllByRecursion (λ (h : Halt). At h.floor) (stop_list rows position)
unfolding stop_list
stops_at_legs At rows position inside =
    at_kept At (is_needed rows position) (λ h e.
    any_row At position h rows e inside) (all_halts position.dir)

-- ---- the halt at which a call's passengers leave

abbrev all_in : Dir → Pass → Bool
all_in dir pass = list_all (λ floor.
    has_halt (halt_of (pass, floor)) (all_halts dir)) (range_with_len 0 MOST_FLOORS)

every_halt : (dir : Dir) (pass : Pass) → all_in dir pass ≡ true
every_halt Up First = refl
every_halt Up Second = refl
every_halt Up Third = refl
every_halt Down First = refl
every_halt Down Second = refl
every_halt Down Third = refl

pub each_halt : (dir : Dir) (h : Halt) → h.floor < MOST_FLOORS → has_halt h (all_halts dir) ≡ true
each_halt dir h inside =
    let found : ℕ → Bool = λ floor. has_halt (halt_of (h.pass, floor)) (all_halts dir) in
    elim (cases_Bool (has_halt h (all_halts dir))) [
      | inl has ↦ has
      | inr missing ↦ absurd (
          let place : get_or (range_with_len 0 MOST_FLOORS) h.floor 0 ≡ h.floor =
          get_or-range_with_len 0 MOST_FLOORS h.floor 0 inside ∙ zero-add h.floor in
          let gap : found (get_or (range_with_len 0 MOST_FLOORS) h.floor 0) ≡ false =
          ap found place ∙ missing in
          let some_gap : all_in dir h.pass ≡ false =
          list_all_at found (range_with_len 0 MOST_FLOORS) h.floor 0 inside gap in
          let none : all_in dir h.pass ≡ true = every_halt dir h.pass in
          cc)
    ]

pass_itself : (pass : Pass) → same_pass pass pass ≡ true
pass_itself First = refl
pass_itself Second = refl
pass_itself Third = refl

floor_itself : (floor : ℕ) → (floor == floor) ≡ true
floor_itself floor = eq-eqb floor floor refl

pub same_itself : (h : Halt) → same_halt h h ≡ true
same_itself h = rw (pass_itself h.pass, floor_itself h.floor) refl

-- a call's goal is one of its legs
to_is_leg : (from to : ℕ) (aboard : Bool)
    → list_any (λ leg. leg == to) (cond aboard (to ∷ []) (from ∷ to ∷ [])) ≡ true
to_is_leg from to true = rw (floor_itself to) refl
to_is_leg from to false =
    or_second (from == to) (list_any (λ leg. leg == to) (to ∷ [])) (rw (floor_itself to) refl)

-- the halt at which the passengers of an open call leave is in its car's stop list
pub stops_have : (rows : List Row) (row : Row) (position : Position) → Contains rows row
    → row.to < MOST_FLOORS → has_halt (halt_at position row row.to) (stop_list rows position) ≡ true
unfolding stop_list
stops_have rows row position among inside =
    let leg : is_halt_of position row (halt_at position row row.to) ≡ true =
    rw (pass_itself (pass_of position row)) (to_is_leg row.from row.to row.aboard) in
    let this : is_halt_of position (get_or rows among.0 row) (halt_at position row row.to) ≡ true =
    ap (λ (r : Row). is_halt_of position r (halt_at position row row.to)) among.2 ∙ leg in
    has_kept (is_needed rows position) (halt_at position row row.to) (list_any_at (λ (r : Row).
    is_halt_of position r (halt_at position row row.to)) rows among.0 row among.1 this)
    (all_halts position.dir) (each_halt position.dir (halt_at position row row.to) inside)

-- ---- the order of a call's stops

-- Wherever the car is, the halts of an open call stand in its list in the order in which its
-- passengers need them.
pub stops_in_order : (rows : List Row) (row : Row) → Contains rows row → row.from ≢ row.to
    → row.from < MOST_FLOORS → row.to < MOST_FLOORS → StopsInOrder rows row
stops_in_order rows row among apart below_from below_to =
    λ position. stop_list-own rows row position among apart
    (floors_of row row.aboard below_from below_to)
