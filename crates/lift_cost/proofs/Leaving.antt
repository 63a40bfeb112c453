-- The times of a car's passengers are told by how many leave at each halt.
use Rattle.std.proofs.Common.{◌≡◌, ℕ, ◌+◌, ◌*◌, ◌<◌, ◌==◌, ◌&&◌, ◌||◌, Bool, true, false, cond, if◌then◌else◌, List, [], ◌∷◌, ◌++◌, filter, get_or, refl, sym, ap, ◌∙◌, arith, inl, inr, sum_by}
use Rattle.std.specs.List.{AllByRecursion}
use Rattle.std.proofs.Math.Nat.{add-mul}
use Rattle.std.proofs.lemmas.Bool.{cases_Bool}
use Rattle.std.proofs.lemmas.List.Elements.{All-contains_itself, recursion_from_All}
use Rattle.std.proofs.lemmas.List.Sums.{sum_by-cons}
use Rattle.lift_base.specs.declared.limits.TheConstants.{MOST_FLOORS}
use Rattle.lift_base.specs.declared.travel.Halt.{Halt}
use Rattle.lift_base.specs.declared.travel.Pass.{Pass}
use Rattle.lift_base.specs.declared.travel.Pass.TheVariants.{First, Second, Third}
use Rattle.lift_base.specs.declared.travel.Position.{Position}
use Rattle.lift_base.specs.declared.history.Row.{Row}
use Rattle.lift_building.specs.Plan.{Plan, flight_ms, IsBuilding}
use Rattle.lift_building.specs.Arrivals.{arrivals_from}
use Rattle.lift_stops.specs.StopList.{same_pass, same_halt, halt_at, is_needed, all_halts, stop_list}
use Rattle.lift_stops.specs.Parts.{has_halt, AllDiffer}
use Rattle.lift_stops.specs.Leaving.{leaving_of, leaving_at, AreLeaving}
use Rattle.lift_stops.specs.lemmas.Halts.{same_tests, all_halts-below}
use Rattle.lift_stops.specs.lemmas.Insertion.{IsIn}
use Rattle.lift_stops.specs.lemmas.Listed.{halts_equal, stops_differ, stops_have}
use Rattle.lift_cost.specs.Calls.{AreWithin}
use Rattle.lift_cost.specs.Cost.{moment_at, arrival_at, etd, total_etd}
use Rattle.lift_cost.specs.Delays.{persons_in}
use Rattle.lift_cost.specs.Ways.{weighted}
use Rattle.lift_cost.proofs.Earlier.{neither}
use Rattle.lift_cost.proofs.Weighted.{Agree, weighted-agree, agree_below}

-- ---- one call

passes_turned : (p q : Pass) → same_pass p q ≡ same_pass q p
passes_turned First First = refl
passes_turned First Second = refl
passes_turned First Third = refl
passes_turned Second First = refl
passes_turned Second Second = refl
passes_turned Second Third = refl
passes_turned Third First = refl
passes_turned Third Second = refl
passes_turned Third Third = refl

pub halts_turned : (g h : Halt) → same_halt g h ≡ same_halt h g
halts_turned g h =
    let passes = passes_turned g.pass h.pass in
    let floors : (g.floor == h.floor) ≡ (h.floor == g.floor) = same_tests g.floor h.floor h.floor g.floor (λ e. sym e) (λ e. sym e) in
    ap (λ b. b && (g.floor == h.floor)) passes ∙ ap (λ b. same_pass h.pass g.pass && b) floors

-- this many at one halt, and nobody elsewhere
abbrev at_one : Halt → ℕ → Halt → ℕ
at_one goal party h = if same_halt goal h then party else 0

nobody_else : (goal : Halt) (party : ℕ) (hs : List Halt) → has_halt goal hs ≡ false → Agree (at_one goal party) (λ _. 0) hs
nobody_else goal party [] missing = tt
nobody_else goal party (h ∷ hs) missing =
    let parts = neither (same_halt h goal) (has_halt goal hs) missing in
    let other : same_halt goal h ≡ false = halts_turned goal h ∙ parts.0 in
    (ap (λ b. cond b party 0) other, nobody_else goal party hs parts.1)

pub weighted-nobody : (plan : Plan) (floor leaves : ℕ) (hs : List Halt) → weighted plan (λ _. 0) floor leaves hs ≡ 0
weighted-nobody plan floor leaves [] = refl
weighted-nobody plan floor leaves (h ∷ hs) = omega (arith, weighted-nobody plan h.floor (leaves + flight_ms plan floor h.floor + plan.door_ms) hs)

-- the time at one halt, once for each person
one_leaves : (plan : Plan) (goal : Halt) (party floor leaves : ℕ) (hs : List Halt) → AllDiffer hs
    → weighted plan (at_one goal party) floor leaves hs ≡ party * moment_at goal hs (arrivals_from plan floor leaves hs)
one_leaves plan goal party floor leaves [] differ = omega arith
one_leaves plan goal party floor leaves (h ∷ hs) differ =
    let there : ℕ = leaves + flight_ms plan floor h.floor in
    let behind : ℕ = weighted plan (at_one goal party) h.floor (there + plan.door_ms) hs in
    let later : ℕ = moment_at goal hs (arrivals_from plan h.floor (there + plan.door_ms) hs) in
    let AtFirst : Bool → Bool → Type 0 = λ first found. cond first party 0 * there + behind ≡ party * cond found there later in
    elim (cases_Bool (same_halt h goal)) [
      | inl here ↦
          let turned : same_halt goal h ≡ true = halts_turned goal h ∙ here in
          let none = weighted-agree plan (at_one goal party) (λ _. 0) h.floor (there + plan.door_ms) hs (nobody_else goal party hs (differ.0 goal here)) ∙ weighted-nobody plan h.floor (there + plan.door_ms) hs in
          let holds : AtFirst true true = omega (arith, none) in
          rw (turned, here) holds
      | inr other ↦
          let turned : same_halt goal h ≡ false = halts_turned goal h ∙ other in
          let rest = one_leaves plan goal party h.floor (there + plan.door_ms) hs differ.1 in
          let holds : AtFirst false false = omega (arith, rest) in
          rw (turned, other) holds
    ]

-- ---- several calls

-- what two ways tell together
pub weighted-sum : (plan : Plan) (persons first second : Halt → ℕ) (floor leaves : ℕ) (hs : List Halt) → ((h : Halt) → persons h ≡ first h + second h)
    → weighted plan persons floor leaves hs ≡ weighted plan first floor leaves hs + weighted plan second floor leaves hs
weighted-sum plan persons first second floor leaves [] both = omega arith
weighted-sum plan persons first second floor leaves (h ∷ hs) both =
    let there : ℕ = leaves + flight_ms plan floor h.floor in
    let here : persons h * there ≡ first h * there + second h * there = ap (λ n. n * there) (both h) ∙ add-mul (first h) (second h) there in
    let rest = weighted-sum plan persons first second h.floor (there + plan.door_ms) hs both in
    omega (arith, here, rest)

-- The times of calls at their halts are those of the halts, each once for each person that leaves there.
pub arrivals-weighted : (plan : Plan) (position : Position) (start : ℕ) (halts : List Halt) (rows : List Row) → AllDiffer halts
    → sum_by (λ (row : Row). row.party * arrival_at plan start halts (halt_at position row row.to)) rows ≡ weighted plan (leaving_at rows position) start 0 halts
arrivals-weighted plan position start halts [] differ = sym (weighted-nobody plan start 0 halts)
arrivals-weighted plan position start halts (row ∷ rows) differ =
    let goal : Halt = halt_at position row row.to in
    let time : Row → ℕ = λ (r : Row). r.party * arrival_at plan start halts (halt_at position r r.to) in
    let first = one_leaves plan goal row.party start 0 halts differ in
    let rest = arrivals-weighted plan position start halts rows differ in
    let both = weighted-sum plan (leaving_at (row ∷ rows) position) (at_one goal row.party) (leaving_at rows position) start 0 halts (λ h. sum_by-cons (leaving_of position h) row rows) in
    omega (arith, sum_by-cons time row rows, first, rest, both)

-- ---- where nobody leaves

-- the passengers of these calls all leave at these halts
abbrev pub AreGoalsAmong : Position → List Halt → List Row → Type 0
AreGoalsAmong position halts rows = AllByRecursion (λ (row : Row). has_halt (halt_at position row row.to) halts ≡ true) rows

pub nobody_leaves : (position : Position) (halts : List Halt) (rows : List Row) (h : Halt) → has_halt h halts ≡ false → AreGoalsAmong position halts rows → leaving_at rows position h ≡ 0
nobody_leaves position halts [] h missing goals = refl
nobody_leaves position halts (row ∷ rows) h missing goals =
    let goal : Halt = halt_at position row row.to in
    let rest = nobody_leaves position halts rows h missing goals.1 in
    let first : leaving_of position h row ≡ 0 = elim (cases_Bool (same_halt goal h)) [
      | inl same ↦ absurd (let has = goals.0 in let is : has_halt goal halts ≡ has_halt h halts = ap (λ g. has_halt g halts) (halts_equal goal h same) in cc)
      | inr other ↦ ap (λ b. cond b row.party 0) other
    ] in
    omega (arith, sum_by-cons (leaving_of position h) row rows, first, rest)

-- the passengers of open calls leave at halts of the stop list
pub goals_listed : (plan : Plan) (position : Position) (rows : List Row) (halts : List Halt) → IsBuilding plan → AreWithin plan.floors rows → halts ≡ stop_list rows position → AreGoalsAmong position halts rows
goals_listed plan position rows halts lawful inside halts-are =
    let among = All-contains_itself rows in
    rw halts-are (recursion_from_All (λ (row : Row). has_halt (halt_at position row row.to) (stop_list rows position) ≡ true) rows
    (λ k d lt. stops_have rows (get_or rows k d) position (among k d lt) (let within = (inside k d lt).1 in omega (arith, within, lawful.limits.few_floors))))

-- nobody leaves at a halt that isn't in the stop list
pub nobody_leaves_elsewhere : (plan : Plan) (position : Position) (rows : List Row) (halts : List Halt) (h : Halt) → IsBuilding plan → AreWithin plan.floors rows → halts ≡ stop_list rows position → has_halt h halts ≡ false
    → leaving_at rows position h ≡ 0
nobody_leaves_elsewhere plan position rows halts h lawful inside halts-are missing = nobody_leaves position halts rows h missing (goals_listed plan position rows halts lawful inside halts-are)

-- ---- by a table

-- the floors of these halts are such as a building may have
abbrev pub AreLow : List Halt → Type 0
AreLow halts = AllByRecursion (λ (h : Halt). h.floor < MOST_FLOORS) halts

low_at : (keep : Bool) (g : Halt) (rest : List Halt) → g.floor < MOST_FLOORS → AreLow rest → AreLow (cond keep (g ∷ rest) rest)
low_at true g rest here later = (here, later)
low_at false g rest here later = later

low_kept : (p : Halt → Bool) (gs : List Halt) → ((g : Halt) → IsIn g gs → g.floor < MOST_FLOORS) → AreLow (filter p gs)
low_kept p [] low = tt
low_kept p (g ∷ gs) low = low_at (p g) g (filter p gs) (low g (inl refl)) (low_kept p gs (λ h member. low h (inr member)))

pub stops_low : (rows : List Row) (position : Position) → AreLow (stop_list rows position)
unfolding stop_list
stops_low rows position = low_kept (is_needed rows position) (all_halts position.dir) (all_halts-below position.dir)

pub weighted-by_table : (plan : Plan) (position : Position) (rows : List Row) (table : List ℕ) (floor leaves : ℕ) (halts : List Halt) → AreLeaving rows position table → AreLow halts
    → weighted plan (persons_in table) floor leaves halts ≡ weighted plan (leaving_at rows position) floor leaves halts
weighted-by_table plan position rows table floor leaves halts leaving low =
    weighted-agree plan (persons_in table) (leaving_at rows position) floor leaves halts (agree_below (persons_in table) (leaving_at rows position) halts low leaving.at_each)

-- ---- the times of all passengers

pub total_etd-weighted : (plan : Plan) (position : Position) (rows : List Row) (halts : List Halt) → halts ≡ stop_list rows position
    → total_etd plan position rows ≡ weighted plan (leaving_at rows position) position.floor 0 halts
unfolding etd
total_etd-weighted plan position rows halts halts-are = rw halts-are (arrivals-weighted plan position position.floor (stop_list rows position) rows (stops_differ rows position))

-- those of the others where a new call joins
pub others_etd-weighted : (plan : Plan) (position : Position) (rows : List Row) (new : Row) (halts_with : List Halt) → halts_with ≡ stop_list (rows ++ new ∷ []) position
    → sum_by (λ (row : Row). row.party * etd plan position (rows ++ new ∷ []) row) rows ≡ weighted plan (leaving_at rows position) position.floor 0 halts_with
unfolding etd
others_etd-weighted plan position rows new halts_with with-are =
    rw with-are (arrivals-weighted plan position position.floor (stop_list (rows ++ new ∷ []) position) rows (stops_differ (rows ++ new ∷ []) position))
