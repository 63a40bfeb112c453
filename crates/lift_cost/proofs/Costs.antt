-- Where the halts of a car are, and how long arrivals take.
use Rattle.std.proofs.Common.{◌≡◌, ℕ, ◌+◌, ◌*◌, ◌≤◌, ◌<◌, Bool, true, false, cond, All, List, [], ◌∷◌, length, get_or, drop, refl, sym, ap, ◌∙◌, arith}
use Rattle.std.proofs.lemmas.List.Elements.{All-from_recursion, recursion_from_All}
use Rattle.std.proofs.lemmas.List.{drop_more}
use Rattle.std.specs.List.{AllByRecursion}
use Rattle.lift_base.specs.declared.limits.TheConstants.{MOST_HALTS}
use Rattle.lift_base.specs.declared.travel.Halt.{Halt}
use Rattle.lift_base.specs.declared.travel.Position.{Position}
use Rattle.lift_base.specs.declared.history.Row.{Row}
use Rattle.lift_building.specs.Plan.{Plan, flight_ms, IsBuilding}
use Rattle.lift_building.specs.Arrivals.{arrivals_from}
use Rattle.lift_stops.specs.StopList.{same_halt, stop_list, legs_of}
use Rattle.lift_stops.specs.lemmas.Listed.{stops_at_legs}
use Rattle.lift_cost.specs.Calls.{AreWithin}
use Rattle.lift_cost.specs.Cost.{moment_at, arrival_at}
use Rattle.lift_building.specs.lemmas.Times.{flight_short}
use Rattle.lift_cost.proofs.Earlier.{AllBelow}

-- ---- floors of a building

abbrev Within : ℕ → Row → Type 0
Within floors row = (row.from < floors) × (row.to < floors)

legs_within : (floors : ℕ) (aboard : Bool) (from to : ℕ) → from < floors → to < floors → AllByRecursion (λ floor. floor < floors) (cond aboard (to ∷ []) (from ∷ to ∷ []))
legs_within floors true from to from-in to-in = (to-in, tt)
legs_within floors false from to from-in to-in = (from-in, (to-in, tt))

all_legs : (floors : ℕ) (rows : List Row) → AllByRecursion (Within floors) rows → AllByRecursion (λ (row : Row). AllByRecursion (λ floor. floor < floors) (legs_of row)) rows
all_legs floors [] inside = tt
all_legs floors (row ∷ rows) inside = (legs_within floors row.aboard row.from row.to inside.0.0 inside.0.1, all_legs floors rows inside.1)

-- all stops of these calls are in the building
pub stops_within : (floors : ℕ) (rows : List Row) (position : Position) → AreWithin floors rows → AllBelow floors (stop_list rows position)
stops_within floors rows position inside = stops_at_legs (λ floor. floor < floors) rows position (all_legs floors rows (recursion_from_All (Within floors) rows inside))

-- the same of a list of them
pub all_within : (floors : ℕ) (rows : List Row) (position : Position) (halts : List Halt) → AreWithin floors rows → halts ≡ stop_list rows position → All (λ (h : Halt). h.floor < floors) halts
all_within floors rows position halts inside halts-are = rw halts-are (All-from_recursion (λ (h : Halt). h.floor < floors) (stop_list rows position) (stops_within floors rows position inside))

-- ---- how long arrivals take

either_short : (b : Bool) (m n limit : ℕ) → m ≤ limit → n ≤ limit → cond b m n ≤ limit
either_short true m n limit first second = first
either_short false m n limit first second = second

-- no arrival comes later than a flight and a door time for each halt
pub moment_short : (plan : Plan) → IsBuilding plan → (h : Halt) (hs : List Halt) (a t : ℕ) → moment_at h hs (arrivals_from plan a t hs) ≤ t + length hs * 660000
moment_short plan lawful h [] a t = omega arith
moment_short plan lawful h (g ∷ gs) a t =
    let flies = flight_short plan a g.floor lawful in
    let door = lawful.limits.short_door in
    let rest = moment_short plan lawful h gs g.floor (t + flight_ms plan a g.floor + plan.door_ms) in
    either_short (same_halt g h) _ _ _ (omega arith) (omega arith)

-- the search for a halt goes on after another one
pub moment_goes_on : (h g : Halt) (hs : List Halt) (ts : List ℕ) (i total : ℕ) → i < length hs → length hs ≤ length ts → g ≡ get_or hs i g → same_halt g h ≡ false
    → moment_at h (drop i hs) (drop i ts) ≡ total → moment_at h (drop (i + 1) hs) (drop (i + 1) ts) ≡ total
moment_goes_on h g hs ts i total lt long g-is differs so_far =
    let halts : drop i hs ≡ g ∷ drop (i + 1) hs = drop_more hs i g lt ∙ ap (λ k. k ∷ drop (i + 1) hs) (sym g-is) in
    let moments : drop i ts ≡ get_or ts i 0 ∷ drop (i + 1) ts = drop_more ts i 0 (omega arith) in
    let step : moment_at h (drop i hs) (drop i ts) ≡ moment_at h (drop (i + 1) hs) (drop (i + 1) ts) = rw (halts, moments, differs) refl in
    sym step ∙ so_far

pub arrival_short : (plan : Plan) (floor : ℕ) (hs : List Halt) (h : Halt) → IsBuilding plan → length hs ≤ MOST_HALTS → arrival_at plan floor hs h ≤ 43560000
arrival_short plan floor hs h lawful few =
    let short = moment_short plan lawful h hs floor 0 in
    omega (arith, short, few)
