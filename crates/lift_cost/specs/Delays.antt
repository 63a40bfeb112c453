-- How much later a car is with a new call than without it. Times are in ms.
use Rattle.std.specs.Prelude.{◌≡◌, ℕ, ◌+◌, ◌*◌, ◌<◌, ◌≤◌, Bool, false, if◌then◌else◌, List, []}
use Rattle.std.specs.Prelude.{◌∷◌, ◌++◌, slice_index}
use Rattle.lift_base.specs.declared.limits.TheConstants.{MOST_HALTS}
use Rattle.lift_base.specs.declared.travel.Position.{Position}
use Rattle.lift_base.specs.declared.travel.Halt.{Halt}
use Rattle.lift_base.specs.declared.history.Row.{Row}
use Rattle.lift_building.specs.Plan.{Plan, flight_ms}
use Rattle.lift_stops.specs.StopList.{stop_list}
use Rattle.lift_stops.specs.Leaving.{AreLeaving, place_of}
use Rattle.lift_cost.specs.Calls.{AreWithin}
use Rattle.lift_stops.specs.Insertion.{IsSplit}
use Rattle.lift_cost.specs.Cost.{etd, total_etd}
use Rattle.lift_cost.specs.Ways.{weighted, floor_after, leaves_after}
use Rattle.lift_cost.specs.declared.ways.Ways.{Ways}

-- how many persons a table tells of a halt
abbrev pub persons_in : List ℕ → Halt → ℕ
persons_in table halt = slice_index table (place_of halt)

-- who leaves the first floor is nowhere later than who leaves the second one so much later
abbrev pub IsNoSooner : Plan → (floor floor_with delay : ℕ) → Type 0
IsNoSooner plan floor floor_with delay = (to : ℕ) → to < plan.floors
    → flight_ms plan floor to ≤ delay + flight_ms plan floor_with to

-- A car that leaves the start now made some halts without a new call, and others with it.
pub record IsOnWays (plan : Plan) (persons : Halt → ℕ) (start : ℕ) (halts halts_with : List Halt)
    (ways : Ways) : Type 0 where
  pub floor : ways.floor ≡ floor_after start halts
  pub floor_with : ways.floor_with ≡ floor_after start halts_with
  pub leaves : ways.leaves_with ≡ leaves_after plan start 0 halts_with
  pub delay : ways.leaves_with ≡ leaves_after plan start 0 halts + ways.delay
  pub later : weighted plan persons start 0 halts_with
      ≡ weighted plan persons start 0 halts + ways.later

-- What was counted along this many parts of a way is within these bounds.
pub record IsShort (ways : Ways) (parts : ℕ) : Type 0 where
  pub leaves : ways.leaves_with ≤ 50000000 * parts
  pub delay : ways.delay ≤ 50000000 * parts
  pub later : ways.later ≤ parts * (MOST_HALTS * (65535 * 4294967295))

-- A car that had made some halts goes on through these up to one, which the way with the new call
-- makes, and the other one where it is there.
pub record HaltsAt (plan : Plan) (persons : Halt → ℕ) (rank : Halt → ℕ) (halts behind : List Halt)
    (halt : Halt) (ways after : Ways) (arrives : ℕ) : Type 0 where
  pub before : List Halt
  pub is_there : Bool
  pub split : IsSplit rank halt halts before is_there behind
  pub on : (start : ℕ) (made made_with : List Halt) → (is_there ≡ false → persons halt ≡ 0)
      → IsOnWays plan persons start made made_with ways
      → IsOnWays plan persons start ((made ++ before) ++ (if is_there then halt ∷ [] else []))
      ((made_with ++ before) ++ halt ∷ []) after
  pub arrives_at : (start : ℕ) (made made_with : List Halt)
      → IsOnWays plan persons start made made_with ways
      → arrives ≡ leaves_after plan start 0 (made_with ++ before)
      + flight_ms plan (floor_after start (made_with ++ before)) halt.floor

-- A car that had made some halts goes on through these to their end, and the way with the new call
-- makes this one among them: `later` is how much later all persons are where they leave, and
-- `arrives` is when the car with the call is at this one.
pub record GoesToEnd (plan : Plan) (persons : Halt → ℕ) (rank : Halt → ℕ) (halts : List Halt)
    (halt : Halt) (ways : Ways) (later arrives : ℕ) : Type 0 where
  pub before : List Halt
  pub is_there : Bool
  pub behind : List Halt
  pub split : IsSplit rank halt halts before is_there behind
  pub on : (start : ℕ) (made made_with : List Halt) → (is_there ≡ false → persons halt ≡ 0)
      → IsOnWays plan persons start made made_with ways
      → weighted plan persons start 0 (((made_with ++ before) ++ halt ∷ []) ++ behind)
      ≡ weighted plan persons start 0
      (((made ++ before) ++ (if is_there then halt ∷ [] else [])) ++ behind) + later
  pub arrives_at : (start : ℕ) (made made_with : List Halt)
      → IsOnWays plan persons start made made_with ways
      → arrives ≡ leaves_after plan start 0 (made_with ++ before)
      + flight_ms plan (floor_after start (made_with ++ before)) halt.floor

-- Some open calls of a car at this position, with its halts for them, and a table of those who
-- leave there.
pub record AreOpen (plan : Plan) (position : Position) (rows : List Row) (halts : List Halt)
    (table : List ℕ) : Type 0 where
  pub within : AreWithin plan.floors rows
  pub listed : halts ≡ stop_list rows position
  pub leaving : AreLeaving rows position table

-- The times of all passengers with a new call: those without it, the others' delays, and its own
-- time once for each of its persons.
pub record AddsTimes (plan : Plan) (position : Position) (rows : List Row) (row : Row)
    (later arrives : ℕ) : Type 0 where
  pub added : total_etd plan position (rows ++ row ∷ [])
      ≡ total_etd plan position rows + later + row.party * arrives
  pub own : arrives ≡ etd plan position (rows ++ row ∷ []) row
