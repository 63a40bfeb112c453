-- What holds of the definitions of times and costs, said without going along a list.
use Rattle.std.specs.Prelude.{◌≡◌, ℕ, ◌+◌, ◌<◌, ◌≤◌, false, List, [], ◌∷◌, ◌++◌, length, slice_index}
use Rattle.std.specs.Prelude.{slice_get, Some, sum_by}
use Rattle.std.specs.List.{range_with_len}
use Rattle.lift_base.specs.declared.travel.Halt.{Halt}
use Rattle.lift_base.specs.declared.travel.Position.{Position}
use Rattle.lift_base.specs.declared.history.Row.{Row}
use Rattle.lift_building.specs.Plan.{Plan, flight_ms, IsBuilding}
use Rattle.lift_building.specs.Arrivals.{arrivals_of, floors_of}
use Rattle.lift_stops.specs.Parts.{has_halt, AllDiffer}
use Rattle.lift_cost.specs.declared.call.NewCall.{NewCall}
use Rattle.lift_cost.specs.Calls.{AreWithin, AreFloorsWithin}
use Rattle.lift_cost.specs.Cost.{arrival_at, etd, total_etd, own_etd, with_new_call, total_cost}
use Rattle.lift_cost.specs.Cost.{degradation}

-- from the moment at which a car reaches a halt of these to that of the next: the door time and the
-- flight
abbrev pub way_after : Plan → List Halt → ℕ → ℕ
way_after plan halts place =
    plan.door_ms + flight_ms plan (slice_index (floors_of halts) place)
    (slice_index (floors_of halts) (place + 1))

-- The arrival at a halt is the flight to the first one, and the ways after all halts before it.
abbrev pub ArrivalsAddUp : Type 0
ArrivalsAddUp = (plan : Plan) (floor : ℕ) (halts : List Halt) (place : ℕ) → place < length halts
    → slice_index (arrivals_of plan floor halts) place
    ≡ flight_ms plan floor (slice_index (floors_of halts) 0) + sum_by (way_after plan halts)
    (range_with_len 0 place)

-- Where no halt stands twice, as in a stop list, a car is at a halt at the arrival of its place.
abbrev pub ArrivalsAreAtPlaces : Type 0
ArrivalsAreAtPlaces = (plan : Plan) (floor : ℕ) (halts : List Halt) (place : ℕ) (halt : Halt)
    → AllDiffer halts
    → slice_get halts place ≡ Some halt
    → arrival_at plan floor halts halt ≡ slice_index (arrivals_of plan floor halts) place

-- A halt that isn't among them has no arrival.
abbrev pub OthersHaveNone : Type 0
OthersHaveNone = (plan : Plan) (floor : ℕ) (halts : List Halt) (halt : Halt)
    → has_halt halt halts ≡ false
    → arrival_at plan floor halts halt ≡ 0

-- A new call makes no other passenger arrive sooner: the time to destination of a call without the
-- new one is at most its time with it.
abbrev pub OthersAreNoSooner : Type 0
OthersAreNoSooner = (plan : Plan) (position : Position) (rows : List Row) (call : NewCall)
    (row : Row)
    → IsBuilding plan → AreFloorsWithin plan.floors position call → AreWithin plan.floors rows
    → etd plan position rows row ≤ etd plan position (with_new_call rows call) row

-- So no cost is cut off at 0: the times of all passengers with a new call are those without it and
-- its total cost.
abbrev pub CostsAddUp : Type 0
CostsAddUp = (plan : Plan) (position : Position) (rows : List Row) (call : NewCall)
    → IsBuilding plan → AreFloorsWithin plan.floors position call → AreWithin plan.floors rows
    → total_cost plan position rows call + total_etd plan position rows
    ≡ total_etd plan position (with_new_call rows call)

-- Nor is a degradation: with the new passengers' own time it is the total cost.
abbrev pub DegradationsAddUp : Type 0
DegradationsAddUp = (plan : Plan) (position : Position) (rows : List Row) (call : NewCall)
    → IsBuilding plan → AreFloorsWithin plan.floors position call → AreWithin plan.floors rows
    → degradation plan position rows call + own_etd plan position rows call
    ≡ total_cost plan position rows call

-- a new call as a kiosk's, under its number, once a car has it
abbrev pub taken_row : (kiosk number car : ℕ) → NewCall → Row
taken_row kiosk number car call = record {
  kiosk = kiosk;
  number = number;
  from = call.from;
  to = call.to;
  car = car;
  party = call.party;
  aboard = false;
}

-- Once a car has a new call, each call's time, and the times of all, are those by which the call was
-- weighed, whichever kiosk, number and car it has.
abbrev pub TimesStayOnceTaken : Type 0
TimesStayOnceTaken = (plan : Plan) (position : Position) (rows : List Row) (call : NewCall)
    (kiosk number car : ℕ) (row : Row)
    → etd plan position (rows ++ taken_row kiosk number car call ∷ []) row
    ≡ etd plan position (with_new_call rows call) row

abbrev pub TotalsStayOnceTaken : Type 0
TotalsStayOnceTaken = (plan : Plan) (position : Position) (rows : List Row) (call : NewCall)
    (kiosk number car : ℕ)
    → total_etd plan position (rows ++ taken_row kiosk number car call ∷ [])
    ≡ total_etd plan position (with_new_call rows call)
