-- What calls cost their passengers, in ms.
use Rattle.std.specs.Prelude.{ℕ, ◌-◌, ◌*◌, List, [], ◌∷◌, ◌++◌, sum_by, false, if◌then◌else◌}
use Rattle.lift_base.specs.declared.travel.Halt.{Halt}
use Rattle.lift_base.specs.declared.travel.Position.{Position}
use Rattle.lift_base.specs.declared.history.Row.{Row}
use Rattle.lift_building.specs.Plan.{Plan}
use Rattle.lift_building.specs.Arrivals.{arrivals_of}
use Rattle.lift_stops.specs.StopList.{same_halt, halt_at, stop_list}
use Rattle.lift_cost.specs.declared.call.NewCall.{NewCall}

-- the time that stands at the first place of this halt, 0 where the halt isn't there
abbrev pub moment_at : Halt → List Halt → List ℕ → ℕ
moment_at halt [] times = 0
moment_at halt (other ∷ halts) [] = 0
moment_at halt (other ∷ halts) (time ∷ times) =
    if same_halt other halt then time else moment_at halt halts times

-- when a car that leaves a floor now, and makes these halts, is at this one
abbrev pub arrival_at : Plan → ℕ → List Halt → Halt → ℕ
arrival_at plan floor halts halt = moment_at halt halts (arrivals_of plan floor halts)

-- the estimated time to destination of a call among the open calls of its car: when the car is
-- where its passengers leave
unfoldable pub etd : Plan → Position → List Row → Row → ℕ
etd plan position rows row =
    arrival_at plan position.floor (stop_list rows position) (halt_at position row row.to)

-- the times of all passengers of a car's open calls: each call's, once for each person
abbrev pub total_etd : Plan → Position → List Row → ℕ
total_etd plan position rows = sum_by (λ row. row.party * etd plan position rows row) rows

-- a call that nobody has taken yet, as an open one whose passengers wait
abbrev pub new_call_row : NewCall → Row
new_call_row call = record {
  kiosk = 0;
  number = 0;
  from = call.from;
  to = call.to;
  car = 0;
  party = call.party;
  aboard = false;
}

-- the open calls with a new one
abbrev pub with_new_call : List Row → NewCall → List Row
with_new_call rows call = rows ++ new_call_row call ∷ []

-- the time of a new call, once for each of its persons
abbrev pub own_etd : Plan → Position → List Row → NewCall → ℕ
own_etd plan position rows call =
    call.party * etd plan position (with_new_call rows call) (new_call_row call)

-- what a new call adds to the times of all passengers, its own with them
abbrev pub total_cost : Plan → Position → List Row → NewCall → ℕ
total_cost plan position rows call =
    total_etd plan position (with_new_call rows call) - total_etd plan position rows

-- what a new call adds to the times of the others
abbrev pub degradation : Plan → Position → List Row → NewCall → ℕ
degradation plan position rows call =
    total_cost plan position rows call - own_etd plan position rows call
