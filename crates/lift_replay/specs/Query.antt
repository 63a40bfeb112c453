-- What a line may ask to be shown: its words, what it names of the building, and what it shows.
use Rattle.std.specs.Prelude.{ℕ, ◌≡◌, ◌==◌, ◌<◌, ◌≤◌, nat_le, if◌then◌else◌, List, [], ◌∷◌, ◌++◌}
use Rattle.std.specs.Prelude.{Bool, length, codes, Option, Some, None}
use Rattle.std.specs.Fmt.{decimal}
use Rattle.std.specs.List.{flat_map}
use Rattle.lift_base.specs.Text.{ArePartyWords, letter_text}
use Rattle.lift_base.specs.declared.limits.TheConstants.{MOST_CARS, MOST_FLOORS, MOST_KIOSKS}
use Rattle.lift_base.specs.declared.travel.Position.{Position}
use Rattle.lift_base.specs.declared.history.Row.{Row}
use Rattle.lift_base.specs.declared.command.Reason.TheVariants.{NoSuchFloor, SameFloor}
use Rattle.lift_building.specs.Plan.{Plan, kiosk_floor_of}
use Rattle.lift_register.specs.Register.{rows_of}
use Rattle.lift_stops.specs.StopList.{stop_list}
use Rattle.lift_cost.specs.declared.call.NewCall.{NewCall}
use Rattle.lift_policy.specs.View.{ViewState, position_of}
use Rattle.lift_policy.specs.Eligible.{eligible_cars}
use Rattle.lift_policy.specs.Choices.{total_cost_at}
use Rattle.lift_replay.specs.declared.query.Query.{Query}
use Rattle.lift_replay.specs.declared.query.Query.TheVariants.{Stops, Cost, Rows}
use Rattle.lift_replay.specs.Report.{halt_text, cost_text, refused_text, register_text, fault_text}

-- these words ask for this, of cars A to P, kiosks 0 to 46, floors 0 to 63 and parties of 1 to 15
abbrev pub AskToShow : List (List ℕ) → Query → Type 0
AskToShow words (Stops car) = (car < MOST_CARS) × (words ≡ codes "stops" ∷ letter_text car ∷ [])
AskToShow words (Cost kiosk floor party) = (kiosk < MOST_KIOSKS) × (floor < MOST_FLOORS) × (1 ≤ party) × (party ≤ 15)
    × (last : List (List ℕ)) × ArePartyWords last party
    × (words ≡ codes "cost" ∷ decimal kiosk ∷ decimal floor ∷ last)
AskToShow words Rows = words ≡ codes "rows" ∷ []

-- what is read from these words, and none exactly where they ask for none
abbrev pub AreReadAsQuery : List (List ℕ) → Option Query → Type 0
AreReadAsQuery words (Some query) = AskToShow words query
AreReadAsQuery words None = (query : Query) → AskToShow words query → ⊥

-- the building has the car or the kiosk that it names, if it names one
abbrev pub IsKnownQuery : Plan → Query → Type 0
IsKnownQuery plan (Stops car) = car < length plan.cars
IsKnownQuery plan (Cost kiosk floor party) = kiosk < length plan.kiosks
IsKnownQuery plan Rows = Unit {0}

-- each of these in its order, or that there are none
abbrev pub all_text : {T : Type 0} → (T → List ℕ) → List T → List ℕ
all_text text [] = codes " -"
all_text text (first ∷ others) = flat_map text (first ∷ others)

-- the stop list of a car with these open calls, once it has reported where it is
abbrev pub placed_text : List Row → Option Position → List ℕ
placed_text rows None = codes " unplaced"
placed_text rows (Some position) = all_text halt_text (stop_list rows position)

-- the line of a stop list
abbrev pub stops_text : ViewState → ℕ → List ℕ
stops_text view car =
    codes "stops " ++ letter_text car
    ++ placed_text (rows_of view.register car) (position_of view.positions car) ++ 10 ∷ []

-- the costs by rising letter, or the cause for which the call would be refused wherever the cars
-- are
abbrev pub between_text : Plan → ViewState → NewCall → List ℕ
between_text plan view call =
    if nat_le plan.floors call.to then refused_text NoSuchFloor
    else if call.to == call.from then refused_text SameFloor
    else all_text (λ car. cost_text car (total_cost_at plan view call car))
    (eligible_cars plan view call)

-- the line of what a call would cost
abbrev pub costs_text : Plan → ViewState → NewCall → List ℕ
costs_text plan view call = codes "cost" ++ between_text plan view call ++ 10 ∷ []

-- the word that it begins with, and that a fault is reported by
abbrev pub query_word : Query → List ℕ
query_word (Stops car) = codes "stops"
query_word (Cost kiosk floor party) = codes "cost"
query_word Rows = codes "rows"

-- what it shows
abbrev pub query_text : Plan → ViewState → Query → List ℕ
query_text plan view (Stops car) = stops_text view car
query_text plan view (Cost kiosk floor party) =
    costs_text plan view (record { from = kiosk_floor_of plan kiosk; to = floor; party = party })
query_text plan view Rows = register_text view.register

-- what is reported of it: the fault of a broken journal in its place, because else more might be
-- shown than is safe
abbrev pub shown_text : Bool → Plan → ViewState → Query → List ℕ
shown_text is_broken plan view query =
    if is_broken then fault_text (query_word query) 5 else query_text plan view query
