-- One decision: what a command is answered, and what it changes.
use Rattle.std.specs.Prelude.{ℕ, ◌≡◌, ◌==◌, ◌+◌, Bool, true, false, not, ◌&&◌, ◌||◌, if◌then◌else◌}
use Rattle.std.specs.Prelude.{nat_lt, nat_le, List, [], ◌∷◌, ◌++◌, length, find, Contains, Option}
use Rattle.std.specs.Prelude.{Some, slice_set, MatchOption, MatchBool}
use Rattle.std.specs.Option.{option_map_or}
use Rattle.lift_base.specs.Travel.{same_dir}
use Rattle.lift_base.specs.declared.travel.Dir.{Dir}
use Rattle.lift_base.specs.declared.travel.Position.{Position}
use Rattle.lift_base.specs.declared.travel.Stop.{Stop as NextStop}
use Rattle.lift_base.specs.declared.history.Entry.{Entry}
use Rattle.lift_base.specs.declared.history.Entry.TheVariants.{Allot, Stop as Stopping}
use Rattle.lift_base.specs.declared.history.Content.{Content}
use Rattle.lift_base.specs.declared.history.Content.TheVariants.{Letter, Stopped as StoppedAt}
use Rattle.lift_base.specs.declared.history.Last.{Last}
use Rattle.lift_base.specs.declared.command.Body.{Body}
use Rattle.lift_base.specs.declared.command.Body.TheVariants.{Call, Stop, Place}
use Rattle.lift_base.specs.declared.command.Reason.{Reason}
use Rattle.lift_base.specs.declared.command.Reason.TheVariants.{NoSuchFloor, SameFloor, NoCar}
use Rattle.lift_base.specs.declared.command.Reason.TheVariants.{OldNumber, GapNumber, OtherBody}
use Rattle.lift_base.specs.declared.command.Reason.TheVariants.{WrongKind, Full, NotServed}
use Rattle.lift_base.specs.declared.command.Reply.{Reply}
use Rattle.lift_base.specs.declared.command.Reply.TheVariants.{Car, Stopped, Placed, Refused}
use Rattle.lift_building.specs.Plan.{Plan, serves_floor}
use Rattle.lift_register.specs.Register.{RegisterState, rows_of, last_of, last_number, register_of}
use Rattle.lift_stops.specs.StopList.{next_stop}
use Rattle.lift_cost.specs.declared.call.NewCall.{NewCall}
use Rattle.lift_policy.specs.Terminals.{has_car, has_kiosk, kiosk_floor}
use Rattle.lift_policy.specs.View.{ViewState}
use Rattle.lift_policy.specs.Eligible.{eligible_cars, Choice}

-- what decisions read and change: the register, the cars' positions, and the batch so far
pub record State : Type 0 where
  pub register : RegisterState
  pub positions : List (Option Position)
  pub batch : List Entry

-- what a policy sees of it
abbrev pub view_of : State → ViewState
view_of state = record { register = state.register; positions = state.positions }

-- what a policy sees, with this batch
abbrev pub state_seen : ViewState → List Entry → State
state_seen view batch = record {
  register = view.register;
  positions = view.positions;
  batch = batch;
}

abbrev pub floor_of : Body → ℕ
floor_of (Call floor party) = floor
floor_of (Stop floor dir) = floor
floor_of (Place floor dir) = floor

-- calls and stops are numbered, places aren't
abbrev pub is_numbered : Body → Bool
is_numbered (Place floor dir) = false
is_numbered _ = true

abbrev pub is_call : Body → Bool
is_call (Call floor party) = true
is_call _ = false

-- what was kept says what is asked now, for a call the same floor and the same party
abbrev pub is_same : Body → Content → Bool
is_same (Call floor party) (Letter from to car persons) = to == floor && persons == party
is_same (Stop floor dir) (StoppedAt f d) = f == floor && same_dir d dir
is_same _ _ = false

abbrev pub is_kept : RegisterState → ℕ → Body → Bool
is_kept register terminal body =
    option_map_or (λ (l : Last). is_same body l.content) (last_of register terminal) false

-- a command of this number would be the terminal's next
abbrev pub is_new : State → ℕ → ℕ → Bool
is_new state terminal number = number == last_number state.register terminal + 1

-- a party that calls at a kiosk starts from the kiosk's floor
abbrev pub call_at : Plan → ℕ → ℕ → ℕ → NewCall
call_at plan terminal to party = record { from = kiosk_floor plan terminal; to = to; party = party }

-- the cars that may take a call of this kiosk now
abbrev pub cars_for : Plan → State → ℕ → ℕ → ℕ → List ℕ
cars_for plan state terminal to party =
    eligible_cars plan (view_of state) (call_at plan terminal to party)

-- no car may take what is asked
abbrev pub lacks_car : Plan → State → ℕ → Body → Bool
lacks_car plan state terminal (Call to party) = length (cars_for plan state terminal to party) == 0
lacks_car plan state terminal _ = false

-- each cause of a refusal; no decision finds the journal full
abbrev pub has_cause : Plan → State → ℕ → ℕ → Body → Reason → Bool
has_cause plan state terminal number body WrongKind =
    not (if is_call body then has_kiosk plan terminal else has_car plan terminal)
has_cause plan state terminal number body NoSuchFloor = nat_le plan.floors (floor_of body)
has_cause plan state terminal number body NotServed =
    not (is_call body) && not (serves_floor plan terminal (floor_of body))
has_cause plan state terminal number body SameFloor =
    is_call body && kiosk_floor plan terminal == floor_of body
has_cause plan state terminal number body OtherBody =
    is_numbered body && nat_le 1 number && number
    == last_number state.register terminal && not (is_kept state.register terminal body)
has_cause plan state terminal number body OldNumber =
    is_numbered body && (number == 0 || nat_lt number (last_number state.register terminal))
has_cause plan state terminal number body GapNumber =
    nat_lt (if is_numbered body then last_number state.register terminal + 1 else 0) number
has_cause plan state terminal number body NoCar =
    is_new state terminal number && lacks_car plan state terminal body
has_cause plan state terminal number body Full = false

-- the order in which causes are looked for
abbrev pub order_of_checking : List Reason
order_of_checking = WrongKind ∷ NoSuchFloor ∷ NotServed ∷ SameFloor ∷ OtherBody ∷ OldNumber
    ∷ GapNumber ∷ NoCar ∷ []

-- the reason that a refusal names
abbrev pub first_cause : Plan → State → ℕ → ℕ → Body → Option Reason
first_cause plan state terminal number body =
    find (has_cause plan state terminal number body) order_of_checking

-- the entry joins the register and the batch
abbrev pub accepting : State → Entry → State
accepting state entry = record state {
  register = register_of state.register (entry ∷ []);
  batch = state.batch ++ entry ∷ [];
}

-- the car stands there
abbrev pub with_car_at : State → ℕ → ℕ → Dir → State
with_car_at state car floor dir = record state {
  positions = slice_set state.positions car (Some (record { floor = floor; dir = dir }));
}

-- a stop of a new number joins, a repeat doesn't; either way the car stands there
abbrev pub stopping : State → ℕ → ℕ → ℕ → Dir → State
stopping state car number floor dir =
    with_car_at (if is_new state car number then accepting state
    (Stopping car number floor dir) else state) car floor dir

-- the car's next stop from there
abbrev pub next_from : State → ℕ → ℕ → Dir → Option NextStop
next_from state car floor dir =
    next_stop (rows_of state.register car) (record { floor = floor; dir = dir })

-- a new call is allotted to an eligible car that the policy may name
abbrev pub Allots : Plan → Choice → State → ℕ → ℕ → ℕ → ℕ → Reply → State → Type 0
Allots plan choice state terminal number to party reply next =
    (car : ℕ) × Contains (cars_for plan state terminal to party) car
    × choice plan (view_of state) (call_at plan terminal to party)
    (cars_for plan state terminal to party) car
    × (reply ≡ Car car) × (next
    ≡ accepting state (Allot terminal number (kiosk_floor plan terminal) to car party))

-- a repeated call gets its kept letter
abbrev pub Repeats : State → ℕ → ℕ → ℕ → ℕ → Reply → State → Type 0
Repeats state terminal number to party reply next =
    (from car : ℕ) × (last_of state.register terminal
    ≡ Some (record { number = number; content = Letter from to car party }))
    × (reply ≡ Car car) × (next ≡ state)

-- a command without a cause of refusal
abbrev pub Proceeds : Plan → Choice → State → ℕ → ℕ → Body → Reply → State → Type 0
Proceeds plan choice state terminal number (Call to party) reply next =
    MatchBool (is_new state terminal number)
    (Allots plan choice state terminal number to party reply next)
    (Repeats state terminal number to party reply next)
Proceeds plan choice state terminal number (Stop floor dir) reply next =
    (next ≡ stopping state terminal number floor dir)
    × (reply ≡ Stopped (next_from next terminal floor dir))
Proceeds plan choice state terminal number (Place floor dir) reply next =
    (next ≡ with_car_at state terminal floor dir)
    × (reply ≡ Placed (next_from next terminal floor dir))

-- One decision. Where a cause of refusal holds, the first is named and nothing changes.
abbrev pub Step : Plan → Choice → State → ℕ → ℕ → Body → Reply → State → Type 0
Step plan choice state terminal number body reply next =
    MatchOption (first_cause plan state terminal number body)
    (Proceeds plan choice state terminal number body reply next)
    (λ reason. (reply ≡ Refused reason) × (next ≡ state))
