-- Which car each of the three policies picks.
use Rattle.std.specs.Prelude.{ℕ, ◌≡◌, ◌≤◌, List, [], ◌∷◌, All, Contains, nat_lt, if◌then◌else◌, codes}
use Rattle.std.specs.Prelude.{Option, Some, None, option_map}
use Rattle.std.specs.Option.{option_map_or}
use Rattle.lift_base.specs.declared.travel.Position.{Position}
use Rattle.lift_base.specs.declared.history.Row.{Row}
use Rattle.lift_building.specs.Plan.{Plan}
use Rattle.lift_register.specs.Prelude.{rows_of, persons_of}
use Rattle.lift_stops.specs.StopList.{halt_at, stop_list}
use Rattle.lift_cost.specs.declared.call.NewCall.{NewCall}
use Rattle.lift_cost.specs.Cost.{total_cost, arrival_at, new_call_row, with_new_call}
use Rattle.lift_policy.specs.View.{ViewState, position_of}
use Rattle.lift_policy.specs.Eligible.{Choice}
use Rattle.lift_policy.specs.declared.policies.Shipped.{Shipped}
use Rattle.lift_policy.specs.declared.policies.Shipped.TheVariants.{Etd, FewestOpen, ShortestWait}

-- what a policy measures of a car
abbrev pub Measure : Type 0
Measure = Plan → ViewState → NewCall → ℕ → ℕ

-- of these cars the one with the least measure; of several such, the one with the lowest letter
pub record IsFirstLeast (measure : ℕ → ℕ) (eligible : List ℕ) (car : ℕ) : Type 0 where
  pub member : Contains eligible car
  pub least : All (λ other. measure car ≤ measure other) eligible
  pub lowest : All (λ other. measure other ≡ measure car → car ≤ other) eligible

-- what the call would add to the times of all persons of a car, its own party with them; none
-- before the car has reported where it is
abbrev pub cost_at : Plan → ViewState → NewCall → ℕ → Option ℕ
cost_at plan view call car =
    option_map (λ (p : Position). total_cost plan p (rows_of view.register car) call)
    (position_of view.positions car)

-- the same as a number
abbrev pub total_cost_at : Plan → ViewState → NewCall → ℕ → ℕ
total_cost_at plan view call car =
    option_map_or (λ (p : Position). total_cost plan p (rows_of view.register car) call)
    (position_of view.positions car) 0

-- when a car that takes the call too is where its passengers wait; however many they are
abbrev pub wait : Plan → Position → List Row → NewCall → ℕ
wait plan position rows call =
    arrival_at plan position.floor (stop_list (with_new_call rows call) position)
    (halt_at position (new_call_row call) call.from)

abbrev pub wait_at : Plan → ViewState → NewCall → ℕ → ℕ
wait_at plan view call car =
    option_map_or (λ (p : Position).
    wait plan p (rows_of view.register car) call) (position_of view.positions car) 0

-- how many persons have open calls at a car
abbrev pub open_at : ViewState → ℕ → ℕ
open_at view car = persons_of (rows_of view.register car)

-- of the eligible cars the one that measures least
abbrev pub PicksLeast : Measure → Choice
PicksLeast measure plan view call eligible car = IsFirstLeast (measure plan view call) eligible car

-- the least total cost of all eligible cars
abbrev pub IsEtdChoice : Choice
IsEtdChoice = PicksLeast total_cost_at

-- the fewest persons with open calls
abbrev pub IsFewestOpen : Choice
IsFewestOpen = PicksLeast (λ plan view call. open_at view)

-- the earliest arrival where the passengers wait
abbrev pub IsShortestWait : Choice
IsShortestWait = PicksLeast wait_at

-- each of the three picks as it does alone
abbrev pub IsShipped : Shipped → Choice
IsShipped (Etd policy) = IsEtdChoice
IsShipped (FewestOpen policy) = IsFewestOpen
IsShipped (ShortestWait policy) = IsShortestWait

-- how each is named
abbrev pub policy_name : Shipped → List ℕ
policy_name (Etd policy) = codes "etd"
policy_name (FewestOpen policy) = codes "fewest"
policy_name (ShortestWait policy) = codes "wait"

pub IsShipped-member : (policy : Shipped) (plan : Plan) (view : ViewState) (call : NewCall)
    (eligible : List ℕ) (car : ℕ)
    → IsShipped policy plan view call eligible car → Contains eligible car
IsShipped-member (Etd policy) plan view call eligible car h = h.member
IsShipped-member (FewestOpen policy) plan view call eligible car h = h.member
IsShipped-member (ShortestWait policy) plan view call eligible car h = h.member

-- the better one of a car and of what is best after it: the later one only where it measures less
abbrev pub better : (ℕ → ℕ) → ℕ → Option ℕ → ℕ
better measure car None = car
better measure car (Some later) = if nat_lt (measure later) (measure car) then later else car

-- the pick as a function: none of no cars
abbrev pub first_least : (ℕ → ℕ) → List ℕ → Option ℕ
first_least measure [] = None
first_least measure (car ∷ eligible) = Some (better measure car (first_least measure eligible))
