-- What a building is.
use Rattle.std.specs.Prelude.{
  ◌≡◌,
  ◌≢◌,
  ℕ,
  ◌+◌,
  ◌<◌,
  ◌≤◌,
  List,
  [],
  length,
  slice_index,
  slice_index_or,
  Bool,
  true,
  false,
  All,
  Contains,
}
use Rattle.lift_base.specs.declared.limits.TheConstants.{MOST_CARS, MOST_FLOORS, MOST_KIOSKS, MOST_PLACES}
use Rattle.lift_base.specs.declared.history.Shape.{Shape}

-- what a car is built for: how many persons it takes, and for each floor whether it serves it
pub record CarPlan : Type 0 where
  pub places : ℕ
  pub served : List Bool

-- times in ms; for each kiosk the floor at which it stands; the flights by the floor that they
-- leave and then by the floor that they go to
pub record Plan : Type 0 where
  pub floors : ℕ
  pub door_ms : ℕ
  pub kiosks : List ℕ
  pub flights : List (List ℕ)
  pub cars : List CarPlan

-- the time from leaving floor i to standing at floor j; 0 where there is no such floor
abbrev pub flight_ms : Plan → ℕ → ℕ → ℕ
flight_ms plan i j = slice_index (slice_index_or plan.flights i []) j

-- the time from leaving floor i to standing at floor k, with a stop at floor j on the way
abbrev pub detour_ms : Plan → ℕ → ℕ → ℕ → ℕ
detour_ms plan i j k = flight_ms plan i j + plan.door_ms + flight_ms plan j k

-- a stop at j doesn't make the flight from i to k shorter
abbrev pub IsDirect : Plan → ℕ → ℕ → ℕ → Type 0
IsDirect plan i j k = flight_ms plan i k ≤ detour_ms plan i j k

-- no flight is longer than one with a stop on the way
abbrev pub HasNoDetour : Plan → Type 0
HasNoDetour plan = (i j k : ℕ) → i < plan.floors → j < plan.floors → k < plan.floors
    → IsDirect plan i j k

-- The flight from i to k is longer than with a stop at j. It isn't so for this i and an earlier j,
-- nor for these and an earlier k.
pub record IsFirstDetourFrom (plan : Plan) (i j k : ℕ) : Type 0 where
  pub by : j < plan.floors
  pub to : k < plan.floors
  pub longer : detour_ms plan i j k < flight_ms plan i k
  pub no_earlier_by : (b c : ℕ) → b < j → c < plan.floors → IsDirect plan i b c
  pub no_earlier_to : (c : ℕ) → c < k → IsDirect plan i j c

-- nor for any earlier i
pub record IsFirstDetour (plan : Plan) (i j k : ℕ) : Type 0 where
  pub from : i < plan.floors
  pub here : IsFirstDetourFrom plan i j k
  pub no_earlier_from : (a b c : ℕ) → a < i → b < plan.floors → c < plan.floors
      → IsDirect plan a b c

-- the floor of the kiosk with this index
abbrev pub kiosk_floor_of : Plan → ℕ → ℕ
kiosk_floor_of plan kiosk = slice_index plan.kiosks kiosk

-- the car with this index; one without places that serves nothing where there is none
abbrev pub car_at : Plan → ℕ → CarPlan
car_at plan car = slice_index_or plan.cars car (record { places = 0; served = [] })

abbrev pub places_of : Plan → ℕ → ℕ
places_of plan car = (car_at plan car).places

abbrev pub serves_floor : Plan → ℕ → ℕ → Bool
serves_floor plan car floor = slice_index_or (car_at plan car).served floor false

-- the shape of a journal for the building, with so many sectors in a half
abbrev pub shape_of : Plan → ℕ → Shape
shape_of plan half = record {
  floors = plan.floors;
  cars = length plan.cars;
  kiosks = length plan.kiosks;
  half = half;
}

-- 0 for staying at a floor, and 1 ms to ten minutes for any other flight
pub record HasFlights (plan : Plan) : Type 0 where
  pub rows : length plan.flights ≡ plan.floors
  pub square : All (λ row. length row ≡ plan.floors) plan.flights
  pub staying : (i : ℕ) → i < plan.floors → flight_ms plan i i ≡ 0
  pub moving : (i j : ℕ) → i < plan.floors → j < plan.floors → i ≢ j
      → (1 ≤ flight_ms plan i j) × (flight_ms plan i j ≤ 600000)

-- a car that takes somebody, and serves some floor
pub record IsCar (floors : ℕ) (car : CarPlan) : Type 0 where
  pub some_place : 1 ≤ car.places
  pub few_places : car.places ≤ MOST_PLACES
  pub length : length car.served ≡ floors
  pub serves_some : Contains car.served true

-- what the controller is made for
pub record HasLimits (plan : Plan) : Type 0 where
  pub two_floors : 2 ≤ plan.floors
  pub few_floors : plan.floors ≤ MOST_FLOORS
  pub short_door : plan.door_ms ≤ 60000
  pub some_kiosk : 1 ≤ length plan.kiosks
  pub few_kiosks : length plan.kiosks ≤ MOST_KIOSKS
  pub kiosks : All (λ floor. floor < plan.floors) plan.kiosks
  pub flights : HasFlights plan
  pub some_car : 1 ≤ length plan.cars
  pub few_cars : length plan.cars ≤ MOST_CARS
  pub cars : All (IsCar plan.floors) plan.cars

-- a building that is accepted
pub record IsBuilding (plan : Plan) : Type 0 where
  pub limits : HasLimits plan
  pub no_detour : HasNoDetour plan
