-- What is at fault in a document, in the words of the format: a key that isn't there, or a value that
-- isn't as its key needs it; and that all that is looked at before it is right.
use Rattle.std.specs.Prelude.{ℕ, ◌≡◌, ◌≢◌, ◌↔◌, ◌+◌, ◌-◌, ◌≤◌, ◌<◌, ◌⊎◌, pos, negsuc, List, [], ◌∷◌, length, All}
use Rattle.std.specs.Prelude.{ℤ, Some, None, Err, slice_index}
use Rattle.std.specs.List.{AllByRecursion}
use Rattle.toml.specs.Data.{Data, integer, array, table, Items, no_items, item, Members, get}
use Rattle.lift_base.specs.declared.limits.TheConstants.{MOST_CARS, MOST_FLOORS, MOST_KIOSKS, MOST_PLACES}
use Rattle.lift_building.specs.declared.fault.Field.{Field}
use Rattle.lift_building.specs.declared.fault.Field.TheVariants.{
  Floors,
  DoorMs,
  Kiosks,
  Flight,
  Cars,
  Places,
  Serves,
}
use Rattle.lift_building.specs.declared.fault.BuildingFault.{BuildingFault}
use Rattle.lift_building.specs.declared.fault.BuildingFault.TheVariants.{
  Missing,
  WrongType,
  OutOfRange,
  TableShape,
}
use Rattle.lift_building.specs.Text.{name_of}
use Rattle.lift_building.specs.Plan.{Plan, CarPlan, HasFlights, IsCar}
use Rattle.lift_building.specs.Reading.{item_count, plan_in}
use Rattle.lift_building.specs.Describes.{numbers, number_rows, IsCarText}

-- ---- numbers

-- no integer of this range
abbrev pub IsOutside : (low high : ℕ) → ℤ → Type 0
IsOutside low high (pos n) = (n < low) ⊎ (high < n)
IsOutside low high (negsuc n) = Unit {0}

-- a value that should be a number of this range is no integer, or outside
pub data IsBadNumber (field : Field) (low high : ℕ) : Data → BuildingFault → Type 0 where
  not_integer : {value : Data} → ((n : ℤ) → value ≢ integer n)
      → IsBadNumber field low high value (WrongType field)
  out_of_range : {n : ℤ} → IsOutside low high n
      → IsBadNumber field low high (integer n) (OutOfRange field)

-- ---- arrays

-- The items are these one by one, each as it should be at its place, and then the rest.
abbrev pub BeginWith : {A : Type 0} → (ℕ → Data → A → Type 0) → ℕ → Items → List A → Items → Type 0
BeginWith Is place items [] rest = items ≡ rest
BeginWith Is place no_items (x ∷ xs) rest = ⊥
BeginWith Is place (item value values) (x ∷ xs) rest =
    Is place value x × BeginWith Is (place + 1) values xs rest

-- One of the items is at fault, and those before it are as they should be.
pub record HasFirstBad {A : Type 0} (Is : ℕ → Data → A → Type 0)
    (IsBad : ℕ → Data → BuildingFault → Type 0) (items : Items) (fault : BuildingFault) : Type 0 where
  pub before : List A
  pub value : Data
  pub after : Items
  pub right : BeginWith Is 0 items before (item value after)
  pub bad : IsBad (length before) value fault

-- a value that should be an array is none, or has not the right number of items, or it has and one
-- of them is at fault
pub data IsBadArray {A : Type 0} (field : Field) (IsCount : ℕ → Type 0) (count_fault : BuildingFault)
    (Is : ℕ → Data → A → Type 0) (IsBad : ℕ → Data → BuildingFault → Type 0) : Data
    → BuildingFault → Type 0 where
  not_array : {value : Data} → ((items : Items) → value ≢ array items)
      → IsBadArray field IsCount count_fault Is IsBad value (WrongType field)
  bad_count : {items : Items} → (IsCount (item_count items) → ⊥)
      → IsBadArray field IsCount count_fault Is IsBad (array items) count_fault
  bad_item : {items : Items} {fault : BuildingFault} → IsCount (item_count items)
      → HasFirstBad Is IsBad items fault
      → IsBadArray field IsCount count_fault Is IsBad (array items) fault

-- a floor of the building
abbrev pub IsFloorNumber : ℕ → Data → ℕ → Type 0
IsFloorNumber floors value floor = (value ≡ integer (pos floor)) × (floor < floors)

abbrev pub IsKioskCount : ℕ → Type 0
IsKioskCount count = (1 ≤ count) × (count ≤ MOST_KIOSKS)

abbrev pub IsBadKiosks : ℕ → Data → BuildingFault → Type 0
IsBadKiosks floors = IsBadArray Kiosks IsKioskCount (OutOfRange Kiosks) (λ _. IsFloorNumber floors)
    (λ _. IsBadNumber Kiosks 0 (floors - 1))

-- ---- flights

-- from floor i to floor j: 0 for staying, and 1 ms to ten minutes for any other flight
abbrev pub IsFlightTime : (i j time : ℕ) → Type 0
IsFlightTime i j time = (i ≡ j → time ≡ 0) × (i ≢ j → (1 ≤ time) × (time ≤ 600000))

abbrev pub IsFlightNumber : (i j : ℕ) → Data → ℕ → Type 0
IsFlightNumber i j value time = (value ≡ integer (pos time)) × IsFlightTime i j time

abbrev pub IsBadFlight : (i j : ℕ) → Data → BuildingFault → Type 0
IsBadFlight i j value fault = (i ≡ j → IsBadNumber Flight 0 0 value fault)
    × (i ≢ j → IsBadNumber Flight 1 600000 value fault)

-- the row of floor i has a flight to each floor
abbrev pub IsFlightRow : (floors i : ℕ) → Data → List ℕ → Type 0
IsFlightRow floors i value times = (value ≡ array (numbers times)) × (length times ≡ floors)
    × ((j : ℕ) → j < length times → IsFlightTime i j (slice_index times j))

abbrev pub IsBadRow : (floors i : ℕ) → Data → BuildingFault → Type 0
IsBadRow floors i = IsBadArray Flight (λ count. count ≡ floors) TableShape (IsFlightNumber i)
    (IsBadFlight i)

abbrev pub IsBadTable : ℕ → Data → BuildingFault → Type 0
IsBadTable floors = IsBadArray Flight (λ count. count ≡ floors) TableShape (IsFlightRow floors)
    (IsBadRow floors)

-- ---- cars

abbrev pub IsServedCount : ℕ → Type 0
IsServedCount count = 1 ≤ count

abbrev pub IsBadServed : ℕ → Data → BuildingFault → Type 0
IsBadServed floors = IsBadArray Serves IsServedCount (OutOfRange Serves) (λ _. IsFloorNumber floors)
    (λ _. IsBadNumber Serves 0 (floors - 1))

abbrev pub IsPlaces : ℕ → Type 0
IsPlaces places = (1 ≤ places) × (places ≤ MOST_PLACES)

-- A car is no table; or its places aren't there or at fault; or its places are right, and the floors
-- that it serves are at fault.
pub data IsBadCar (floors : ℕ) : Data → BuildingFault → Type 0 where
  not_table : {value : Data} → ((members : Members) → value ≢ table members)
      → IsBadCar floors value (WrongType Cars)
  no_places : {members : Members} → get (name_of Places) (table members) ≡ None
      → IsBadCar floors (table members) (Missing Places)
  bad_places : {members : Members} {fault : BuildingFault} (value : Data)
      → get (name_of Places) (table members) ≡ Some value → IsBadNumber Places 1 MOST_PLACES value fault
      → IsBadCar floors (table members) fault
  bad_floors : {members : Members} {fault : BuildingFault} (places : ℕ) (value : Data)
      → get (name_of Places) (table members) ≡ Some (integer (pos places)) → IsPlaces places
      → get (name_of Serves) (table members) ≡ Some value → IsBadServed floors value fault
      → IsBadCar floors (table members) fault

abbrev pub IsCarCount : ℕ → Type 0
IsCarCount count = (1 ≤ count) × (count ≤ MOST_CARS)

-- what a car should be
abbrev pub IsCarValue : ℕ → Data → CarPlan → Type 0
IsCarValue floors value car = IsCarText floors value car × IsCar floors car

abbrev pub IsBadCars : ℕ → Data → BuildingFault → Type 0
IsBadCars floors = IsBadArray Cars IsCarCount (OutOfRange Cars) (λ _. IsCarValue floors)
    (λ _. IsBadCar floors)

-- ---- keys

-- a building's keys that are looked at before one
abbrev pub keys_before : Field → List Field
keys_before Floors = []
keys_before DoorMs = Floors ∷ []
keys_before Kiosks = Floors ∷ DoorMs ∷ []
keys_before Flight = Floors ∷ DoorMs ∷ Kiosks ∷ []
keys_before Cars = Floors ∷ DoorMs ∷ Kiosks ∷ Flight ∷ []
keys_before Places = []
keys_before Serves = []

-- a key has what the plan says, within its limits
abbrev pub IsRightKey : Data → Plan → Field → Type 0
IsRightKey document plan Floors =
    (get (name_of Floors) document ≡ Some (integer (pos plan.floors)))
    × (2 ≤ plan.floors) × (plan.floors ≤ MOST_FLOORS)
IsRightKey document plan DoorMs =
    (get (name_of DoorMs) document ≡ Some (integer (pos plan.door_ms))) × (plan.door_ms ≤ 60000)
IsRightKey document plan Kiosks =
    (get (name_of Kiosks) document ≡ Some (array (numbers plan.kiosks)))
    × IsKioskCount (length plan.kiosks) × All (λ floor. floor < plan.floors) plan.kiosks
IsRightKey document plan Flight =
    (get (name_of Flight) document ≡ Some (array (number_rows plan.flights))) × HasFlights plan
IsRightKey document plan _ = ⊥

-- a key of the building can't be left out
abbrev pub IsNeeded : Field → Type 0
IsNeeded Places = ⊥
IsNeeded Serves = ⊥
IsNeeded _ = Unit {0}

-- the value of a building's key is at fault
abbrev pub IsBadValue : Field → Plan → Data → BuildingFault → Type 0
IsBadValue Floors plan = IsBadNumber Floors 2 MOST_FLOORS
IsBadValue DoorMs plan = IsBadNumber DoorMs 0 60000
IsBadValue Kiosks plan = IsBadKiosks plan.floors
IsBadValue Flight plan = IsBadTable plan.floors
IsBadValue Cars plan = IsBadCars plan.floors
IsBadValue _ plan = λ value fault. ⊥

-- A key isn't there, or its value is at fault; and the keys before it are as a plan says.
pub data HasFirstFault (document : Data) : BuildingFault → Type 0 where
  key_missing : {field : Field} (plan : Plan)
      → AllByRecursion (IsRightKey document plan) (keys_before field) → IsNeeded field
      → get (name_of field) document ≡ None
      → HasFirstFault document (Missing field)
  key_bad : {fault : BuildingFault} (field : Field) (plan : Plan) (value : Data)
      → AllByRecursion (IsRightKey document plan) (keys_before field)
      → get (name_of field) document ≡ Some value → IsBadValue field plan value fault
      → HasFirstFault document fault

-- Reading a document, key by key, comes to a fault exactly where that is its first fault.
abbrev pub FaultsAreFirst : Type 0
FaultsAreFirst = (document : Data) (fault : BuildingFault)
    → plan_in document ≡ Err fault ↔ HasFirstFault document fault
