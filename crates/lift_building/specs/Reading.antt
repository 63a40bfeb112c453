-- What a building's text describes, or the first fault that is found in it, key by key.
use Rattle.std.specs.Prelude.{ℕ, suc, ◌-◌, ◌+◌, pos, negsuc, List, [], ◌∷◌, map, Bool, true, false}
use Rattle.std.specs.Prelude.{◌&&◌, ◌==◌, nat_le, if◌then◌else◌, Option, Some, None, Result, Ok}
use Rattle.std.specs.Prelude.{Err, replicate}
use Rattle.std.specs.List.{list_any, range_with_len}
use Rattle.toml.specs.Data.{Data, integer, array, table, Items, no_items, item, Members, get}
use Rattle.toml.specs.Parse.{parse_document}
use Rattle.lift_building.specs.Plan.{Plan, CarPlan}
use Rattle.lift_building.specs.Text.{name_of}
use Rattle.lift_base.specs.declared.limits.TheConstants.{MOST_CARS, MOST_FLOORS, MOST_KIOSKS, MOST_PLACES}
use Rattle.lift_building.specs.declared.fault.Field.{Field}
use Rattle.lift_building.specs.declared.fault.Field.TheVariants.{
  Floors,
  DoorMs,
  Kiosks,
  Flight,
  Cars,
  Places,
  Serves,
}
use Rattle.lift_building.specs.declared.fault.BuildingFault.{BuildingFault}
use Rattle.lift_building.specs.declared.fault.BuildingFault.TheVariants.{NotToml, Missing}
use Rattle.lift_building.specs.declared.fault.BuildingFault.TheVariants.{WrongType, OutOfRange}
use Rattle.lift_building.specs.declared.fault.BuildingFault.TheVariants.{TableShape}

-- the next thing is read only where the one before has no fault
infixl 10 ◌>>=◌
abbrev pub ◌>>=◌ : {A B : Type 0} → Result A BuildingFault → (A → Result B BuildingFault)
    → Result B BuildingFault
(Ok x) >>= f = f x
(Err e) >>= f = Err e

abbrev pub is_between : ℕ → ℕ → ℕ → Bool
is_between low high n = nat_le low n && nat_le n high

-- a number in a range: its type before its range
abbrev pub number_in : Field → ℕ → ℕ → Data → Result ℕ BuildingFault
number_in field low high (integer (pos n)) =
    if is_between low high n then Ok n else Err (OutOfRange field)
number_in field low high (integer (negsuc n)) = Err (OutOfRange field)
number_in field low high _ = Err (WrongType field)

-- the items of an array
abbrev pub items_in : Field → Data → Result Items BuildingFault
items_in field (array items) = Ok items
items_in field _ = Err (WrongType field)

abbrev pub present : Field → Option Data → Result Data BuildingFault
present field None = Err (Missing field)
present field (Some value) = Ok value

-- the value of a key
abbrev pub key : Field → Data → Result Data BuildingFault
key field value = present field (get (name_of field) value)

abbrev pub item_count : Items → ℕ
item_count no_items = 0
item_count (item d ds) = suc (item_count ds)

-- the items from the place i on, each read with its place, or the first fault among them
unfoldable pub each : {A : Type 0} → (ℕ → Data → Result A BuildingFault) → ℕ → Items
    → Result (List A) BuildingFault
each one i no_items = Ok []
each one i (item d ds) = do
  first ← one i d
  others ← each one (i + 1) ds
  Ok (first ∷ others)

-- the items, where their number is in order
abbrev pub counted : Bool → BuildingFault → Items → Result Items BuildingFault
counted true fault items = Ok items
counted false fault items = Err fault

abbrev pub number_at : Field → ℕ → ℕ → Data → Result ℕ BuildingFault
number_at field low high document = do
  value ← key field document
  number_in field low high value

-- floors of the building: an array, the number of its items, then each of them
unfoldable pub floors_in : Field → (ℕ → Bool) → ℕ → Data → Result (List ℕ) BuildingFault
floors_in field is_allowed floors value = do
  items ← items_in field value
  items ← counted (is_allowed (item_count items)) (OutOfRange field) items
  each (λ _. number_in field 0 (floors - 1)) 0 items

abbrev pub is_some_number : ℕ → Bool
is_some_number count = nat_le 1 count

-- a flight from floor i to floor j
abbrev pub flight_in : ℕ → ℕ → Data → Result ℕ BuildingFault
flight_in i j value =
    if i == j then number_in Flight 0 0 value else number_in Flight 1 600000 value

-- the flights from floor i: an array, the number of its items, then each of them
unfoldable pub row_in : ℕ → ℕ → Data → Result (List ℕ) BuildingFault
row_in floors i value = do
  items ← items_in Flight value
  items ← counted (item_count items == floors) TableShape items
  each (flight_in i) 0 items

-- the flights: the number of rows, then row by row
unfoldable pub table_in : ℕ → Data → Result (List (List ℕ)) BuildingFault
table_in floors value = do
  rows ← items_in Flight value
  rows ← counted (item_count rows == floors) TableShape rows
  each (row_in floors) 0 rows

-- for each floor whether it is among those listed
abbrev pub flags_of : ℕ → List ℕ → List Bool
flags_of floors listed =
    map (λ floor. list_any (λ other. other == floor) listed) (range_with_len 0 floors)

-- the same for floors that are listed in a text
abbrev pub flags_in : ℕ → Items → Result (List Bool) BuildingFault
flags_in floors items = do
  listed ← each (λ _. number_in Serves 0 (floors - 1)) 0 items
  Ok (flags_of floors listed)

-- the floors that a car serves: all where none are listed
unfoldable pub served_in : ℕ → Option Data → Result (List Bool) BuildingFault
served_in floors None = Ok (replicate floors true)
served_in floors (Some value) = do
  listed ← floors_in Serves is_some_number floors value
  Ok (flags_of floors listed)

-- a car: a table, then its places, then its floors
unfoldable pub car_in : ℕ → Data → Result CarPlan BuildingFault
car_in floors (table members) = do
  places ← number_at Places 1 MOST_PLACES (table members)
  served ← served_in floors (get (name_of Serves) (table members))
  Ok (record { places = places; served = served })
car_in floors _ = Err (WrongType Cars)

-- the cars: an array, the number of its items, then car by car
unfoldable pub cars_in : ℕ → Data → Result (List CarPlan) BuildingFault
cars_in floors value = do
  items ← items_in Cars value
  items ← counted (is_between 1 MOST_CARS (item_count items)) (OutOfRange Cars) items
  each (λ _. car_in floors) 0 items

-- all keys in order, each wholly before the next
unfoldable pub plan_in : Data → Result Plan BuildingFault
plan_in document = do
  floors ← number_at Floors 2 MOST_FLOORS document
  door_ms ← number_at DoorMs 0 60000 document
  value ← key Kiosks document
  kiosks ← floors_in Kiosks (is_between 1 MOST_KIOSKS) floors value
  value ← key Flight document
  flights ← table_in floors value
  value ← key Cars document
  cars ← cars_in floors value
  Ok (record {
    floors = floors;
    door_ms = door_ms;
    kiosks = kiosks;
    flights = flights;
    cars = cars;
  })

-- the document that a text spells
abbrev pub spelled : Option Members → Result Data BuildingFault
spelled None = Err NotToml
spelled (Some members) = Ok (table members)

abbrev pub document_of : List ℕ → Result Data BuildingFault
document_of text = spelled (parse_document text)

-- what the text describes, or the first fault of its keys
abbrev pub plan_of : List ℕ → Result Plan BuildingFault
plan_of text = do
  document ← document_of text
  plan_in document
