-- When a text describes a building, in the words of the format and with no order of reading.
use Rattle.std.specs.Prelude.{
  ◌≡◌,
  ℕ,
  ◌≤◌,
  ◌<◌,
  pos,
  List,
  [],
  ◌∷◌,
  length,
  All,
  Bool,
  true,
  replicate,
  Option,
  Some,
  None,
}
use Rattle.toml.specs.Data.{Data, integer, array, table, Items, no_items, item, Members, get}
use Rattle.toml.specs.Parse.{parse_document}
use Rattle.lift_building.specs.declared.fault.Field.TheVariants.{
  Floors,
  DoorMs,
  Kiosks,
  Flight,
  Cars,
  Places,
  Serves,
}
use Rattle.lift_building.specs.Text.{name_of}
use Rattle.lift_building.specs.Plan.{Plan, CarPlan}
use Rattle.lift_building.specs.Reading.{flags_of}

-- an array of these numbers
abbrev pub numbers : List ℕ → Items
numbers [] = no_items
numbers (n ∷ ns) = item (integer (pos n)) (numbers ns)

-- an array of such arrays
abbrev pub number_rows : List (List ℕ) → Items
number_rows [] = no_items
number_rows (row ∷ rows) = item (array (numbers row)) (number_rows rows)

-- A car serves all floors where it lists none, and else those that it lists.
abbrev pub IsServed : ℕ → Option Data → List Bool → Type 0
IsServed floors None served = served ≡ replicate floors true
IsServed floors (Some value) served =
    (listed : List ℕ) × (value ≡ array (numbers listed)) × (1 ≤ length listed)
    × All (λ floor. floor < floors) listed × (served ≡ flags_of floors listed)

-- a table with the places and the floors of a car
abbrev pub IsCarText : ℕ → Data → CarPlan → Type 0
IsCarText floors value car =
    (members : Members) × (value ≡ table members)
    × (get (name_of Places) value ≡ Some (integer (pos car.places)))
    × IsServed floors (get (name_of Serves) value) car.served

-- car by car
abbrev pub AreCarTexts : ℕ → Items → List CarPlan → Type 0
AreCarTexts floors no_items [] = Unit {0}
AreCarTexts floors (item value values) (car ∷ cars) =
    IsCarText floors value car × AreCarTexts floors values cars
AreCarTexts floors no_items (car ∷ cars) = ⊥
AreCarTexts floors (item value values) [] = ⊥

-- each key has what the plan says
pub record Describes (document : Data) (plan : Plan) : Type 0 where
  pub floors : get (name_of Floors) document ≡ Some (integer (pos plan.floors))
  pub door_ms : get (name_of DoorMs) document ≡ Some (integer (pos plan.door_ms))
  pub kiosks : get (name_of Kiosks) document ≡ Some (array (numbers plan.kiosks))
  pub flight : get (name_of Flight) document ≡ Some (array (number_rows plan.flights))
  pub cars : (values : Items) × (get (name_of Cars) document ≡ Some (array values))
      × AreCarTexts plan.floors values plan.cars

-- the text is a TOML document that describes the plan
abbrev pub IsTextOf : List ℕ → Plan → Type 0
IsTextOf text plan =
    (members : Members) × (parse_document text ≡ Some members) × Describes (table members) plan
