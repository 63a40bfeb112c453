-- The words and numbers of a building's text and of its faults.
use Rattle.std.specs.Prelude.{ℕ, List, codes}
use Rattle.lift_building.specs.declared.fault.Field.{Field}
use Rattle.lift_building.specs.declared.fault.Field.TheVariants.{
  Floors,
  DoorMs,
  Kiosks,
  Flight,
  Cars,
  Places,
  Serves,
}
use Rattle.lift_building.specs.declared.fault.BuildingFault.{BuildingFault}
use Rattle.lift_building.specs.declared.fault.BuildingFault.TheVariants.{
  NotToml,
  Missing,
  WrongType,
  OutOfRange,
  TableShape,
  Detour,
  Memory,
}

abbrev pub name_of : Field → List ℕ
name_of Floors = codes "floors"
name_of DoorMs = codes "door_ms"
name_of Kiosks = codes "kiosks"
name_of Flight = codes "flight"
name_of Cars = codes "cars"
name_of Places = codes "places"
name_of Serves = codes "serves"

abbrev pub fault_number : BuildingFault → ℕ
fault_number NotToml = 1
fault_number (Missing field) = 2
fault_number (WrongType field) = 3
fault_number (OutOfRange field) = 4
fault_number TableShape = 5
fault_number (Detour i j k) = 6
fault_number (Memory no_memory) = 7
