-- Which lines are malformed, and which texts say a building.
use Rattle.std.specs.Prelude.{ℕ, ◌≡◌, ◌≢◌, List}
use Rattle.lift_building.specs.Plan.{Plan, IsBuilding}
use Rattle.lift_building.specs.Describes.{IsTextOf}
use Rattle.lift_building.specs.Gives.{IsFirstFault}
use Rattle.lift_building.specs.declared.fault.BuildingFault.{BuildingFault}
use Rattle.lift_building.specs.declared.fault.BuildingFault.TheVariants.{Memory}
use Rattle.lift_replay.specs.declared.line.ScriptLine.{ScriptLine}
use Rattle.lift_replay.specs.Grammar.{Spells, IsSkipped, IsKnown}
use Rattle.lift_replay.specs.Report.{building_text}

-- a line is malformed: it is not skipped, and it asks for nothing that the building knows
abbrev pub IsBadLine : Plan → List ℕ → Type 0
IsBadLine plan line = (¬ IsSkipped line)
    × ((wanted : ScriptLine) → Spells line wanted → ¬ IsKnown plan wanted)

-- the building is refused, with its first fault; out of memory is no fault of a script
abbrev pub RefusesBuilding : (building report : List ℕ) → Type 0
RefusesBuilding building report = (fault : BuildingFault) × (fault ≢ Memory building)
    × IsFirstFault building fault × (report ≡ building_text fault)

-- the text says that the building is so
abbrev pub SaysBuilding : List ℕ → Plan → Type 0
SaysBuilding building plan = IsTextOf building plan × IsBuilding plan
