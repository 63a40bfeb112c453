-- Calls between the floors of a building.
use Rattle.std.specs.Prelude.{ℕ, ◌<◌, All, List}
use Rattle.lift_base.specs.declared.history.Row.{Row}
use Rattle.lift_base.specs.declared.travel.Position.{Position}
use Rattle.lift_cost.specs.declared.call.NewCall.{NewCall}

-- the floors of the calls are in the building
abbrev pub AreWithin : ℕ → List Row → Type 0
AreWithin floors rows = All (λ row. (row.from < floors) × (row.to < floors)) rows

-- the car's floor and those of a new call are in the building
abbrev pub AreFloorsWithin : ℕ → Position → NewCall → Type 0
AreFloorsWithin floors position call = (position.floor < floors) × (call.from < floors)
    × (call.to < floors)
