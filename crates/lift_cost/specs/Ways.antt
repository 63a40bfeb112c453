-- The way of a car over halts one after another: where it is, when, and how long its passengers take.
use Rattle.std.specs.Prelude.{ℕ, ◌+◌, ◌*◌, List, [], ◌∷◌}
use Rattle.lift_base.specs.declared.travel.Halt.{Halt}
use Rattle.lift_building.specs.Plan.{Plan, flight_ms}

-- the sum of the times at which a car that leaves a floor at a moment is at these halts, each once
-- for each person told of the halt
abbrev pub weighted : Plan → (Halt → ℕ) → (floor leaves : ℕ) → List Halt → ℕ
weighted plan persons floor leaves [] = 0
weighted plan persons floor leaves (halt ∷ halts) =
    persons halt * (leaves + flight_ms plan floor halt.floor)
    + weighted plan persons halt.floor (leaves + flight_ms plan floor halt.floor + plan.door_ms)
    halts

-- where a car is after these halts
abbrev pub floor_after : ℕ → List Halt → ℕ
floor_after floor [] = floor
floor_after floor (halt ∷ halts) = floor_after halt.floor halts

-- when it leaves the last of them
abbrev pub leaves_after : Plan → (floor leaves : ℕ) → List Halt → ℕ
leaves_after plan floor leaves [] = leaves
leaves_after plan floor leaves (halt ∷ halts) =
    leaves_after plan halt.floor (leaves + flight_ms plan floor halt.floor + plan.door_ms) halts

-- how many persons are told of these halts
abbrev pub persons_along : (Halt → ℕ) → List Halt → ℕ
persons_along persons [] = 0
persons_along persons (halt ∷ halts) = persons halt + persons_along persons halts
