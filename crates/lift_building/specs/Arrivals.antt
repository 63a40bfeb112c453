-- When a car reaches the halts of a list.
use Rattle.std.specs.Prelude.{◌≡◌, ℕ, ◌+◌, ◌<◌, List, [], ◌∷◌, length, slice_index, map}
use Rattle.lift_base.specs.declared.travel.Halt.{Halt}
use Rattle.lift_building.specs.Plan.{Plan, flight_ms}

-- the moments at which a car reaches halts one after another, from the moment at which it leaves
-- a floor
abbrev pub arrivals_from : Plan → ℕ → ℕ → List Halt → List ℕ
arrivals_from plan floor time [] = []
arrivals_from plan floor time (halt ∷ halts) =
    (time + flight_ms plan floor halt.floor)
    ∷ arrivals_from plan halt.floor (time + flight_ms plan floor halt.floor + plan.door_ms) halts

-- the same, from now on
abbrev pub arrivals_of : Plan → ℕ → List Halt → List ℕ
arrivals_of plan floor halts = arrivals_from plan floor 0 halts

abbrev pub floors_of : List Halt → List ℕ
floors_of halts = map (λ halt. halt.floor) halts

-- The first halt is reached after its flight, and each later one a door time and a flight after
-- the halt before it.
pub record AreArrivals (plan : Plan) (floor : ℕ) (halts : List Halt) (times : List ℕ) : Type 0 where
  pub count : length times ≡ length halts
  pub first : 0 < length halts
      → slice_index times 0 ≡ flight_ms plan floor (slice_index (floors_of halts) 0)
  pub later : (n : ℕ) → n + 1 < length halts
      → slice_index times (n + 1) ≡ slice_index times n + plan.door_ms
      + flight_ms plan (slice_index (floors_of halts) n) (slice_index (floors_of halts) (n + 1))
