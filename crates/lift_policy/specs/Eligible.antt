-- Which cars may take a new call, and what a policy may answer.
use Rattle.std.specs.Prelude.{ℕ, ◌≡◌, ◌+◌, ◌<◌, ◌≤◌, ◌&&◌, Bool, true, nat_le, is_some, List, [], ◌∷◌}
use Rattle.std.specs.Prelude.{length, filter, All}
use Rattle.lift_building.specs.Plan.{Plan, serves_floor, places_of}
use Rattle.lift_register.specs.Prelude.{RegisterState, cars, rows_of, persons_of}
use Rattle.lift_cost.specs.declared.call.NewCall.{NewCall}
use Rattle.lift_policy.specs.View.{ViewState, position_of}

-- the car serves both floors, and beside the persons of its open calls it has places for the party
abbrev pub can_take : Plan → RegisterState → NewCall → ℕ → Bool
can_take plan register call car =
    serves_floor plan car call.from && serves_floor plan car call.to
    && nat_le (persons_of (rows_of register car) + call.party) (places_of plan car)

-- it can take the call, and has reported where it is
abbrev pub is_eligible : Plan → ViewState → NewCall → ℕ → Bool
is_eligible plan view call car =
    is_some (position_of view.positions car) && can_take plan view.register call car

-- each of these cars may take the call
abbrev pub AreEligible : Plan → ViewState → NewCall → List ℕ → Type 0
AreEligible plan view call letters = All (λ car. is_eligible plan view call car ≡ true) letters

-- all cars that may take the call, by rising letter
unfoldable pub eligible_cars : Plan → ViewState → NewCall → List ℕ
eligible_cars plan view call = filter (is_eligible plan view call) cars

-- numbers from this one on, each above those before it
abbrev pub Rise : ℕ → List ℕ → Type 0
Rise low [] = Unit {0}
Rise low (number ∷ later) = (low ≤ number) × Rise (number + 1) later

-- some letters, by rising letter
pub record AreLetters (letters : List ℕ) : Type 0 where
  pub some : 0 < length letters
  pub rising : Rise 0 letters

-- what a policy may name in a building, at what it sees, for a call, of these eligible cars
abbrev pub Choice : Type 1
Choice = Plan → ViewState → NewCall → List ℕ → ℕ → Type 0

-- any of them, as wide as a policy can be
abbrev pub any_eligible : Choice
any_eligible plan view call eligible car = Unit {0}
