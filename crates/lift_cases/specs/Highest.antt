-- A policy beside the shipped ones.
use Rattle.std.specs.Prelude.{ℕ, ◌≤◌, List, All, Contains}
use Rattle.lift_policy.specs.Eligible.{Choice}

-- the eligible car with the highest letter
pub record IsHighest (eligible : List ℕ) (car : ℕ) : Type 0 where
  pub member : Contains eligible car
  pub highest : All (λ other. other ≤ car) eligible

abbrev pub HighestChoice : Choice
HighestChoice plan view call eligible car = IsHighest eligible car
