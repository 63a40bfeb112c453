-- The first least of some numbers.
use Rattle.std.specs.Prelude.{ℕ, ◌<◌, ◌≤◌, List, slice_index}

-- the place of the first least of the first n numbers
pub record IsFirstLeastAt (numbers : List ℕ) (n place : ℕ) : Type 0 where
  pub inside : place < n
  pub least : (k : ℕ) → k < n → slice_index numbers place ≤ slice_index numbers k
  pub first : (k : ℕ) → k < place → slice_index numbers place < slice_index numbers k
