-- What is true of every register.
use Rattle.std.specs.Prelude.{ℕ, ◌≡◌, ◌≤◌, All, length, Some}
use Rattle.lift_base.specs.declared.limits.TheConstants.{MOST_CARS, MOST_ROWS, MOST_TERMINALS}
use Rattle.lift_base.specs.Records.{IsRecord}
use Rattle.lift_base.specs.declared.history.Last.{Last as LastCommand}
use Rattle.lift_base.specs.declared.history.Record.TheVariants.{Row, Last, Done}
use Rattle.lift_base.specs.declared.history.Row.{Row as CallRow}
use Rattle.lift_register.specs.Register.{RegisterState, rows_of, last_of}

-- places for all cars and terminals; few open calls a car, each at its own car; and what it holds
-- can be written
pub record IsWellFormed (register : RegisterState) : Type 0 where
  pub row_count : length register.rows ≡ MOST_CARS
  pub last_count : length register.lasts ≡ MOST_TERMINALS
  pub own_cars : (car : ℕ) → All (λ (row : CallRow). row.car ≡ car) (rows_of register car)
  pub few_rows : (car : ℕ) → length (rows_of register car) ≤ MOST_ROWS
  pub rows : (car : ℕ) → All (λ (row : CallRow). IsRecord (Row row)) (rows_of register car)
  pub lasts : (terminal : ℕ) (last : LastCommand) → last_of register terminal ≡ Some last
      → IsRecord (Last terminal last)
  pub done : IsRecord (Done register.done)
