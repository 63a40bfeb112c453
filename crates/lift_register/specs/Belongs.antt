-- What a register is that fitting records and entries of one building make.
use Rattle.std.specs.Prelude.{ℕ, ◌≡◌, ◌≤◌, All, Some}
use Rattle.lift_building.specs.Plan.{Plan, places_of}
use Rattle.lift_base.specs.declared.history.Last.{Last}
use Rattle.lift_base.specs.declared.history.Row.{Row}
use Rattle.lift_register.specs.Register.{RegisterState, rows_of, last_of}
use Rattle.lift_register.specs.Fits.{IsPossibleCall, IsPossibleLast, persons_of}

-- the building allows its calls and its last commands, and no car has more persons than places
pub record BelongsTo (plan : Plan) (register : RegisterState) : Type 0 where
  pub rows : (car : ℕ)
      → All (λ (row : Row). IsPossibleCall plan row.kiosk row.from row.to car)
      (rows_of register car)
  pub places : (car : ℕ) → persons_of (rows_of register car) ≤ places_of plan car
  pub lasts : (terminal : ℕ) (last : Last) → last_of register terminal ≡ Some last
      → IsPossibleLast plan terminal last.content
