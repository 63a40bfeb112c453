-- The names of a register that the contracts of the layers above cite, passed on from one place.
-- Declares nothing.
pub use Rattle.lift_register.specs.Register.{RegisterState, empty, cars, rows_of, last_of}
pub use Rattle.lift_register.specs.Register.{last_number, kept_of, waiting_row, register_of}
pub use Rattle.lift_register.specs.Fits.{Fits, FitFrom, persons_of}
pub use Rattle.lift_register.specs.Belongs.{BelongsTo}
pub use Rattle.lift_register.specs.Balanced.{open_count, IsBalanced}
pub use Rattle.lift_register.specs.WellFormed.{IsWellFormed}
