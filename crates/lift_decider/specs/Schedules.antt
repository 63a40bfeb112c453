-- A car's schedule, which has the car's open calls, and how it changes.
use Rattle.std.specs.Prelude.{◌≡◌, ℕ, [], ◌∷◌, ◌++◌, Option, option_map, IfSome}
use Rattle.std.specs.List.{flat_map}
use Rattle.lift_base.specs.History.{row_after}
use Rattle.lift_base.specs.declared.history.Row.{Row}
use Rattle.lift_base.specs.declared.travel.Position.{Position}
use Rattle.lift_base.specs.declared.travel.Stop.{Stop}
use Rattle.lift_register.specs.Register.{RegisterState, rows_of}
use Rattle.lift_stops.specs.Schedule.{ScheduleState}

-- the schedule of a car that stands there
abbrev pub schedule_at : RegisterState → ℕ → Position → ScheduleState
schedule_at register car position = record { position = position; rows = rows_of register car }

-- with one call more, where there is one
abbrev pub with_row : Row → Option ScheduleState → Option ScheduleState
with_row row o = option_map (λ (s : ScheduleState). record s { rows = s.rows ++ row ∷ [] }) o

-- if there is one, it has the car's open calls
abbrev pub HasRows : RegisterState → ℕ → Option ScheduleState → Type 0
HasRows register car o = IfSome o (λ (s : ScheduleState). s.rows ≡ rows_of register car)

-- if there is one, it has them once the car has made this stop
abbrev pub HasRowsAfter : Stop → RegisterState → ℕ → Option ScheduleState → Type 0
HasRowsAfter stop register car o =
    IfSome o (λ (s : ScheduleState). flat_map (row_after stop) s.rows ≡ rows_of register car)
