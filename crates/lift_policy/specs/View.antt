-- What a policy sees: the open calls, and where the cars are.
use Rattle.std.specs.Prelude.{ℕ, ◌≡◌, ◌<◌, List, map, Option, Some, None, option_map}
use Rattle.std.specs.Prelude.{slice_index_or}
use Rattle.lift_base.specs.declared.travel.Position.{Position}
use Rattle.lift_building.specs.Plan.{Plan}
use Rattle.lift_register.specs.Prelude.{RegisterState, rows_of, BelongsTo, IsWellFormed}
use Rattle.lift_stops.specs.Schedule.{ScheduleState}

pub record ViewState : Type 0 where
  pub register : RegisterState
  pub positions : List (Option Position)  -- where each car is, none before it has reported it

-- where a car is, if it has reported that
abbrev pub position_of : List (Option Position) → ℕ → Option Position
position_of positions car = slice_index_or positions car None

-- where the cars with schedules are
abbrev pub positions_of : List (Option ScheduleState) → List (Option Position)
positions_of schedules = map (option_map (λ (s : ScheduleState). s.position)) schedules

-- each schedule has its car's open calls
abbrev pub AreSchedulesOf : RegisterState → List (Option ScheduleState) → Type 0
AreSchedulesOf register schedules = (car : ℕ) (schedule : ScheduleState)
    → slice_index_or schedules car None ≡ Some schedule → schedule.rows ≡ rows_of register car

-- what can be seen in a building: a register of its calls, and cars at its floors
pub record IsViewIn (plan : Plan) (view : ViewState) : Type 0 where
  pub register : IsWellFormed view.register
  pub belongs : BelongsTo plan view.register
  pub here : (car : ℕ) (position : Position) → position_of view.positions car ≡ Some position
      → position.floor < plan.floors
