-- What a decider holds: the building that it decides for, and what decisions read and change.
use Rattle.std.specs.Prelude.{◌≤◌, All, List, [], length, replicate, Option, None}
use Rattle.lift_base.specs.declared.limits.TheConstants.{MOST_CARS, MOST_ENTRIES}
use Rattle.lift_base.specs.declared.history.Record.TheVariants.{Entry as EntryRecord}
use Rattle.lift_base.specs.Records.{IsRecord}
use Rattle.lift_base.specs.declared.history.Entry.{Entry}
use Rattle.lift_building.specs.Plan.{Plan, IsBuilding}
use Rattle.lift_register.specs.Register.{RegisterState, empty}
use Rattle.lift_register.specs.Balanced.{IsBalanced}
use Rattle.lift_register.specs.Belongs.{BelongsTo}
use Rattle.lift_stops.specs.Schedule.{ScheduleState}
use Rattle.lift_policy.specs.Step.{State}
use Rattle.lift_policy.specs.View.{positions_of}
use Rattle.lift_policy.specs.Laws.{IsStateIn}

pub record DeciderState : Type 0 where
  pub plan : Plan
  pub state : State

-- what decisions read and change, of a register, the cars' schedules and the batch so far
abbrev pub state_of : RegisterState → List (Option ScheduleState) → List Entry → State
state_of register schedules batch =
    record { register = register; positions = positions_of schedules; batch = batch }

-- these calls; no car has reported where it is
abbrev pub starting : RegisterState → State
starting register = record { register = register; positions = replicate MOST_CARS None; batch = [] }

-- no calls, and no car has reported where it is
abbrev pub nothing : State
nothing = starting empty

-- entries that the journal may hold, as many as one batch may have
pub record IsBatch (entries : List Entry) : Type 0 where
  pub limit : length entries ≤ MOST_ENTRIES
  pub written : All (λ (e : Entry). IsRecord (EntryRecord e)) entries

-- no call of a register was lost, and it belongs to the building
pub record IsRegisterIn (plan : Plan) (register : RegisterState) : Type 0 where
  pub balanced : IsBalanced register
  pub belongs : BelongsTo plan register

-- what is true of each decider: what decisions read is possible in the building, and no call was
-- lost
pub record IsPossible (plan : Plan) (state : State) : Type 0 where
  pub building : IsBuilding plan
  pub inside : IsStateIn plan state
