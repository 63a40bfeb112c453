-- A decision as a function, for a policy that leaves no choice.
use Rattle.std.specs.Prelude.{ℕ, List, if◌then◌else◌, Option, Some, None}
use Rattle.std.specs.Option.{option_map_or}
use Rattle.lift_base.specs.declared.history.Entry.TheVariants.{Allot}
use Rattle.lift_base.specs.declared.history.Content.{Content}
use Rattle.lift_base.specs.declared.history.Content.TheVariants.{Letter, Stopped as StoppedAt}
use Rattle.lift_base.specs.declared.history.Last.{Last}
use Rattle.lift_base.specs.declared.command.Body.{Body}
use Rattle.lift_base.specs.declared.command.Body.TheVariants.{Call, Stop, Place}
use Rattle.lift_base.specs.declared.command.Reason.{Reason}
use Rattle.lift_base.specs.declared.command.Reason.TheVariants.{NoCar, OtherBody}
use Rattle.lift_base.specs.declared.command.Reply.{Reply}
use Rattle.lift_base.specs.declared.command.Reply.TheVariants.{Car, Stopped, Placed, Refused}
use Rattle.lift_building.specs.Plan.{Plan}
use Rattle.lift_register.specs.Register.{last_of}
use Rattle.lift_cost.specs.declared.call.NewCall.{NewCall}
use Rattle.lift_policy.specs.Terminals.{kiosk_floor}
use Rattle.lift_policy.specs.View.{ViewState}
use Rattle.lift_policy.specs.Choices.{Measure, first_least, total_cost_at}
use Rattle.lift_policy.specs.Step.{State, view_of, first_cause, is_new, call_at, cars_for}
use Rattle.lift_policy.specs.Step.{accepting, with_car_at, stopping, next_from}

-- a reply, and the state after it
pub record Decision : Type 0 where
  pub reply : Reply
  pub next : State

-- the car that a policy picks of the eligible ones
abbrev pub Pick : Type 0
Pick = Plan → ViewState → NewCall → List ℕ → Option ℕ

abbrev pub refusing : State → Reason → Decision
refusing state reason = record { reply = Refused reason; next = state }

-- a new call goes to the car that was picked
abbrev pub allotting : Plan → State → ℕ → ℕ → ℕ → ℕ → Option ℕ → Decision
allotting plan state terminal number to party (Some car) =
    record {
      reply = Car car;
      next = accepting state (Allot terminal number (kiosk_floor plan terminal) to car party);
    }
allotting plan state terminal number to party None = refusing state NoCar

-- a repeated call gets its kept letter
abbrev pub repeating : State → Content → Decision
repeating state (Letter from to car party) = record { reply = Car car; next = state }
repeating state (StoppedAt floor dir) = refusing state OtherBody

-- a command without a cause of refusal
abbrev pub proceeding : Pick → Plan → State → ℕ → ℕ → Body → Decision
proceeding pick plan state terminal number (Call to party) =
    if is_new state terminal number
    then allotting plan state terminal number to party
    (pick plan (view_of state) (call_at plan terminal to party)
    (cars_for plan state terminal to party))
    else option_map_or (λ (l : Last). repeating state l.content) (last_of state.register terminal)
    (refusing state OtherBody)
proceeding pick plan state terminal number (Stop floor dir) =
    record {
      reply = Stopped
          (next_from (stopping state terminal number floor dir) terminal floor dir);
      next = stopping state terminal number floor dir;
    }
proceeding pick plan state terminal number (Place floor dir) =
    record {
      reply = Placed (next_from (with_car_at state terminal floor dir) terminal floor dir);
      next = with_car_at state terminal floor dir;
    }

abbrev pub decision_after : Option Reason → Pick → Plan → State → ℕ → ℕ → Body → Decision
decision_after (Some reason) pick plan state terminal number body = refusing state reason
decision_after None pick plan state terminal number body =
    proceeding pick plan state terminal number body

-- the decision on a command, where a policy picks so
abbrev pub decision_by : Pick → Plan → State → ℕ → ℕ → Body → Decision
decision_by pick plan state terminal number body =
    decision_after (first_cause plan state terminal number body) pick plan state terminal number body

-- the least measure; of several such, the lowest letter
abbrev pub least_pick : Measure → Pick
least_pick measure plan view call eligible = first_least (measure plan view call) eligible

-- that of the least total cost
abbrev pub etd_pick : Pick
etd_pick = least_pick total_cost_at
