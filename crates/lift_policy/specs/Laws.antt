-- What every decision keeps, under any policy.
use Rattle.std.specs.Prelude.{ℕ, ◌≡◌, ◌≢◌, ◌↔◌, ◌⊎◌, ◌<◌, ◌≤◌, true, List, [], ◌∷◌, ◌++◌, length}
use Rattle.std.specs.Prelude.{Some}
use Rattle.lift_base.specs.History.{terminal_of, number_of}
use Rattle.lift_base.specs.declared.history.Entry.{Entry}
use Rattle.lift_base.specs.Records.{IsTypedCommand}
use Rattle.lift_base.specs.declared.history.Content.TheVariants.{Letter, Stopped as StoppedAt}
use Rattle.lift_base.specs.declared.command.Body.{Body}
use Rattle.lift_base.specs.declared.command.Body.TheVariants.{Call, Stop, Place}
use Rattle.lift_base.specs.declared.command.Reason.{Reason}
use Rattle.lift_base.specs.declared.command.Reply.{Reply}
use Rattle.lift_base.specs.declared.command.Reply.TheVariants.{Car, Stopped, Refused, Unknown}
use Rattle.lift_building.specs.Plan.{Plan, IsBuilding}
use Rattle.lift_register.specs.Prelude.{RegisterState, last_of, kept_of, register_of, Fits}
use Rattle.lift_register.specs.Prelude.{IsBalanced}
use Rattle.lift_base.specs.declared.limits.TheConstants.{MOST_CARS, MOST_TERMINALS, TOP_FLOOR}
use Rattle.lift_policy.specs.declared.command.Command.{Command}
use Rattle.lift_policy.specs.Terminals.{kiosk_floor}
use Rattle.lift_policy.specs.View.{IsViewIn}
use Rattle.lift_policy.specs.Eligible.{Choice}
use Rattle.lift_policy.specs.Step.{State, Step, view_of, first_cause, is_same}
use Rattle.lift_policy.specs.Run.{Run}
use Rattle.lift_policy.specs.Decision.{Pick, decision_by}

-- this entry joins the register and the batch: it keeps this command, and it fits
pub record Joins (plan : Plan) (state : State) (terminal number : ℕ) (body : Body) (entry : Entry)
    (next : State) : Type 0 where
  pub of_terminal : terminal_of entry ≡ terminal
  pub of_number : number_of entry ≡ number
  pub says : is_same body (kept_of entry).content ≡ true
  pub fits : Fits plan state.register entry
  pub register : next.register ≡ register_of state.register (entry ∷ [])
  pub batch : next.batch ≡ state.batch ++ entry ∷ []

-- nothing joins
pub record JoinsNothing (state next : State) : Type 0 where
  pub register : next.register ≡ state.register
  pub batch : next.batch ≡ state.batch

-- one entry joins, or none
abbrev pub JoinsAtMostOne : Plan → State → ℕ → ℕ → Body → State → Type 0
JoinsAtMostOne plan state terminal number body next =
    JoinsNothing state next ⊎ ((entry : Entry) × Joins plan state terminal number body entry next)

-- what each decision of a policy adds
abbrev pub StepsJoinAtMostOne : Choice → Type 0
StepsJoinAtMostOne choice =
    (plan : Plan) (state : State) (terminal number : ℕ) (body : Body) (reply : Reply) (next : State)
    → Step plan choice state terminal number body reply next
    → JoinsAtMostOne plan state terminal number body next

-- the refused commands are those that have a cause, each refusal names the first, and nothing
-- changes
abbrev pub RefusalsAreFirstCauses : Choice → Type 0
RefusalsAreFirstCauses choice =
    (plan : Plan) (state : State) (terminal number : ℕ) (body : Body) (reason : Reason)
    (next : State)
    → Step plan choice state terminal number body (Refused reason) next
    ↔ ((first_cause plan state terminal number body ≡ Some reason) × (next ≡ state))

-- a decision is never answered Unknown
abbrev pub StepsAreKnown : Choice → Type 0
StepsAreKnown choice = (plan : Plan) (state : State) (terminal number : ℕ) (body : Body)
    (reply : Reply) (next : State)
    → Step plan choice state terminal number body reply next → reply ≢ Unknown

-- a body as its types hold it
abbrev pub IsTypedBody : Body → Type 0
IsTypedBody (Call floor party) = (floor ≤ TOP_FLOOR) × ((1 ≤ party) × (party ≤ 15))
IsTypedBody (Stop floor dir) = floor ≤ TOP_FLOOR
IsTypedBody (Place floor dir) = floor ≤ TOP_FLOOR

-- what the program's states are in a building: no call of the register was lost, and the 16 cars
-- stand at its floors
pub record IsStateIn (plan : Plan) (state : State) : Type 0 where
  pub possible : IsViewIn plan (view_of state)
  pub balanced : IsBalanced state.register
  pub cars : length state.positions ≡ MOST_CARS

-- each decision of a building makes such a state of such a state
abbrev pub StepsPreserveStates : Choice → Type 0
StepsPreserveStates choice =
    (plan : Plan) (state : State) (terminal number : ℕ) (body : Body) (reply : Reply) (next : State)
    → IsBuilding plan → IsTypedCommand terminal number → IsTypedBody body → IsStateIn plan state
    → Step plan choice state terminal number body reply next → IsStateIn plan next

-- a `Car` or a `Stopped`, new or repeated, answers the command that the register keeps as its
-- terminal's last
abbrev pub TellsLastCommand : Plan → RegisterState → ℕ → ℕ → Body → Reply → Type 0
TellsLastCommand plan register terminal number (Call to party) (Car car) =
    last_of register terminal
    ≡ Some (record {
      number = number;
      content = Letter (kiosk_floor plan terminal) to car party;
    })
TellsLastCommand plan register terminal number (Stop floor dir) (Stopped next) =
    last_of register terminal ≡ Some (record { number = number; content = StoppedAt floor dir })
TellsLastCommand plan register terminal number _ _ = Unit {0}

abbrev pub StepsTell : Choice → Type 0
StepsTell choice = (plan : Plan) (state : State) (terminal number : ℕ) (body : Body) (reply : Reply)
    (next : State)
    → terminal < MOST_TERMINALS → IsStateIn plan state → Step plan choice state terminal number body reply next
    → TellsLastCommand plan next.register terminal number body reply

-- the rules allow just the decision that is computed
abbrev pub StepsAreDecisions : Choice → Pick → Type 0
StepsAreDecisions choice pick =
    (plan : Plan) (state : State) (terminal number : ℕ) (body : Body) (reply : Reply) (next : State)
    → Step plan choice state terminal number body reply next
    ↔ ((reply ≡ (decision_by pick plan state terminal number body).reply)
    × (next ≡ (decision_by pick plan state terminal number body).next))

-- runs that meet join to a run
abbrev pub RunsJoin : Choice → Type 0
RunsJoin choice = (plan : Plan) (state mid next : State) (earlier later : List Command)
    (replies others : List Reply)
    → Run plan choice state earlier replies mid → Run plan choice mid later others next
    → Run plan choice state (earlier ++ later) (replies ++ others) next
