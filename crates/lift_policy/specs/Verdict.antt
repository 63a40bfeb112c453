-- What the rules make of a command, before a policy is asked.
use Rattle.std.specs.Prelude.{ℕ, ◌≡◌, true, false, [], ◌∷◌, find, Option, Some, None}
use Rattle.lift_base.specs.declared.history.Content.TheVariants.{Letter}
use Rattle.lift_base.specs.declared.command.Body.{Body}
use Rattle.lift_base.specs.declared.command.Body.TheVariants.{Call, Stop, Place}
use Rattle.lift_base.specs.declared.command.Reason.{Reason}
use Rattle.lift_base.specs.declared.command.Reason.TheVariants.{NoSuchFloor, SameFloor, OldNumber}
use Rattle.lift_base.specs.declared.command.Reason.TheVariants.{GapNumber, OtherBody, WrongKind}
use Rattle.lift_base.specs.declared.command.Reason.TheVariants.{NotServed}
use Rattle.lift_building.specs.Plan.{Plan}
use Rattle.lift_register.specs.Register.{last_of}
use Rattle.lift_policy.specs.Step.{State, has_cause, first_cause, is_new, call_at, cars_for}
use Rattle.lift_policy.specs.declared.verdict.Verdict.{Verdict}
use Rattle.lift_policy.specs.declared.verdict.Verdict.TheVariants.{Refused, Call as NewCall}
use Rattle.lift_policy.specs.declared.verdict.Verdict.TheVariants.{RepeatedCall, RepeatedStop}
use Rattle.lift_policy.specs.declared.verdict.Verdict.TheVariants.{Stop as NewStop, Place as Placed}

-- the first of the causes that are looked for before the cars are
abbrev pub cause_before_cars : Plan → State → ℕ → ℕ → Body → Option Reason
cause_before_cars plan state terminal number body =
    find (has_cause plan state terminal number body)
    (WrongKind ∷ NoSuchFloor ∷ NotServed ∷ SameFloor ∷ OtherBody ∷ OldNumber ∷ GapNumber ∷ [])

-- the cause for which a verdict refuses
abbrev pub cause_in : Verdict → Option Reason
cause_in (Refused reason) = Some reason
cause_in (NewCall call eligible) = None
cause_in (RepeatedCall car) = None
cause_in (NewStop car stop) = None
cause_in (RepeatedStop car position) = None
cause_in (Placed car position) = None

-- the command that a verdict is on, where it isn't refused: its body, whether its number is new, and
-- what is known of it
abbrev pub IsCaseOf : Plan → State → ℕ → ℕ → Body → Verdict → Type 0
IsCaseOf plan state terminal number body (Refused reason) = Unit {0}
IsCaseOf plan state terminal number body (NewCall call eligible) =
    (body ≡ Call call.to call.party) × (is_new state terminal number ≡ true)
    × (call ≡ call_at plan terminal call.to call.party)
    × (eligible ≡ cars_for plan state terminal call.to call.party)
IsCaseOf plan state terminal number body (RepeatedCall car) =
    (from to party : ℕ) × (body ≡ Call to party) × (is_new state terminal number ≡ false)
    × (last_of state.register terminal
    ≡ Some (record { number = number; content = Letter from to car party }))
IsCaseOf plan state terminal number body (NewStop car stop) =
    (body ≡ Stop stop.floor stop.dir) × (is_new state terminal number ≡ true) × (car ≡ terminal)
IsCaseOf plan state terminal number body (RepeatedStop car at) =
    (body ≡ Stop at.floor at.dir) × (is_new state terminal number ≡ false) × (car ≡ terminal)
IsCaseOf plan state terminal number body (Placed car at) =
    (body ≡ Place at.floor at.dir) × (car ≡ terminal)

-- what the rules make of a command: the first cause of its refusal, or else its case
pub record IsVerdict (plan : Plan) (state : State) (terminal number : ℕ) (body : Body)
    (verdict : Verdict) : Type 0 where
  pub cause : cause_in verdict ≡ first_cause plan state terminal number body
  pub case : IsCaseOf plan state terminal number body verdict
