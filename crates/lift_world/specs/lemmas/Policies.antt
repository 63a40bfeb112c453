-- A decision under any policy is one under the policy that may name any eligible car.
use Rattle.std.proofs.Common.{ℕ, ◌≡◌, Bool, true, false, [], ◌∷◌, Option, Some, None}
use Rattle.std.specs.Prelude.{MatchBool, MatchOption}
use Rattle.lift_base.specs.declared.command.Body.{Body}
use Rattle.lift_base.specs.declared.command.Body.TheVariants.{Call, Stop, Place}
use Rattle.lift_base.specs.declared.command.Reason.{Reason}
use Rattle.lift_base.specs.declared.command.Reply.{Reply}
use Rattle.lift_base.specs.declared.command.Reply.TheVariants.{Refused}
use Rattle.lift_building.specs.Plan.{Plan}
use Rattle.lift_policy.specs.Eligible.{Choice, any_eligible}
use Rattle.lift_policy.specs.Step.{State, Proceeds, Allots, Repeats, first_cause, is_new}
use Rattle.lift_world.specs.Policies.{StepsAreAny, RunsAreAny}

module _ (choice : Choice) (plan : Plan) (state : State) (terminal number : ℕ) where
  call_any : (to party : ℕ) (reply : Reply) (next : State) (b : Bool)
      → MatchBool b (Allots plan choice state terminal number to party reply next)
      (Repeats state terminal number to party reply next)
      → MatchBool b (Allots plan any_eligible state terminal number to party reply next)
      (Repeats state terminal number to party reply next)
  call_any to party reply next true h = (h.0, h.1, tt, h.3, h.4)
  call_any to party reply next false h = h

  proceeds_any : (body : Body) (reply : Reply) (next : State)
      → Proceeds plan choice state terminal number body reply next
      → Proceeds plan any_eligible state terminal number body reply next
  proceeds_any (Call to party) reply next h =
      call_any to party reply next (is_new state terminal number) h
  proceeds_any (Stop floor dir) reply next h = h
  proceeds_any (Place floor dir) reply next h = h

  step_any : (body : Body) (reply : Reply) (next : State) (o : Option Reason)
      → MatchOption o (Proceeds plan choice state terminal number body reply next) (λ reason.
      (reply ≡ Refused reason) × (next ≡ state))
      → MatchOption o (Proceeds plan any_eligible state terminal number body reply next) (λ reason.
      (reply ≡ Refused reason) × (next ≡ state))
  step_any body reply next None h = proceeds_any body reply next h
  step_any body reply next (Some reason) h = h

pub steps_are_any : (choice : Choice) → StepsAreAny choice
steps_are_any choice plan state terminal number body reply next h =
    step_any choice plan state terminal number body reply next
    (first_cause plan state terminal number body) h

pub runs_are_any : (choice : Choice) → RunsAreAny choice
runs_are_any choice plan state [] [] next r = r
runs_are_any choice plan state [] (reply ∷ replies) next r = absurd r
runs_are_any choice plan state (c ∷ commands) [] next r = absurd r
runs_are_any choice plan state (c ∷ commands) (reply ∷ replies) next r = (
  r.0,
  steps_are_any choice plan state c.terminal c.number c.body reply r.0 r.1,
  runs_are_any
      choice plan r.0 commands replies next r.2,
)
