-- The refused commands are those that have a cause.
use Rattle.std.proofs.Common.{◌≡◌, ◌≢◌, ℕ, Bool, true, false, refl, sym, ap, ◌∙◌}
use Rattle.std.specs.Prelude.{Option, Some, None, MatchOption, MatchBool, ◌↔◌}
use Rattle.lift_base.specs.declared.command.Body.{Body}
use Rattle.lift_base.specs.declared.command.Body.TheVariants.{Call, Stop, Place}
use Rattle.lift_base.specs.declared.command.Reason.{Reason}
use Rattle.lift_base.specs.declared.command.Reply.{Reply}
use Rattle.lift_base.specs.declared.command.Reply.TheVariants.{Car, Stopped, Placed, Refused, Unknown}
use Rattle.lift_building.specs.Plan.{Plan}
use Rattle.lift_policy.specs.Eligible.{Choice}
use Rattle.lift_policy.specs.Step.{State, Step, Proceeds, Allots, Repeats, first_cause, is_new}
use Rattle.lift_policy.specs.lemmas.Steps.{HasStepped, has_stepped, Proceeded, WasRefused}

-- the replies to commands without a cause
abbrev IsAccepted : Reply → Bool
IsAccepted (Car car) = true
IsAccepted (Stopped next) = true
IsAccepted (Placed next) = true
IsAccepted (Refused reason) = false
IsAccepted Unknown = false

call_accepted : (plan : Plan) (choice : Choice) (state next : State) (terminal number to party : ℕ) (reply : Reply) (b : Bool)
    → MatchBool b (Allots plan choice state terminal number to party reply next) (Repeats state terminal number to party reply next)
    → IsAccepted reply ≡ true
call_accepted plan choice state next terminal number to party reply true (car, held, chosen, told, is) = ap IsAccepted told
call_accepted plan choice state next terminal number to party reply false (from, car, kept, told, is) = ap IsAccepted told

accepted : (plan : Plan) (choice : Choice) (state : State) (terminal number : ℕ) (body : Body) (reply : Reply) (next : State)
    → Proceeds plan choice state terminal number body reply next → IsAccepted reply ≡ true
accepted plan choice state terminal number (Call to party) reply next h = call_accepted plan choice state next terminal number to party reply (is_new state terminal number) h
accepted plan choice state terminal number (Stop floor dir) reply next h = ap IsAccepted h.1
accepted plan choice state terminal number (Place floor dir) reply next h = ap IsAccepted h.1

refused_by : (plan : Plan) (choice : Choice) (state : State) (terminal number : ℕ) (body : Body) (reply : Reply) (reason : Reason) (next : State)
    → reply ≡ Refused reason → HasStepped plan choice state terminal number body reply next
    → (first_cause plan state terminal number body ≡ Some reason) × (next ≡ state)
refused_by plan choice state terminal number body reply reason next e (Proceeded none h) =
    let a = accepted plan choice state terminal number body reply next h in
    let b = ap IsAccepted e in
    let c : true ≡ false = sym a ∙ b in absurd (cc)
refused_by plan choice state terminal number body reply reason next e (WasRefused other cause told is) =
    let r : other ≡ reason = cc in (cause ∙ ap (λ (x : Reason). Some x) r, is)

refuses : (plan : Plan) (choice : Choice) (state : State) (terminal number : ℕ) (body : Body) (reason : Reason) (next : State) (cause : Option Reason)
    → cause ≡ Some reason → next ≡ state
    → MatchOption cause (Proceeds plan choice state terminal number body (Refused reason) next) (λ r. (Refused reason ≡ Refused r) × (next ≡ state))
refuses plan choice state terminal number body reason next None e is = absurd (cc)
refuses plan choice state terminal number body reason next (Some other) e is = let r : other ≡ reason = cc in (ap (λ (x : Reason). Refused x) (sym r), is)

-- a refusal names the first cause and changes nothing, and each command with a cause is refused so
pub Step-refused : (plan : Plan) (choice : Choice) (state : State) (terminal number : ℕ) (body : Body) (reason : Reason) (next : State)
    → Step plan choice state terminal number body (Refused reason) next
    ↔ ((first_cause plan state terminal number body ≡ Some reason) × (next ≡ state))
Step-refused plan choice state terminal number body reason next = (
  λ h. refused_by plan choice state terminal number body (Refused reason) reason next refl (has_stepped plan choice state terminal number body (Refused reason) next h),
  λ h. refuses plan choice state terminal number body reason next (first_cause plan state terminal number body) h.0 h.1,
)

known_by : (plan : Plan) (choice : Choice) (state : State) (terminal number : ℕ) (body : Body) (reply : Reply) (next : State)
    → HasStepped plan choice state terminal number body reply next → reply ≡ Unknown → ⊥
known_by plan choice state terminal number body reply next (Proceeded none h) e =
    let a = accepted plan choice state terminal number body reply next h in
    let b = ap IsAccepted e in
    let c : true ≡ false = sym a ∙ b in absurd (cc)
known_by plan choice state terminal number body reply next (WasRefused other cause told is) e = absurd (cc)

pub Step-known : (plan : Plan) (choice : Choice) (state : State) (terminal number : ℕ) (body : Body) (reply : Reply) (next : State)
    → Step plan choice state terminal number body reply next → reply ≢ Unknown
Step-known plan choice state terminal number body reply next h = known_by plan choice state terminal number body reply next (has_stepped plan choice state terminal number body reply next h)
