-- For a policy that leaves no choice, a decision is what its function computes.
use Rattle.std.proofs.Common.{◌≡◌, ℕ, zero, suc, ◌<◌, ◌↔◌, Bool, true, false, ◌&&◌, cond, eqb, List, length, refl, sym, ap, subst, ◌∙◌, arith}
use Rattle.std.specs.Prelude.{Contains, Option, Some, None, IsSome, MatchOption, MatchBool}
use Rattle.std.specs.Option.{option_map_or}
use Rattle.std.proofs.lemmas.Bool.{and_parts, eqb-true}
use Rattle.lift_base.specs.declared.history.Content.{Content}
use Rattle.lift_base.specs.declared.history.Content.TheVariants.{Letter, Stopped as StoppedAt}
use Rattle.lift_base.specs.declared.history.Last.{Last}
use Rattle.lift_base.specs.declared.command.Body.{Body}
use Rattle.lift_base.specs.declared.command.Body.TheVariants.{Call, Stop, Place}
use Rattle.lift_base.specs.declared.command.Reason.{Reason}
use Rattle.lift_base.specs.declared.command.Reason.TheVariants.{OtherBody}
use Rattle.lift_base.specs.declared.command.Reply.{Reply}
use Rattle.lift_base.specs.declared.command.Reply.TheVariants.{Car, Stopped, Placed, Refused}
use Rattle.lift_building.specs.Plan.{Plan}
use Rattle.lift_register.specs.Register.{last_of}
use Rattle.lift_policy.specs.Eligible.{Rise, Choice}
use Rattle.lift_policy.specs.Step.{State, Step, Proceeds, Allots, Repeats, view_of, call_at, cars_for, first_cause, is_new, is_same, next_from}
use Rattle.lift_policy.specs.Decision.{Decision, Pick, least_pick, refusing, allotting, repeating, proceeding, decision_after, decision_by}
use Rattle.lift_cost.specs.declared.call.NewCall.{NewCall}
use Rattle.lift_policy.specs.View.{ViewState}
use Rattle.lift_policy.specs.Choices.{Measure, PicksLeast}
use Rattle.lift_policy.proofs.Picks.{first_least-exact, first_least-some, first_least-member}
use Rattle.lift_policy.proofs.Letters.{eligible_cars-rise}
use Rattle.lift_policy.specs.lemmas.Steps.{NoCause, no_cause, IsRepeat, repeated, HasStepped, has_stepped, Proceeded, WasRefused}

-- a policy that leaves no choice: of eligible cars it may name just the one that a pick gives, and
-- a pick of some cars is one of them
pub record IsPickedBy (choice : Choice) (pick : Pick) : Type 0 where
  pub exact : (plan : Plan) (view : ViewState) (call : NewCall) (eligible : List ℕ) (car : ℕ)
      → Rise 0 eligible
      → choice plan view call eligible car ↔ (pick plan view call eligible ≡ Some car)
  pub some : (plan : Plan) (view : ViewState) (call : NewCall) (eligible : List ℕ)
      → 0 < length eligible
      → IsSome (pick plan view call eligible)
  pub member : (plan : Plan) (view : ViewState) (call : NewCall) (eligible : List ℕ) (car : ℕ)
      → pick plan view call eligible ≡ Some car → Contains eligible car

-- the reply and the state after it are a decision's
abbrev Carries : Decision → Reply → State → Type 0
Carries d reply next = (reply ≡ d.reply) × (next ≡ d.next)

carries : (d e : Decision) (reply : Reply) (next : State) → d ≡ e → Carries d reply next → Carries e reply next
carries d e reply next is h = (h.0 ∙ ap (λ (x : Decision). x.reply) is, h.1 ∙ ap (λ (x : Decision). x.next) is)

rising : (plan : Plan) (state : State) (terminal to party : ℕ) → Rise 0 (cars_for plan state terminal to party)
rising plan state terminal to party = eligible_cars-rise plan (view_of state) (call_at plan terminal to party)

-- what is computed for a call without a cause
abbrev call_decision : Pick → Plan → State → ℕ → ℕ → ℕ → ℕ → Bool → Decision
call_decision pick plan state terminal number to party b =
    cond b (allotting plan state terminal number to party (pick plan (view_of state) (call_at plan terminal to party) (cars_for plan state terminal to party)))
    (option_map_or (λ (l : Last). repeating state l.content) (last_of state.register terminal) (refusing state OtherBody))

call_computes : (plan : Plan) (choice : Choice) (pick : Pick) → IsPickedBy choice pick → (state next : State) (terminal number to party : ℕ) (reply : Reply) (b : Bool)
    → MatchBool b (Allots plan choice state terminal number to party reply next) (Repeats state terminal number to party reply next)
    → Carries (call_decision pick plan state terminal number to party b) reply next
call_computes plan choice pick picked state next terminal number to party reply true (car, held, chosen, told, is) =
    let e = (picked.exact plan (view_of state) (call_at plan terminal to party) (cars_for plan state terminal to party) car (rising plan state terminal to party)).0 chosen in
    carries (allotting plan state terminal number to party (Some car)) _ reply next (sym (ap (allotting plan state terminal number to party) e)) (told, is)
call_computes plan choice pick picked state next terminal number to party reply false (from, car, kept, told, is) =
    carries (record { reply = Car car; next = state }) _ reply next
    (sym (ap (λ (o : Option Last). option_map_or (λ (l : Last). repeating state l.content) o (refusing state OtherBody)) kept)) (told, is)

computes : (plan : Plan) (choice : Choice) (pick : Pick) → IsPickedBy choice pick → (state : State) (terminal number : ℕ) (body : Body) (reply : Reply) (next : State)
    → Proceeds plan choice state terminal number body reply next → Carries (proceeding pick plan state terminal number body) reply next
computes plan choice pick picked state terminal number (Call to party) reply next h =
    call_computes plan choice pick picked state next terminal number to party reply (is_new state terminal number) h
computes plan choice pick picked state terminal number (Stop floor dir) reply next h =
    (h.1 ∙ ap (λ (s : State). Stopped (next_from s terminal floor dir)) h.0, h.0)
computes plan choice pick picked state terminal number (Place floor dir) reply next h =
    (h.1 ∙ ap (λ (s : State). Placed (next_from s terminal floor dir)) h.0, h.0)

stepped_computes : (plan : Plan) (choice : Choice) (pick : Pick) → IsPickedBy choice pick → (state : State) (terminal number : ℕ) (body : Body) (reply : Reply) (next : State)
    → HasStepped plan choice state terminal number body reply next → Carries (decision_by pick plan state terminal number body) reply next
stepped_computes plan choice pick picked state terminal number body reply next (Proceeded none h) =
    carries (proceeding pick plan state terminal number body) _ reply next
    (sym (ap (λ (c : Option Reason). decision_after c pick plan state terminal number body) none)) (computes plan choice pick picked state terminal number body reply next h)
stepped_computes plan choice pick picked state terminal number body reply next (WasRefused reason cause told is) =
    carries (refusing state reason) _ reply next
    (sym (ap (λ (c : Option Reason). decision_after c pick plan state terminal number body) cause)) (told, is)

some_car : (n : ℕ) (new : Bool) → new ≡ true → (new && eqb n 0) ≡ false → 0 < n
some_car zero true e h = cc
some_car zero false e h = cc
some_car (suc n) new e h = omega arith

allots : (plan : Plan) (choice : Choice) (pick : Pick) → IsPickedBy choice pick → (state next : State) (terminal number to party : ℕ) (reply : Reply) (found : Option ℕ)
    → pick plan (view_of state) (call_at plan terminal to party) (cars_for plan state terminal to party) ≡ found → IsSome found
    → Carries (allotting plan state terminal number to party found) reply next → Allots plan choice state terminal number to party reply next
allots plan choice pick picked state next terminal number to party reply None is some h = cc
allots plan choice pick picked state next terminal number to party reply (Some car) is some h = (
  car,
  picked.member plan (view_of state) (call_at plan terminal to party) (cars_for plan state terminal to party) car is,
  (picked.exact plan (view_of state) (call_at plan terminal to party) (cars_for plan state terminal to party) car (rising plan state terminal to party)).1 is,
  h.0,
  h.1,
)

kept_call : (state next : State) (terminal number to party : ℕ) (reply : Reply) (n : ℕ) (content : Content)
    → last_of state.register terminal ≡ Some (record { number = n; content = content }) → n ≡ number → is_same (Call to party) content ≡ true
    → Carries (repeating state content) reply next → Repeats state terminal number to party reply next
kept_call state next terminal number to party reply n (Letter from t car persons) found e same h =
    let parts = and_parts (eqb t to) (eqb persons party) same in
    let a : t ≡ to = eqb-true t to parts.0 in
    let b : persons ≡ party = eqb-true persons party parts.1 in
    let P : Last → Type 0 = λ l. last_of state.register terminal ≡ Some l in
    let is : last_of state.register terminal ≡ Some (record { number = number; content = Letter from to car party }) = cc in
    (from, car, is, h.0, h.1)
kept_call state next terminal number to party reply n (StoppedAt floor dir) found e same h = cc

repeats : (state next : State) (terminal number to party : ℕ) (reply : Reply) → IsRepeat state terminal number (Call to party)
    → Carries (option_map_or (λ (l : Last). repeating state l.content) (last_of state.register terminal) (refusing state OtherBody)) reply next
    → Repeats state terminal number to party reply next
repeats state next terminal number to party reply again h =
    kept_call state next terminal number to party reply again.last.number again.last.content again.found again.number_is again.same
    (carries _ (repeating state again.last.content) reply next
    (ap (λ (o : Option Last). option_map_or (λ (l : Last). repeating state l.content) o (refusing state OtherBody)) again.found) h)

call_steps : (plan : Plan) (choice : Choice) (pick : Pick) → IsPickedBy choice pick → (state next : State) (terminal number to party : ℕ) (reply : Reply) (b : Bool)
    → is_new state terminal number ≡ b → NoCause plan state terminal number (Call to party)
    → Carries (call_decision pick plan state terminal number to party b) reply next
    → MatchBool b (Allots plan choice state terminal number to party reply next) (Repeats state terminal number to party reply next)
call_steps plan choice pick picked state next terminal number to party reply true new none h =
    allots plan choice pick picked state next terminal number to party reply _ refl
    (picked.some plan (view_of state) (call_at plan terminal to party) (cars_for plan state terminal to party)
    (some_car (length (cars_for plan state terminal to party)) (is_new state terminal number) new none.car)) h
call_steps plan choice pick picked state next terminal number to party reply false new none h =
    repeats state next terminal number to party reply (repeated plan state terminal number (Call to party) refl none new) h

steps : (plan : Plan) (choice : Choice) (pick : Pick) → IsPickedBy choice pick → (state : State) (terminal number : ℕ) (body : Body) (reply : Reply) (next : State)
    → NoCause plan state terminal number body → Carries (proceeding pick plan state terminal number body) reply next
    → Proceeds plan choice state terminal number body reply next
steps plan choice pick picked state terminal number (Call to party) reply next none h =
    call_steps plan choice pick picked state next terminal number to party reply (is_new state terminal number) refl none h
steps plan choice pick picked state terminal number (Stop floor dir) reply next none h =
    (h.1, h.0 ∙ ap (λ (s : State). Stopped (next_from s terminal floor dir)) (sym h.1))
steps plan choice pick picked state terminal number (Place floor dir) reply next none h =
    (h.1, h.0 ∙ ap (λ (s : State). Placed (next_from s terminal floor dir)) (sym h.1))

decided_steps : (plan : Plan) (choice : Choice) (pick : Pick) → IsPickedBy choice pick → (state : State) (terminal number : ℕ) (body : Body) (reply : Reply) (next : State) (cause : Option Reason)
    → first_cause plan state terminal number body ≡ cause → Carries (decision_after cause pick plan state terminal number body) reply next
    → MatchOption cause (Proceeds plan choice state terminal number body reply next) (λ reason. (reply ≡ Refused reason) × (next ≡ state))
decided_steps plan choice pick picked state terminal number body reply next None none h =
    steps plan choice pick picked state terminal number body reply next (no_cause plan state terminal number body none) h
decided_steps plan choice pick picked state terminal number body reply next (Some reason) cause h = (h.0, h.1)

pub Step-decision : (choice : Choice) (pick : Pick) → IsPickedBy choice pick → (plan : Plan) (state : State) (terminal number : ℕ) (body : Body) (reply : Reply) (next : State)
    → Step plan choice state terminal number body reply next
    ↔ ((reply ≡ (decision_by pick plan state terminal number body).reply) × (next ≡ (decision_by pick plan state terminal number body).next))
Step-decision choice pick picked plan state terminal number body reply next = (
  λ h. stepped_computes plan choice pick picked state terminal number body reply next (has_stepped plan choice state terminal number body reply next h),
  λ h. decided_steps plan choice pick picked state terminal number body reply next (first_cause plan state terminal number body) refl h,
)

-- who picks the least leaves no choice
pub least_picked : (measure : Measure) → IsPickedBy (PicksLeast measure) (least_pick measure)
least_picked measure = record {
  exact = λ plan view call eligible car rising. first_least-exact (measure plan view call) 0 eligible car rising;
  some = λ plan view call eligible h. first_least-some (measure plan view call) eligible h;
  member = λ plan view call eligible car h. first_least-member (measure plan view call) eligible car h;
}
