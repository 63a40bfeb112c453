-- What a decision is, cause by cause.
use Rattle.std.proofs.Common.{◌≡◌, ℕ, ◌+◌, ◌≤◌, Bool, true, false, not, ◌&&◌, ◌||◌, cond, eqb, ltb}
use Rattle.std.proofs.Common.{leb, refl, sym, ap, ◌∙◌, arith}
use Rattle.std.specs.Prelude.{Option, Some, None, MatchOption}
use Rattle.std.specs.Option.{option_map_or}
use Rattle.std.proofs.lemmas.Bool.{both_ways, or_parts, and_from, ltb-false, eqb-false, le-leb}
use Rattle.std.proofs.lemmas.Bool.{eq-eqb}
use Rattle.lift_base.specs.declared.history.Last.{Last}
use Rattle.lift_base.specs.declared.command.Body.{Body}
use Rattle.lift_base.specs.declared.command.Body.TheVariants.{Call, Stop, Place}
use Rattle.lift_base.specs.declared.command.Reason.{Reason}
use Rattle.lift_base.specs.declared.command.Reason.TheVariants.{NoSuchFloor, SameFloor, NoCar}
use Rattle.lift_base.specs.declared.command.Reason.TheVariants.{OldNumber, GapNumber, OtherBody}
use Rattle.lift_base.specs.declared.command.Reason.TheVariants.{WrongKind, NotServed}
use Rattle.lift_base.specs.declared.command.Reply.{Reply}
use Rattle.lift_base.specs.declared.command.Reply.TheVariants.{Refused}
use Rattle.lift_building.specs.Plan.{Plan}
use Rattle.lift_register.specs.Register.{last_of, last_number}
use Rattle.lift_policy.specs.Eligible.{Choice}
use Rattle.lift_policy.specs.Step.{State, Step, Proceeds, has_cause, first_cause, is_new, is_same}
use Rattle.lift_policy.specs.Step.{is_numbered}

none_both : {X : Type 0} (b : Bool) (x : X) (rest : Option X) → cond b (Some x) rest ≡ None
    → (b ≡ false) × (rest ≡ None)
none_both true x rest h = cc
none_both false x rest h = (refl, h)

-- what is known where there is no cause of refusal
pub record NoCause (plan : Plan) (state : State) (terminal number : ℕ) (body : Body) : Type 0 where
  pub kind : has_cause plan state terminal number body WrongKind ≡ false
  pub floor : has_cause plan state terminal number body NoSuchFloor ≡ false
  pub served : has_cause plan state terminal number body NotServed ≡ false
  pub same : has_cause plan state terminal number body SameFloor ≡ false
  pub other : has_cause plan state terminal number body OtherBody ≡ false
  pub old : has_cause plan state terminal number body OldNumber ≡ false
  pub gap : has_cause plan state terminal number body GapNumber ≡ false
  pub car : has_cause plan state terminal number body NoCar ≡ false

pub no_cause : (plan : Plan) (state : State) (terminal number : ℕ) (body : Body)
    → first_cause plan state terminal number body ≡ None → NoCause plan state terminal number body
no_cause plan state terminal number body h =
    let a = none_both (has_cause plan state terminal number body WrongKind) _ _ h in
    let b = none_both (has_cause plan state terminal number body NoSuchFloor) _ _ a.1 in
    let c = none_both (has_cause plan state terminal number body NotServed) _ _ b.1 in
    let d = none_both (has_cause plan state terminal number body SameFloor) _ _ c.1 in
    let e = none_both (has_cause plan state terminal number body OtherBody) _ _ d.1 in
    let f = none_both (has_cause plan state terminal number body OldNumber) _ _ e.1 in
    let g = none_both (has_cause plan state terminal number body GapNumber) _ _ f.1 in
    let i = none_both (has_cause plan state terminal number body NoCar) _ _ g.1 in
    record {
      kind = a.0;
      floor = b.0;
      served = c.0;
      same = d.0;
      other = e.0;
      old = f.0;
      gap = g.0;
      car = i.0;
    }

-- a decision either proceeds without a cause, or is refused for the first one
pub data HasStepped (plan : Plan) (choice : Choice) (state : State) (terminal number : ℕ)
    (body : Body) (reply : Reply) (next : State) : Type 1 where
  Proceeded : first_cause plan state terminal number body ≡ None
      → Proceeds plan choice state terminal number body reply next
      → HasStepped plan choice state terminal number body reply next
  WasRefused : (reason : Reason) → first_cause plan state terminal number body ≡ Some reason
      → reply ≡ Refused reason → next ≡ state
      → HasStepped plan choice state terminal number body reply next

stepped_by : (plan : Plan) (choice : Choice) (state : State) (terminal number : ℕ) (body : Body)
    (reply : Reply) (next : State) (cause : Option Reason)
    → first_cause plan state terminal number body ≡ cause
    → MatchOption cause (Proceeds plan choice state terminal number body reply next) (λ reason.
    (reply ≡ Refused reason) × (next ≡ state))
    → HasStepped plan choice state terminal number body reply next
stepped_by plan choice state terminal number body reply next None is h = Proceeded is h
stepped_by plan choice state terminal number body reply next (Some reason) is h =
    WasRefused reason is h.0 h.1

pub has_stepped : (plan : Plan) (choice : Choice) (state : State) (terminal number : ℕ)
    (body : Body) (reply : Reply) (next : State)
    → Step plan choice state terminal number body reply next
    → HasStepped plan choice state terminal number body reply next
has_stepped plan choice state terminal number body reply next h =
    stepped_by plan choice state terminal number body reply next
    (first_cause plan state terminal number body) refl h

-- a number that is neither old nor beyond the next, nor the next, is the last one
pub is_last : (n last : ℕ) → (eqb n 0 || ltb n last) ≡ false → ltb (last + 1) n ≡ false
    → eqb n (last + 1) ≡ false → (n ≡ last) × (1 ≤ n)
is_last n last old gap new =
    let o = or_parts (eqb n 0) (ltb n last) old in
    let a : n ≡ 0 → ⊥ = eqb-false n 0 o.0 in
    let b : last ≤ n = ltb-false n last o.1 in
    let c : n ≤ last + 1 = ltb-false (last + 1) n gap in
    let d : n ≡ last + 1 → ⊥ = eqb-false n (last + 1) new in
    (omega arith, omega arith)

-- no other body, at the last number
pub kept_at : (n last : ℕ) (k : Bool) → (leb 1 n && eqb n last && not k) ≡ false → n ≡ last → 1 ≤ n
    → k ≡ true
kept_at n last true h e p = refl
kept_at n last false h e p =
    absurd (both_ways (leb 1 n && eqb n last && true) h
    (and_from (leb 1 n && eqb n last) true
    (and_from (leb 1 n) (eqb n last) (le-leb 1 n p) (eq-eqb n last e)) refl))

pub kept_some : (o : Option Last) (body : Body)
    → option_map_or (λ (l : Last). is_same body l.content) o false ≡ true
    → (l : Last) × (o ≡ Some l) × (is_same body l.content ≡ true)
kept_some None body h = cc
kept_some (Some l) body h = (l, refl, h)

-- a repeated command: what was kept at its number says what it says
pub record IsRepeat (state : State) (terminal number : ℕ) (body : Body) : Type 0 where
  pub last : Last
  pub found : last_of state.register terminal ≡ Some last
  pub number_is : last.number ≡ number
  pub same : is_same body last.content ≡ true

repeat_from : (state : State) (terminal number : ℕ) (body : Body)
    → number ≡ last_number state.register terminal
    → (l : Last) × (last_of state.register terminal ≡ Some l) × (is_same body l.content ≡ true)
    → IsRepeat state terminal number body
repeat_from state terminal number body e (l, found, same) = record {
  last = l;
  found = found;
  number_is = sym (e ∙ ap (λ (o : Option Last). option_map_or (λ (k : Last). k.number) o 0) found);
  same = same;
}

-- a numbered command that has no cause and isn't new is a repeat
pub repeated : (plan : Plan) (state : State) (terminal number : ℕ) (body : Body)
    → is_numbered body ≡ true → NoCause plan state terminal number body
    → is_new state terminal number ≡ false → IsRepeat state terminal number body
repeated plan state terminal number (Call to party) numbered none new =
    let last = is_last number (last_number state.register terminal) none.old none.gap new in
    repeat_from state terminal number (Call to party) last.0
    (kept_some (last_of state.register terminal) (Call to party)
    (kept_at number (last_number state.register terminal) _ none.other last.0 last.1))
repeated plan state terminal number (Stop floor dir) numbered none new =
    let last = is_last number (last_number state.register terminal) none.old none.gap new in
    repeat_from state terminal number (Stop floor dir) last.0
    (kept_some (last_of state.register terminal) (Stop floor dir)
    (kept_at number (last_number state.register terminal) _ none.other last.0 last.1))
repeated plan state terminal number (Place floor dir) numbered none new = cc
