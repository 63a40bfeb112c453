-- What a command is that has none of the causes that are looked for before the cars are.
use Rattle.std.proofs.Common.{◌≡◌, ℕ, Bool, true, false, ◌&&◌, ◌==◌, not, ◌+◌, cond, List, [], ◌∷◌, ◌++◌, length, refl, sym, ap, ◌∙◌}
use Rattle.std.specs.Prelude.{Option, Some, None, find}
use Rattle.std.proofs.Math.Dec.{eqb-suc-zero}
use Rattle.std.proofs.lemmas.Bool.{and_parts, eqb-true}
use Rattle.lift_base.specs.declared.travel.Dir.{Dir}
use Rattle.lift_base.specs.declared.history.Content.{Content}
use Rattle.lift_base.specs.declared.history.Content.TheVariants.{Letter, Stopped}
use Rattle.lift_base.specs.declared.history.Last.{Last}
use Rattle.lift_base.specs.declared.command.Body.{Body}
use Rattle.lift_base.specs.declared.command.Body.TheVariants.{Call, Stop, Place}
use Rattle.lift_base.specs.declared.command.Reason.{Reason}
use Rattle.lift_base.specs.declared.command.Reason.TheVariants.{NoSuchFloor, SameFloor, NoCar, OldNumber, GapNumber, OtherBody, WrongKind, NotServed}
use Rattle.lift_building.specs.Plan.{Plan}
use Rattle.lift_register.specs.Register.{RegisterState, last_of, last_number}
use Rattle.lift_policy.specs.Terminals.{has_car, has_kiosk}
use Rattle.lift_policy.specs.Step.{State, has_cause, first_cause, is_new, is_same, lacks_car}
use Rattle.lift_policy.specs.Verdict.{cause_before_cars}
use Rattle.lift_policy.specs.lemmas.Steps.{no_cause, repeated}

found_before : (p : Reason → Bool) (xs ys : List Reason) (r : Reason) → find p xs ≡ Some r → find p (xs ++ ys) ≡ Some r
found_before p [] ys r h = cc
found_before p (x ∷ xs) ys r h = at (p x) h (found_before p xs ys r)
  where
    at : (b : Bool) → cond b (Some x) (find p xs) ≡ Some r → (find p xs ≡ Some r → find p (xs ++ ys) ≡ Some r) → cond b (Some x) (find p (xs ++ ys)) ≡ Some r
    at true h later = h
    at false h later = later h

found_after : (p : Reason → Bool) (xs ys : List Reason) → find p xs ≡ None → find p (xs ++ ys) ≡ find p ys
found_after p [] ys h = refl
found_after p (x ∷ xs) ys h = at (p x) h (found_after p xs ys)
  where
    at : (b : Bool) → cond b (Some x) (find p xs) ≡ None → (find p xs ≡ None → find p (xs ++ ys) ≡ find p ys) → cond b (Some x) (find p (xs ++ ys)) ≡ find p ys
    at true h later = cc
    at false h later = later h

-- such a cause is the first one
pub caused_before : (plan : Plan) (state : State) (terminal number : ℕ) (body : Body) (reason : Reason)
    → Some reason ≡ cause_before_cars plan state terminal number body → Some reason ≡ first_cause plan state terminal number body
caused_before plan state terminal number body reason h =
    sym (found_before (has_cause plan state terminal number body) (WrongKind ∷ NoSuchFloor ∷ NotServed ∷ SameFloor ∷ OtherBody ∷ OldNumber ∷ GapNumber ∷ []) (NoCar ∷ []) reason (sym h))

-- without one, there is no cause but a lack of cars
pub caused_by_cars : (plan : Plan) (state : State) (terminal number : ℕ) (body : Body) (lacks : Bool)
    → cause_before_cars plan state terminal number body ≡ None → has_cause plan state terminal number body NoCar ≡ lacks
    → first_cause plan state terminal number body ≡ cond lacks (Some NoCar) None
caused_by_cars plan state terminal number body lacks h is =
    found_after (has_cause plan state terminal number body) (WrongKind ∷ NoSuchFloor ∷ NotServed ∷ SameFloor ∷ OtherBody ∷ OldNumber ∷ GapNumber ∷ []) (NoCar ∷ []) h
    ∙ ap (λ (b : Bool). cond b (Some NoCar) None) is

not_both : (b : Bool) → not b ≡ false → b ≡ true
not_both true h = refl
not_both false h = cc

and_false : (b : Bool) → (b && false) ≡ false
and_false true = refl
and_false false = refl

-- a stop without one has no cause
pub stop_clear : (plan : Plan) (state : State) (terminal number floor : ℕ) (dir : Dir)
    → cause_before_cars plan state terminal number (Stop floor dir) ≡ None → first_cause plan state terminal number (Stop floor dir) ≡ None
stop_clear plan state terminal number floor dir h = caused_by_cars plan state terminal number (Stop floor dir) false h (and_false (is_new state terminal number))

-- so has a place
pub place_clear : (plan : Plan) (state : State) (terminal number floor : ℕ) (dir : Dir)
    → cause_before_cars plan state terminal number (Place floor dir) ≡ None → first_cause plan state terminal number (Place floor dir) ≡ None
place_clear plan state terminal number floor dir h = caused_by_cars plan state terminal number (Place floor dir) false h (and_false (is_new state terminal number))

-- so has a repeated call
pub repeat_clear : (plan : Plan) (state : State) (terminal number to party : ℕ)
    → cause_before_cars plan state terminal number (Call to party) ≡ None → is_new state terminal number ≡ false → first_cause plan state terminal number (Call to party) ≡ None
repeat_clear plan state terminal number to party h old =
    caused_by_cars plan state terminal number (Call to party) false h
    (ap (λ (b : Bool). b && lacks_car plan state terminal (Call to party)) old)

-- a new call is refused exactly where no car may take it
pub new_call_cause : (plan : Plan) (state : State) (terminal number to party : ℕ) (lacks : Bool)
    → cause_before_cars plan state terminal number (Call to party) ≡ None → is_new state terminal number ≡ true → lacks_car plan state terminal (Call to party) ≡ lacks
    → first_cause plan state terminal number (Call to party) ≡ cond lacks (Some NoCar) None
new_call_cause plan state terminal number to party lacks h new is =
    caused_by_cars plan state terminal number (Call to party) lacks h
    (ap (λ (b : Bool). b && lacks_car plan state terminal (Call to party)) new ∙ is)

first_false : (b : Bool) (rest : Option Reason) → cond b (Some WrongKind) rest ≡ None → b ≡ false
first_false true rest h = cc
first_false false rest h = refl

-- the terminal of a stop or of a place is a car's
pub stop_of_car : (plan : Plan) (state : State) (terminal number floor : ℕ) (dir : Dir)
    → cause_before_cars plan state terminal number (Stop floor dir) ≡ None → has_car plan terminal ≡ true
stop_of_car plan state terminal number floor dir h = not_both (has_car plan terminal) (first_false (not (has_car plan terminal)) _ h)

pub place_of_car : (plan : Plan) (state : State) (terminal number floor : ℕ) (dir : Dir)
    → cause_before_cars plan state terminal number (Place floor dir) ≡ None → has_car plan terminal ≡ true
place_of_car plan state terminal number floor dir h = not_both (has_car plan terminal) (first_false (not (has_car plan terminal)) _ h)

-- and that of a call a kiosk's
pub call_of_kiosk : (plan : Plan) (state : State) (terminal number to party : ℕ)
    → cause_before_cars plan state terminal number (Call to party) ≡ None → has_kiosk plan terminal ≡ true
call_of_kiosk plan state terminal number to party h = not_both (has_kiosk plan terminal) (first_false (not (has_kiosk plan terminal)) _ h)

-- what a kiosk's last call was, where this one repeats it
pub record IsKept (state : State) (terminal number to party : ℕ) : Type 0 where
  pub from : ℕ
  pub car : ℕ
  pub last : last_of state.register terminal ≡ Some (record { number = number; content = Letter from to car party })

kept_from : (state : State) (terminal number to party : ℕ) (l : Last) → last_of state.register terminal ≡ Some l → l.number ≡ number
    → (content : Content) → l.content ≡ content → is_same (Call to party) content ≡ true → IsKept state terminal number to party
kept_from state terminal number to party l found e (Letter from t car persons) is same =
    let parts = and_parts (t == to) (persons == party) same in
    let a : t ≡ to = eqb-true t to parts.0 in
    let b : persons ≡ party = eqb-true persons party parts.1 in
    let content_is : l.content ≡ Letter from to car party = is ∙ ap (λ (x : ℕ). Letter from x car persons) a ∙ ap (λ (x : ℕ). Letter from to car x) b in
    let whole : l ≡ record { number = number; content = Letter from to car party } =
    ap (λ (n : ℕ). record { number = n; content = l.content }) e ∙ ap (λ (x : Content). record { number = number; content = x }) content_is in
    record { from = from; car = car; last = found ∙ ap (λ (x : Last). Some x) whole }
kept_from state terminal number to party l found e (Stopped floor dir) is same = cc

pub repeat_kept : (plan : Plan) (state : State) (terminal number to party : ℕ)
    → cause_before_cars plan state terminal number (Call to party) ≡ None → is_new state terminal number ≡ false → IsKept state terminal number to party
repeat_kept plan state terminal number to party h old =
    let again = repeated plan state terminal number (Call to party) refl (no_cause plan state terminal number (Call to party) (repeat_clear plan state terminal number to party h old)) old in
    kept_from state terminal number to party again.last again.found again.number_is again.last.content refl again.same

-- whether a number is new, as the code finds it
pub new_as : (register : RegisterState) (state : State) (terminal number : ℕ) (found is : Bool)
    → found ≡ (number == last_number register terminal + 1) → register ≡ state.register → found ≡ is → is_new state terminal number ≡ is
new_as register state terminal number found is by of_state found_is =
    sym (by ∙ ap (λ (r : RegisterState). number == last_number r terminal + 1) of_state) ∙ found_is

pub some_cars : (cars : List ℕ) → (cars ≡ [] → ⊥) → (length cars == 0) ≡ false
some_cars [] h = absurd (h refl)
some_cars (x ∷ cars) h = eqb-suc-zero (length cars)
