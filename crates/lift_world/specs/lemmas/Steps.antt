-- Each take is a step of the rules, and the other way round.
use Rattle.std.proofs.Common.{ℕ, ◌≡◌, ◌≤◌, Bool, true, false, cond, List, [], ◌∷◌, ◌++◌, take, drop}
use Rattle.std.proofs.Common.{length, Option, Some, None, refl, sym, ap, subst, ◌∙◌, arith}
use Rattle.std.proofs.Common.{append_assoc}
use Rattle.std.specs.Prelude.{option_map, option_and_then, find, reverse, is_none, MatchBool}
use Rattle.std.specs.Prelude.{MatchOption}
use Rattle.std.specs.Option.{option_map_or}
use Rattle.std.proofs.lemmas.Bool.{false≢true, and_parts, eqb-true}
use Rattle.std.proofs.lemmas.List.{take-append-drop, drop-append-le}
use Rattle.lift_base.specs.declared.history.Entry.{Entry}
use Rattle.lift_base.specs.declared.history.Entry.TheVariants.{Allot, Stop as Stopping}
use Rattle.lift_base.specs.declared.history.Content.{Content}
use Rattle.lift_base.specs.declared.history.Content.TheVariants.{Letter, Stopped as StoppedAt}
use Rattle.lift_base.specs.declared.history.Last.{Last}
use Rattle.lift_base.specs.declared.command.Body.{Body}
use Rattle.lift_base.specs.declared.command.Body.TheVariants.{Call, Stop, Place}
use Rattle.lift_base.specs.declared.command.Reason.{Reason}
use Rattle.lift_base.specs.declared.command.Reply.{Reply}
use Rattle.lift_base.specs.declared.command.Reply.TheVariants.{Car, Stopped, Placed, Refused}
use Rattle.lift_building.specs.Plan.{Plan}
use Rattle.lift_register.specs.Register.{RegisterState, last_of, last_number, register_of}
use Rattle.lift_register.specs.lemmas.HistoryLemmas.{register_of-append}
use Rattle.lift_policy.specs.declared.command.Command.{Command}
use Rattle.lift_policy.specs.Terminals.{kiosk_floor}
use Rattle.lift_policy.specs.Eligible.{Choice, any_eligible}
use Rattle.lift_policy.specs.Step.{State, Step, Proceeds, Allots, Repeats, first_cause, is_new}
use Rattle.lift_policy.specs.Step.{is_same, is_kept, accepting, stopping, with_car_at, next_from}
use Rattle.lift_policy.specs.Step.{cars_for}
use Rattle.lift_world.specs.declared.event.Event.TheVariants.{Take}
use Rattle.lift_policy.specs.Decision.{Decision}
use Rattle.lift_world.specs.Decided.{when, letter_in, kept_letter, is_among, allotted}
use Rattle.lift_world.specs.Decided.{repeated, proceeded, decided, decided_after}
use Rattle.lift_world.specs.World.{World, state_of, asks}
use Rattle.lift_world.specs.Next.{next, taking, deciding, may_take}
use Rattle.lift_world.specs.Tie.{naming, TakesAreSteps, StepsAreTakes}
use Rattle.lift_policy.specs.lemmas.Steps.{NoCause, no_cause, is_last, kept_at}
use Rattle.lift_world.specs.lemmas.Decisions.{some_is, among_held, held_among}

pub mapped : {A B : Type 0} (f : A → B) (o : Option A) (y : B) → option_map f o ≡ Some y
    → (x : A) × (o ≡ Some x) × (f x ≡ y)
mapped f None y h = cc
mapped f (Some x) y h = (x, refl, some_is (f x) y h)

pub last_is_made : (l : Last) (number : ℕ) (content : Content) → l.number ≡ number
    → l.content ≡ content → ◌≡◌ {A = Last} l (record { number = number; content = content })
last_is_made l number content p q =
    ap (λ (x : ℕ). let made : Last = record { number = x; content = l.content } in
    made) p ∙ ap (λ (y : Content). let made : Last = record { number = number; content = y } in
    made) q

pub match_true : (b : Bool) (P Q : Type 0) → b ≡ true → P → MatchBool b P Q
match_true true P Q e p = p
match_true false P Q e p = absurd (false≢true e)

pub match_false : (b : Bool) (P Q : Type 0) → b ≡ false → Q → MatchBool b P Q
match_false false P Q e q = q
match_false true P Q e q = absurd (false≢true (sym e))

-- a command without a cause of refusal, at the policy that names this letter
module _ (building : Plan) (state : State) (terminal number : ℕ) where
  new_step : (to party car : ℕ) (d : Decision) (b : Bool)
      → is_among car (cars_for building state terminal to party) ≡ b
      → is_new state terminal number ≡ true
      → when b (record {
        reply = Car car;
        next = accepting state (Allot terminal number (kiosk_floor building terminal) to car party);
      }) ≡ Some d
      → Proceeds building (naming (Some car)) state terminal number (Call to party) d.reply d.next
  new_step to party car d true e new h =
      subst (λ (x : Decision).
      Proceeds building (naming (Some car)) state terminal number
      (Call to party) x.reply x.next) (some_is _ d h)
      (match_true (is_new state terminal number) _ _ new
      (car, among_held car (cars_for building state terminal to party) e, refl, refl, refl))
  new_step to party car d false e new h = cc

  letter_step : (to party : ℕ) (letter : Option ℕ) (d : Decision)
      → is_new state terminal number ≡ true
      → option_and_then (allotted building state terminal number to party) letter ≡ Some d
      → Proceeds building (naming letter) state terminal number (Call to party) d.reply d.next
  letter_step to party None d new h = cc
  letter_step to party (Some car) d new h =
      new_step to party car d (is_among car (cars_for building state terminal to party)) refl new h

  kept_is : (to party : ℕ) (content : Content) (car : ℕ) → letter_in content ≡ Some car
      → is_same (Call to party) content ≡ true → (from : ℕ) × (content ≡ Letter from to car party)
  kept_is to party (Letter from t c p) car q same =
      let both = and_parts (Rattle.std.proofs.Common.eqb t to)
      (Rattle.std.proofs.Common.eqb p party) same in
      let t_is : t ≡ to = eqb-true t to both.0 in
      let p_is : p ≡ party = eqb-true p party both.1 in
      let c_is : c ≡ car = some_is c car q in
      (from, cc)
  kept_is to party (StoppedAt floor dir) car q same = cc

  repeat_step : (to party : ℕ) (d : Decision) (o : Option Last)
      → NoCause building state terminal number (Call to party)
      → is_new state terminal number ≡ false → last_of state.register terminal ≡ o
      → option_map (λ car. record { reply = Car car; next = state }) (kept_letter o) ≡ Some d
      → Proceeds building (naming None) state terminal number (Call to party) d.reply d.next
  repeat_step to party d None clear new at h = cc
  repeat_step to party d (Some l) clear new at h = by_letter (letter_in l.content) refl h
    where
      by_letter : (o : Option ℕ) → letter_in l.content ≡ o
          → option_map (λ car. record { reply = Car car; next = state }) o ≡ Some d
          → Proceeds building (naming None) state terminal number (Call to party) d.reply d.next
      by_letter None q h = cc
      by_letter (Some car) q h =
          let same_number = is_last number (last_number state.register terminal) clear.old clear.gap
          new in
          let last_is : last_number state.register terminal ≡ l.number =
          ap (λ (x : Option Last). option_map_or (λ (y : Last). y.number) x 0) at in
          let kept : is_kept state.register terminal (Call to party) ≡ true =
          kept_at number (last_number state.register terminal) _ clear.other same_number.0
          same_number.1 in
          let same : is_same (Call to party) l.content ≡ true =
          sym (ap (λ (x : Option Last).
          option_map_or (λ (y : Last). is_same (Call to party) y.content) x false) at) ∙ kept in
          let content = kept_is to party l.content car q same in
          let number_is : number ≡ l.number = same_number.0 ∙ last_is in
          let l_is = last_is_made l number (Letter content.0 to car party)
          (sym number_is) content.1 in
          subst (λ (x : Decision).
          Proceeds building (naming None) state terminal number (Call to party) x.reply x.next)
          (some_is _ d h)
          (match_false (is_new state terminal number) _ _ new
          (content.0, car, at ∙ ap (λ (x : Last). Some x) l_is, refl, refl))

  call_step : (to party : ℕ) (letter : Option ℕ) (d : Decision) (b : Bool)
      → NoCause building state terminal number (Call to party) → is_new state terminal number ≡ b
      → cond b (option_and_then (allotted building state terminal number to party) letter)
      (cond (is_none letter) (repeated state terminal) None) ≡ Some d
      → Proceeds building (naming letter) state terminal number (Call to party) d.reply d.next
  call_step to party letter d true clear new h = letter_step to party letter d new h
  call_step to party None d false clear new h =
      repeat_step to party d (last_of state.register terminal) clear new refl h
  call_step to party (Some car) d false clear new h = cc

  proceeds_step : (body : Body) (letter : Option ℕ) (d : Decision)
      → NoCause building state terminal number body
      → proceeded building state terminal number body letter ≡ Some d
      → Proceeds building (naming letter) state terminal number body d.reply d.next
  proceeds_step (Call to party) letter d clear h =
      call_step to party letter d (is_new state terminal number) clear refl h
  proceeds_step (Stop floor dir) None d clear h =
      subst (λ (x : Decision).
      Proceeds building (naming None) state terminal number (Stop floor dir) x.reply x.next)
      (some_is _ d h) (refl, refl)
  proceeds_step (Stop floor dir) (Some car) d clear h = cc
  proceeds_step (Place floor dir) None d clear h =
      subst (λ (x : Decision).
      Proceeds building (naming None) state terminal number (Place floor dir) x.reply x.next)
      (some_is _ d h) (refl, refl)
  proceeds_step (Place floor dir) (Some car) d clear h = cc

  step_after : (body : Body) (letter : Option ℕ) (d : Decision) (o : Option Reason)
      → first_cause building state terminal number body ≡ o
      → decided_after o building state terminal number body letter ≡ Some d
      → MatchOption o (Proceeds building (naming letter) state terminal number body d.reply d.next)
      (λ reason. (d.reply ≡ Refused reason) × (d.next ≡ state))
  step_after body letter d None q h =
      proceeds_step body letter d (no_cause building state terminal number body q) h
  step_after body None d (Some reason) q h = (
    ap (λ (x : Decision). x.reply) (sym (some_is _ d h)),
    ap (λ (x : Decision).
        x.next) (sym (some_is _ d h)),
  )
  step_after body (Some car) d (Some reason) q h = cc

  pub decided_step : (body : Body) (letter : Option ℕ) (d : Decision)
      → decided building state terminal number body letter ≡ Some d
      → Step building (naming letter) state terminal number body d.reply d.next
  decided_step body letter d h =
      step_after body letter d (first_cause building state terminal number body) refl h

  -- and back
  decision_is : (reply : Reply) (after : State) (r : Reply) (n : State) → reply ≡ r → after ≡ n
      → ◌≡◌ {A = Option Decision} (Some (record { reply = r; next = n }))
      (Some (record { reply = reply; next = after }))
  decision_is reply after r n p q =
      ap (λ (x : Reply). let made : Option Decision = Some (record { reply = x; next = n }) in
      made) (sym p) ∙ ap (λ (y : State). let made : Option Decision =
      Some (record { reply = reply; next = y }) in made) (sym q)

  call_back : (choice : Choice) (to party : ℕ) (reply : Reply) (next : State) (b : Bool)
      → is_new state terminal number ≡ b
      → MatchBool b (Allots building choice state terminal number to party reply next)
      (Repeats state terminal number to party reply next)
      → (letter : Option ℕ) × (cond b
      (option_and_then (allotted building state terminal number to party) letter)
      (cond (is_none letter) (repeated state terminal) None)
      ≡ Some (record { reply = reply; next = next }))
  call_back choice to party reply next true new h = (
    Some h.0,
    ap (λ (x : Bool).
        when x (record {
          reply = Car h.0;
          next = accepting state (Allot terminal number (kiosk_floor building terminal) to h.0 party);
        })) (held_among h.0 (cars_for building state terminal to party) h.1) ∙ decision_is reply
        next _ _ h.3 h.4,
  )
  call_back choice to party reply next false new h = (
    None,
    ap (λ (x : Option Last).
        option_map (λ car. record { reply = Car car; next = state }) (kept_letter x)) h.2 ∙
        decision_is reply next _ _ h.3 h.4,
  )

  proceeds_back : (choice : Choice) (body : Body) (reply : Reply) (next : State)
      → Proceeds building choice state terminal number body reply next
      → (letter : Option ℕ) × (proceeded building state terminal number body letter
      ≡ Some (record { reply = reply; next = next }))
  proceeds_back choice (Call to party) reply next h =
      call_back choice to party reply next (is_new state terminal number) refl h
  proceeds_back choice (Stop floor dir) reply next h = (
    None,
    decision_is reply next _ _ (h.1 ∙ ap (λ (x : State).
        Stopped (next_from x terminal floor dir)) h.0) h.0,
  )
  proceeds_back choice (Place floor dir) reply next h = (
    None,
    decision_is reply next _ _ (h.1 ∙ ap (λ (x : State).
        Placed (next_from x terminal floor dir)) h.0) h.0,
  )

  back_after : (choice : Choice) (body : Body) (reply : Reply) (next : State) (o : Option Reason)
      → MatchOption o (Proceeds building choice state terminal number body reply next) (λ reason.
      (reply ≡ Refused reason) × (next ≡ state))
      → (letter : Option ℕ) × (decided_after o building state terminal number body letter
      ≡ Some (record { reply = reply; next = next }))
  back_after choice body reply next None h = proceeds_back choice body reply next h
  back_after choice body reply next (Some reason) h = (None, decision_is reply next _ _ h.0 h.1)

  pub step_decided : (choice : Choice) (body : Body) (reply : Reply) (next : State)
      → Step building choice state terminal number body reply next
      → (letter : Option ℕ) × (decided building state terminal number body letter
      ≡ Some (record { reply = reply; next = next }))
  step_decided choice body reply next h =
      back_after choice body reply next (first_cause building state terminal number body) h

-- the register is that of these entries, and of the batch after them
abbrev pub GoesOn : RegisterState → List Entry → State → Type 0
GoesOn base prefix s = s.register ≡ register_of base (prefix ++ s.batch)

goes_on_one : (base : RegisterState) (prefix : List Entry) (s : State) (e : Entry) → GoesOn base prefix s
    → GoesOn base prefix (accepting s e)
goes_on_one base prefix s e k =
    ap (λ r. register_of r (e ∷ [])) k ∙ register_of-append base (prefix ++ s.batch) (e ∷ [])
    ∙ ap (λ (xs : List Entry). register_of base xs) (append_assoc prefix s.batch (e ∷ []))

goes_on_same : (base : RegisterState) (prefix : List Entry) (s next : State) → next ≡ s → GoesOn base prefix s
    → GoesOn base prefix next
goes_on_same base prefix s next e k = subst (GoesOn base prefix) (sym e) k

goes_on_if : (base : RegisterState) (prefix : List Entry) (s : State) (e : Entry) (b : Bool) → GoesOn base prefix s
    → GoesOn base prefix (cond b (accepting s e) s)
goes_on_if base prefix s e true k = goes_on_one base prefix s e k
goes_on_if base prefix s e false k = k

call_goes_on : (building : Plan) (choice : Choice) (base : RegisterState) (prefix : List Entry) (s : State)
    (terminal number to party : ℕ) (reply : Reply) (next : State) (b : Bool) → GoesOn base prefix s
    → MatchBool b (Allots building choice s terminal number to party reply next)
    (Repeats s terminal number to party reply next) → GoesOn base prefix next
call_goes_on building choice base prefix s terminal number to party reply next true k g =
    goes_on_same base prefix (accepting s
    (Allot terminal number (kiosk_floor building terminal) to g.0 party)) next g.4
    (goes_on_one base prefix s _ k)
call_goes_on building choice base prefix s terminal number to party reply next false k g =
    goes_on_same base prefix s next g.4 k

proceeds_on : (building : Plan) (choice : Choice) (base : RegisterState) (prefix : List Entry) (s : State)
    (terminal number : ℕ) (body : Body) (reply : Reply) (next : State) → GoesOn base prefix s
    → Proceeds building choice s terminal number body reply next → GoesOn base prefix next
proceeds_on building choice base prefix s terminal number (Call to party) reply next k h =
    call_goes_on building choice base prefix s terminal number to party reply next
    (is_new s terminal number) k h
proceeds_on building choice base prefix s terminal number (Stop floor dir) reply next k h =
    goes_on_same base prefix (stopping s terminal number floor dir) next h.0
    (goes_on_if base prefix s (Stopping terminal number floor dir) (is_new s terminal number) k)
proceeds_on building choice base prefix s terminal number (Place floor dir) reply next k h =
    goes_on_same base prefix (with_car_at s terminal floor dir) next h.0 k

step_on : (building : Plan) (choice : Choice) (base : RegisterState) (prefix : List Entry) (s : State)
    (terminal number : ℕ) (body : Body) (reply : Reply) (next : State) (o : Option Reason)
    → GoesOn base prefix s
    → MatchOption o (Proceeds building choice s terminal number body reply next) (λ reason.
    (reply ≡ Refused reason) × (next ≡ s)) → GoesOn base prefix next
step_on building choice base prefix s terminal number body reply next None k h =
    proceeds_on building choice base prefix s terminal number body reply next k h
step_on building choice base prefix s terminal number body reply next (Some reason) k h =
    goes_on_same base prefix s next h.1 k

pub state_goes_on : (w : World) → GoesOn w.base (take w.sealed w.accepted) (state_of w)
state_goes_on w = ap (λ (xs : List Entry).
    register_of w.base xs) (sym (take-append-drop w.sealed w.accepted))

pub steps_go_on : (building : Plan) (choice : Choice) (base : RegisterState) (prefix : List Entry) (s : State)
    (terminal number : ℕ) (body : Body) (reply : Reply) (next : State) → GoesOn base prefix s
    → Step building choice s terminal number body reply next → GoesOn base prefix next
steps_go_on building choice base prefix s terminal number body reply next k h =
    step_on building choice base prefix s terminal number body reply next
    (first_cause building s terminal number body) k h

-- what stands after a prefix
after_front : (xs ys : List Entry) (n : ℕ) → n ≤ length xs → drop n (take n xs ++ ys) ≡ ys
after_front xs ys n le =
    let l = Rattle.std.proofs.lemmas.List.length-take-le n xs le in
    drop-append-le n (take n xs) ys (omega arith)
    ∙ ap (λ (zs : List Entry).
    zs ++ ys) (Rattle.std.proofs.Math.ListN.drop_of_length-le (take n xs) (omega arith))

-- the state of the world after a take is that of its decision
pub state_after : (w : World) (command : Command) (reply : Reply) (s : State)
    → w.sealed ≤ length w.accepted → GoesOn w.base (take w.sealed w.accepted) s
    → state_of (deciding w command (record { reply = reply; next = s })) ≡ s
state_after w command reply s le k =
    rw (after_front w.accepted s.batch w.sealed le)
    (ap (λ r. let made : State = record {
      register = r;
      positions = s.positions;
      batch = s.batch;
    } in made) (sym k))

pub then_from : {A B : Type 0} (f : A → Option B) (o : Option A) (y : B)
    → option_and_then f o ≡ Some y → (x : A) × (o ≡ Some x) × (f x ≡ Some y)
then_from f None y h = cc
then_from f (Some x) y h = (x, refl, h)

pub if_from : {B : Type 0} (b : Bool) (o : Option B) (y : B) → cond b o None ≡ Some y
    → (b ≡ true) × (o ≡ Some y)
if_from true o y h = (refl, h)
if_from false o y h = cc

-- what a take moves to, once its ask is found
pub taken_next : (w : World) (terminal : ℕ) (letter : Option ℕ) (command : Command)
    → may_take w terminal ≡ true → find (asks terminal) (reverse w.asked) ≡ Some command
    → next w (Take terminal letter) ≡ taking w letter command
taken_next w terminal letter command may found =
    ap (λ (b : Bool). cond b
    (option_and_then (taking w letter) (find (asks terminal) (reverse w.asked))) None) may ∙ ap
    (option_and_then (taking w letter)) found

pub takes_are_steps : (w : World) → TakesAreSteps w
takes_are_steps w terminal letter after h =
    let a = if_from (may_take w terminal)
    (option_and_then (taking w letter) (find (asks terminal) (reverse w.asked))) after h in
    let b = then_from (taking w letter) (find (asks terminal) (reverse w.asked)) after a.1 in
    let command = b.0 in
    let c = mapped (deciding w command)
    (decided w.building (state_of w) command.terminal command.number command.body letter) after
    b.2 in
    let step = decided_step w.building (state_of w) command.terminal command.number command.body
    letter c.0 c.1 in
    record {
      command = command;
      reply = c.0.reply;
      state = c.0.next;
      finds = (a.0, b.1);
      step = step;
      decided = sym c.2;
      state_is = λ le. ap (λ (x : World). state_of x) (sym c.2)
          ∙ state_after w command c.0.reply c.0.next le
          (steps_go_on w.building (naming letter) w.base (take w.sealed w.accepted)
          (state_of w) command.terminal command.number command.body c.0.reply c.0.next
          (state_goes_on w) step);
    }

pub steps_are_takes : (w : World) → StepsAreTakes w
steps_are_takes w terminal command reply state finds h =
    let d = step_decided w.building (state_of w) command.terminal command.number any_eligible
    command.body reply state h in (
      d.0,
      taken_next w terminal d.0 command finds.0 finds.1 ∙ ap
          (option_map (deciding w command)) d.1,
    )
