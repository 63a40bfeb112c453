-- Every ask that can be looked at is decided by some take.
use Rattle.std.proofs.Common.{ℕ, ◌≡◌, ◌≢◌, ◌+◌, ◌<◌, Bool, true, false, not, ◌&&◌, cond, eqb, List}
use Rattle.std.proofs.Common.{[], ◌∷◌, ◌++◌, length, Option, Some, None, refl, sym, ap, subst, ◌∙◌}
use Rattle.std.proofs.Common.{arith}
use Rattle.std.specs.Prelude.{Contains, reverse, find, option_and_then, nat_lt, nat_le, count_by}
use Rattle.std.specs.Prelude.{MatchOption}
use Rattle.std.specs.List.{AllByRecursion, list_any}
use Rattle.std.specs.Option.{option_map_or}
use Rattle.std.proofs.lemmas.Bool.{false≢true, and_parts, and_from, or_parts, or_from, not-true}
use Rattle.std.proofs.lemmas.Bool.{not_from_false, ltb-true, leb-true, eqb-true, eqb-false, ne_eqb}
use Rattle.std.proofs.lemmas.Bool.{lt-ltb, le-leb}
use Rattle.std.proofs.lemmas.List.{reverse-append}
use Rattle.std.proofs.lemmas.List.Sums.{sum_by-cons}
use Rattle.lift_base.specs.declared.history.Content.{Content}
use Rattle.lift_base.specs.declared.history.Content.TheVariants.{Letter, Stopped as StoppedAt}
use Rattle.lift_base.specs.declared.history.Entry.TheVariants.{Allot}
use Rattle.lift_base.specs.declared.history.Last.{Last}
use Rattle.lift_base.specs.declared.command.Body.{Body}
use Rattle.lift_base.specs.declared.command.Body.TheVariants.{Call, Stop, Place}
use Rattle.lift_base.specs.declared.command.Reason.{Reason}
use Rattle.lift_base.specs.declared.command.Reply.{Reply}
use Rattle.lift_base.specs.declared.command.Reply.TheVariants.{Car, Stopped, Placed, Refused}
use Rattle.lift_building.specs.Plan.{Plan}
use Rattle.lift_register.specs.Register.{last_of, last_number}
use Rattle.lift_base.specs.declared.limits.TheConstants.{MOST_BATCHES}
use Rattle.lift_policy.specs.declared.command.Command.{Command}
use Rattle.lift_policy.specs.Terminals.{kiosk_floor}
use Rattle.lift_policy.specs.Eligible.{any_eligible}
use Rattle.lift_policy.specs.Step.{State, Step, Proceeds, first_cause, is_new, is_same, is_kept}
use Rattle.lift_policy.specs.Step.{accepting, stopping, with_car_at, next_from, cars_for}
use Rattle.lift_world.specs.declared.event.Taken.{Taken}
use Rattle.lift_world.specs.World.{World, state_of, asks, is_off, is_taken_of, is_answer_to}
use Rattle.lift_world.specs.Next.{taking, may_take, is_waiting, unanswered}
use Rattle.lift_world.specs.Possible.{CanBeLookedAt, TakesNeedLooks}
use Rattle.lift_world.specs.Tie.{TakeFinds, LooksAreTakes}
use Rattle.lift_world.specs.Turns.{HasRun}
use Rattle.lift_world.specs.lemmas.Entries.{head_of}
use Rattle.lift_policy.specs.lemmas.Steps.{NoCause, no_cause, is_last, kept_at, kept_some}
use Rattle.lift_world.specs.lemmas.Steps.{if_from, match_true, match_false, last_is_made}
use Rattle.lift_world.specs.lemmas.Steps.{steps_are_takes}

-- a decision that the rules allow
abbrev pub IsDecided : Plan → State → ℕ → ℕ → Body → Type 0
IsDecided building state terminal number body = (reply : Reply) × (next : State)
    × Step building any_eligible state terminal number body reply next

abbrev Goes : Plan → State → ℕ → ℕ → Body → Type 0
Goes building state terminal number body = (reply : Reply) × (next : State)
    × Proceeds building any_eligible state terminal number body reply next

module _ (building : Plan) (state : State) (terminal number : ℕ) where
  -- a new call goes to the first eligible car
  new_goes : (to party : ℕ) (eligible : List ℕ)
      → cars_for building state terminal to party ≡ eligible → is_new state terminal number ≡ true
      → (eqb (length eligible) 0) ≡ false
      → Goes building state terminal number (Call to party)
  new_goes to party [] at new some = absurd (false≢true (sym some))
  new_goes to party (car ∷ others) at new some = (
    Car car,
    accepting state (Allot terminal number (kiosk_floor building terminal) to car party),
    match_true (is_new state terminal number) _ _ new (
      car,
      subst (λ (cs : List ℕ).
          Contains cs car) (sym at) (head_of car others),
      tt,
      refl,
      refl,
    ),
  )

  -- what was kept of a call is a letter
  letter_of : (to party : ℕ) (content : Content) → is_same (Call to party) content ≡ true
      → (from car : ℕ) × (content ≡ Letter from to car party)
  letter_of to party (Letter from t c p) same =
      let both = and_parts (eqb t to) (eqb p party) same in
      let t_is : t ≡ to = eqb-true t to both.0 in
      let p_is : p ≡ party = eqb-true p party both.1 in
      (from, c, cc)
  letter_of to party (StoppedAt floor dir) same = absurd (false≢true same)

  -- a repeated call gets it
  repeat_goes : (to party : ℕ) → NoCause building state terminal number (Call to party)
      → is_new state terminal number ≡ false → Goes building state terminal number (Call to party)
  repeat_goes to party clear new =
      let same_number = is_last number (last_number state.register terminal) clear.old clear.gap
      new in
      let kept : is_kept state.register terminal (Call to party) ≡ true =
      kept_at number (last_number state.register terminal) _ clear.other same_number.0
      same_number.1 in
      let last = kept_some (last_of state.register terminal) (Call to party) kept in
      let content = letter_of to party last.0.content last.2 in
      let last_is : last_number state.register terminal ≡ last.0.number =
      ap (λ (x : Option Last). option_map_or (λ (y : Last). y.number) x 0) last.1 in
      let made = last_is_made last.0 number (Letter content.0 to content.1 party)
      (sym (same_number.0 ∙ last_is)) content.2 in (
        Car content.1,
        state,
        match_false (is_new state terminal number) _ _ new
            (content.0, content.1, last.1 ∙ ap (λ (x : Last). Some x) made, refl, refl),
      )

  call_goes : (to party : ℕ) (b : Bool) → NoCause building state terminal number (Call to party)
      → is_new state terminal number ≡ b → Goes building state terminal number (Call to party)
  call_goes to party true clear new =
      new_goes to party (cars_for building state terminal to party) refl new
      (sym (ap (λ (b : Bool). b && eqb (length (cars_for building state terminal to party)) 0) new)
      ∙ clear.car)
  call_goes to party false clear new = repeat_goes to party clear new

  goes : (body : Body) → NoCause building state terminal number body
      → Goes building state terminal number body
  goes (Call to party) clear = call_goes to party (is_new state terminal number) clear refl
  goes (Stop floor dir) clear = (
    Stopped (next_from (stopping state terminal number floor dir) terminal floor dir),
    stopping
        state terminal number floor dir,
    (refl, refl),
  )
  goes (Place floor dir) clear = (
    Placed (next_from (with_car_at state terminal floor dir) terminal floor dir),
    with_car_at state
        terminal floor dir,
    (refl, refl),
  )

  decided_after : (body : Body) (o : Option Reason)
      → first_cause building state terminal number body ≡ o
      → (reply : Reply) × (next : State)
      × MatchOption o (Proceeds building any_eligible state terminal number body reply next)
      (λ reason. (reply ≡ Refused reason) × (next ≡ state))
  decided_after body None q = goes body (no_cause building state terminal number body q)
  decided_after body (Some reason) q = (Refused reason, state, (refl, refl))

  pub is_decided : (body : Body) → IsDecided building state terminal number body
  is_decided body = decided_after body (first_cause building state terminal number body) refl

-- and so is a whole list of commands
pub run_of : (building : Plan) (state : State) (commands : List Command)
    → HasRun building state commands
run_of building state [] = ([], state, refl)
run_of building state (c ∷ commands) =
    let first = is_decided building state c.terminal c.number c.body in
    let rest = run_of building first.1 commands in
    (first.0 ∷ rest.0, rest.1, (first.1, first.2, rest.2))

-- no command of this terminal
none_taken : (terminal : ℕ) (cs : List Taken) → list_any (is_taken_of terminal) cs ≡ false
    → AllByRecursion (λ (c : Taken). c.terminal ≢ terminal) cs
none_taken terminal [] h = tt
none_taken terminal (c ∷ cs) h =
    let o = or_parts (eqb c.terminal terminal) (list_any (is_taken_of terminal) cs) h in
    (eqb-false c.terminal terminal o.0, none_taken terminal cs o.1)

taken_none : (terminal : ℕ) (cs : List Taken)
    → AllByRecursion (λ (c : Taken). c.terminal ≢ terminal) cs
    → list_any (is_taken_of terminal) cs ≡ false
taken_none terminal [] h = refl
taken_none terminal (c ∷ cs) h =
    or_from (eqb c.terminal terminal) (list_any (is_taken_of terminal) cs)
    (ne_eqb c.terminal terminal h.0) (taken_none terminal cs h.1)

module _ (w : World) (terminal : ℕ) where
  abbrev answers_few : Bool
  answers_few = nat_lt (count_by (is_answer_to terminal) w.answered)
      (count_by (asks terminal) w.asked)

  abbrev is_left : Bool
  is_left = not (list_any (is_taken_of terminal) (unanswered w))

  pub can_be_looked_at : may_take w terminal ≡ true → CanBeLookedAt w terminal
  can_be_looked_at may =
      let both = and_parts (not (is_off w.power) && nat_le (length w.queue) MOST_BATCHES)
      (is_waiting w terminal) may in
      let here = and_parts (not (is_off w.power)) (nat_le (length w.queue) MOST_BATCHES) both.0 in
      let waits = and_parts answers_few is_left both.1 in
      record {
        powered = not-true (is_off w.power) here.0;
        few_queued = leb-true (length w.queue) MOST_BATCHES here.1;
        asks_more = ltb-true (count_by (is_answer_to terminal) w.answered)
            (count_by (asks terminal) w.asked) waits.0;
        not_taken = none_taken terminal (unanswered w)
            (not-true (list_any (is_taken_of terminal) (unanswered w)) waits.1);
      }

  pub may_be_taken : CanBeLookedAt w terminal → may_take w terminal ≡ true
  may_be_taken k =
      and_from (not (is_off w.power) && nat_le (length w.queue) MOST_BATCHES) (is_waiting w terminal)
      (and_from (not (is_off w.power)) (nat_le (length w.queue) MOST_BATCHES)
      (not_from_false (is_off w.power) k.powered) (le-leb (length w.queue) MOST_BATCHES k.few_queued))
      (and_from answers_few is_left
      (lt-ltb (count_by (is_answer_to terminal) w.answered)
      (count_by (asks terminal) w.asked) k.asks_more)
      (not_from_false (list_any (is_taken_of terminal) (unanswered w))
      (taken_none terminal (unanswered w) k.not_taken)))

-- the last of those that pass, where there is one
module _ {A : Type 0} (p : A → Bool) where
  finds_by : (x : A) (rest : Option A) (b : Bool) → p x ≡ b
      → (b ≡ false → (z : A) × (rest ≡ Some z)) → (z : A) × (cond (p x) (Some x) rest ≡ Some z)
  finds_by x rest true q later = (x, ap (λ (b : Bool). cond b (Some x) rest) q)
  finds_by x rest false q later = let found = later refl in
      (found.0, ap (λ (b : Bool). cond b (Some x) rest) q ∙ found.1)

  finds_more : (xs : List A) (y z : A) → find p xs ≡ Some z
      → (v : A) × (find p (xs ++ y ∷ []) ≡ Some v)
  finds_more [] y z h = cc
  finds_more (x ∷ xs) y z h = finds_by x (find p (xs ++ y ∷ [])) (p x) refl
      (λ q. finds_more xs y z (sym (ap (λ (b : Bool). cond b (Some x) (find p xs)) q) ∙ h))

  finds_last : (xs : List A) (y : A) → p y ≡ true → (v : A) × (find p (xs ++ y ∷ []) ≡ Some v)
  finds_last [] y h = (y, ap (λ (b : Bool). cond b (Some y) None) h)
  finds_last (x ∷ xs) y h = finds_by x (find p (xs ++ y ∷ [])) (p x) refl (λ q. finds_last xs y h)

  counts_none : (x : A) (xs : List A) → p x ≡ false → count_by p (x ∷ xs) ≡ count_by p xs
  counts_none x xs q = sum_by-cons (λ y. cond (p y) 1 0) x xs ∙ ap (λ (b : Bool).
      cond b 1 0 + count_by p xs) q ∙ omega arith

  finds_either : (x : A) (xs : List A) (b : Bool) → p x ≡ b → 0 < count_by p (x ∷ xs)
      → (0 < count_by p xs → (z : A) × (find p (reverse xs) ≡ Some z))
      → (v : A) × (find p (reverse xs ++ x ∷ []) ≡ Some v)
  finds_either x xs true q h rest = finds_last (reverse xs) x q
  finds_either x xs false q h rest =
      let fewer = counts_none x xs q in
      let found = rest (omega (arith, h, fewer)) in
      finds_more (reverse xs) x found.0 found.1

  finds_some : (xs : List A) → 0 < count_by p xs → (z : A) × (find p (reverse xs) ≡ Some z)
  finds_some [] h = absurd (omega (arith, h))
  finds_some (x ∷ xs) h =
      let found = finds_either x xs (p x) refl h (λ more. finds_some xs more) in
      (found.0, ap (find p) (reverse-append (x ∷ []) xs) ∙ found.1)

pub looks_are_takes : (w : World) → LooksAreTakes w
looks_are_takes w terminal can =
    let ask = finds_some (asks terminal) w.asked (let m = can.asks_more in omega arith) in
    let command : Command = ask.0 in
    let finds : TakeFinds w terminal command = (may_be_taken w terminal can, ask.1) in
    let d = is_decided w.building (state_of w) command.terminal command.number command.body in
    let take = steps_are_takes w terminal command d.0 d.1 finds d.2 in
    record {
      command = command;
      letter = take.0;
      reply = d.0;
      state = d.1;
      finds = finds;
      takes = take.1;
    }

pub takes_need_looks : (w : World) → TakesNeedLooks w
takes_need_looks w terminal letter after h =
    can_be_looked_at w terminal
    (if_from (may_take w terminal)
    (option_and_then (taking w letter) (find (asks terminal) (reverse w.asked))) after h).0
