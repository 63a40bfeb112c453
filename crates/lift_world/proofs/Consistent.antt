-- What every event keeps, and what follows of every recovery.
use Rattle.std.proofs.Common.{ℕ, ◌≡◌, ◌+◌, ◌-◌, ◌<◌, ◌≤◌, Bool, true, false, not, ◌&&◌, cond, eqb, ltb, List, [], ◌∷◌, ◌++◌, length, map, take, drop, Some, All, refl, sym, ap, subst, ◌∙◌, arith, append_assoc}
use Rattle.std.specs.Prelude.{Contains, reverse, find, unwrap_or, option_and_then, option_map}
use Rattle.std.proofs.Math.Seq.{take-length}
use Rattle.std.proofs.lemmas.List.{take-append-le, take-append-drop, append-nil, length-take-le, length-append}
use Rattle.std.proofs.lemmas.List.Concat.{flat_map-append}
use Rattle.std.proofs.lemmas.Bool.{false≢true, and_parts, ltb-true, ltb-false}
use Rattle.std.proofs.lemmas.List.Elements.{Contains-append_left, All-nil, All-cons, All-head, All-tail, All-push, All-append, All-weaker, All-filter, All-map, All-contains}
use Rattle.lift_base.specs.declared.history.Entry.{Entry}
use Rattle.lift_building.specs.Plan.{Plan, IsBuilding}
use Rattle.lift_register.specs.Register.{RegisterState, register_of}
use Rattle.lift_register.specs.Fits.{FitFrom}
use Rattle.lift_register.specs.lemmas.HistoryLemmas.{register_of-append}
use Rattle.lift_policy.specs.declared.command.Command.{Command}
use Rattle.lift_world.specs.declared.event.Kept.{Kept}
use Rattle.lift_world.specs.declared.event.Kept.TheVariants.{Safe, WithBatch}
use Rattle.lift_world.specs.declared.event.Taken.{Taken}
use Rattle.lift_world.specs.declared.event.Event.{Event}
use Rattle.lift_world.specs.declared.event.Event.TheVariants.{Ask, Take, Seal, Pull, Fold, Body as BodyWrite, FirstSync, Gate, SecondSync, Answer as Answering, Hear, Fault, Cut, Reopen}
use Rattle.lift_world.specs.declared.event.Phase.{Phase}
use Rattle.lift_world.specs.declared.event.Phase.TheVariants.{Writing, Synced, GateWritten}
use Rattle.lift_policy.specs.Decision.{Decision}
use Rattle.lift_world.specs.Decided.{when, decided}
use Rattle.lift_world.specs.World.{World, SealedBatch, no_batch, start, outcome, batch_in_flight, state_of, acknowledged, acknowledged_in, is_running, is_broken, is_off, asks, is_taken_of, may_keep, written, is_idle, is_synced, is_gate_written}
use Rattle.lift_world.specs.Next.{run, next, unknown_to, deciding, taking, asking, sealing, pulled, in_phase, settling, failing, answering, hearing, cutting, reopened, may_ask, may_take, may_seal, may_pull, may_write, may_sync, may_fail, may_reopen, next_answer}
use Rattle.lift_world.specs.Headline.{RecoversAcknowledged, IsHeld, IsOfBuilding}
use Rattle.lift_world.specs.Replays.{FitAfter}
use Rattle.lift_world.specs.Lawful.{AcceptsFitting}
use Rattle.lift_world.specs.lemmas.Phases.{not_idle, not_idle_synced, writing_busy}
use Rattle.lift_world.specs.lemmas.Moves.{hold_when, hold_if, hold_then, hold_map}
use Rattle.lift_world.specs.lemmas.Entries.{find_held, held_more, over_nothing}
use Rattle.lift_world.specs.lemmas.Decisions.{IsAllotted, DecidesWell, decides_well, fits_allotted, held_allotted, acknowledged-unknown}

-- what a reply tells of is held
abbrev pub Tells : Plan → RegisterState → List Entry → Taken → Type 0
Tells building base entries c = All (IsHeld base entries) (acknowledged_in building c)

-- a sealed batch tells of entries accepted up to its end
abbrev pub IsSealed : Plan → RegisterState → List Entry → SealedBatch → Type 0
IsSealed building base accepted b = (b.upto ≤ length accepted) × All (Tells building base (take b.upto accepted)) b.commands

pub record Holds (building : Plan) (base : RegisterState) (accepted : List Entry) (safe : ℕ) (shown : List Entry) (flight : SealedBatch) (phase : Phase) (queue : List SealedBatch) (taken due : List Taken) : Type 0 where
  pub sound : IsBuilding building
  pub of_building : IsOfBuilding building base
  pub in_range : safe ≤ length accepted
  pub fit : FitAfter building base [] accepted
  pub shown_safe : All (IsHeld base (take safe accepted)) shown
  pub due_safe : All (Tells building base (take safe accepted)) due
  pub flight_sealed : IsSealed building base accepted flight
  pub flight_ahead : is_idle phase ≡ false → safe ≤ flight.upto
  pub queue_sealed : All (IsSealed building base accepted) queue
  pub taken_told : All (Tells building base accepted) taken

abbrev pub IsConsistent : World → Type 0
IsConsistent w = Holds w.building w.base w.accepted w.safe (acknowledged w) w.flight w.phase w.queue w.taken w.due

-- a longer prefix has what a shorter one has
front_more : (xs : List Entry) (n m : ℕ) → n ≤ m → m ≤ length xs → (e : Entry) → Contains (take n xs) e → Contains (take m xs) e
front_more xs n m le in_range e h =
    let whole : take n (take m xs) ≡ take n xs = sym (take-append-le n (take m xs) (drop m xs) (let l = length-take-le m xs in_range in omega arith)) ∙ ap (take n) (take-append-drop m xs) in
    subst (λ (ys : List Entry). Contains ys e) (take-append-drop n (take m xs))
    (Contains-append_left (take n (take m xs)) (drop n (take m xs)) e (subst (λ (ys : List Entry). Contains ys e) (sym whole) h))

all_held_more : (base : RegisterState) (xs ys : List Entry) → ((e : Entry) → Contains xs e → Contains ys e) → (es : List Entry) → All (IsHeld base xs) es → All (IsHeld base ys) es
all_held_more base xs ys more es h = All-weaker (IsHeld base xs) (IsHeld base ys) (held_more base xs ys more) es h

tells_more : (building : Plan) (base : RegisterState) (xs ys : List Entry) → ((e : Entry) → Contains xs e → Contains ys e) → (c : Taken) → Tells building base xs c → Tells building base ys c
tells_more building base xs ys more c h = all_held_more base xs ys more (acknowledged_in building c) h

all_tell_more : (building : Plan) (base : RegisterState) (xs ys : List Entry) → ((e : Entry) → Contains xs e → Contains ys e) → (cs : List Taken) → All (Tells building base xs) cs → All (Tells building base ys) cs
all_tell_more building base xs ys more cs h = All-weaker (Tells building base xs) (Tells building base ys) (tells_more building base xs ys more) cs h

unknown_tells : (building : Plan) (base : RegisterState) (xs : List Entry) (cs : List Taken) → All (Tells building base xs) (map unknown_to cs)
unknown_tells building base xs cs = All-map (Tells building base xs) unknown_to cs (all_unknown cs)
  where
    all_unknown : (cs : List Taken) → All (λ (c : Taken). Tells building base xs (unknown_to c)) cs
    all_unknown cs = λ k d lt. subst (λ (es : List Entry). All (IsHeld base xs) es) (sym (acknowledged-unknown building _ _ _)) (All-nil (IsHeld base xs))

-- entries that fit one after another
pub fit_more : (building : Plan) (base : RegisterState) (before xs ys : List Entry) → FitAfter building base before xs → FitAfter building base (before ++ xs) ys → FitAfter building base before (xs ++ ys)
fit_more building base before [] ys h more = subst (λ (zs : List Entry). FitAfter building base zs ys) (append-nil before) more
fit_more building base before (x ∷ xs) ys h more =
    (h.0, fit_more building base (before ++ x ∷ []) xs ys h.1 (subst (λ (zs : List Entry). FitAfter building base zs ys) (sym (append_assoc before (x ∷ []) xs)) more))

fit_front : (building : Plan) (base : RegisterState) (before xs ys : List Entry) → FitAfter building base before (xs ++ ys) → FitAfter building base before xs
fit_front building base before [] ys h = tt
fit_front building base before (x ∷ xs) ys h = (h.0, fit_front building base (before ++ x ∷ []) xs ys h.1)

-- from one register to the next
fit_steps : (building : Plan) (base : RegisterState) (before entries : List Entry) → FitAfter building base before entries → FitFrom building (register_of base before) entries
fit_steps building base before [] h = tt
fit_steps building base before (x ∷ xs) h =
    (h.0, subst (λ (r : RegisterState). FitFrom building r xs) (sym (register_of-append base before (x ∷ []))) (fit_steps building base (before ++ x ∷ []) xs h.1))

pub fits_from : (building : Plan) (base : RegisterState) (entries : List Entry) → IsOfBuilding building base → FitAfter building base [] entries → FitFrom building base entries
fits_from building base entries of h = subst (λ (r : RegisterState). FitFrom building r entries) (over_nothing building base of) (fit_steps building base [] entries h)

pub fit_allotted : (building : Plan) (base : RegisterState) (before entries : List Entry) → IsBuilding building → FitAfter building base before entries → All (IsAllotted building) entries
fit_allotted building base before [] sound h = All-nil (IsAllotted building)
fit_allotted building base before (e ∷ entries) sound h =
    All-cons (IsAllotted building) e entries (fits_allotted building (register_of base before) e sound h.0) (fit_allotted building base (before ++ e ∷ []) entries sound h.1)

-- the accepted list after a decision goes on from the one before
pub accepted_after : (w : World) (added batch : List Entry) → batch ≡ drop w.sealed w.accepted ++ added → take w.sealed w.accepted ++ batch ≡ w.accepted ++ added
accepted_after w added batch e =
    ap (λ (xs : List Entry). take w.sealed w.accepted ++ xs) e ∙ sym (append_assoc (take w.sealed w.accepted) (drop w.sealed w.accepted) added)
    ∙ ap (λ (xs : List Entry). xs ++ added) (take-append-drop w.sealed w.accepted)

sealed_still : (building : Plan) (base : RegisterState) (old added : List Entry) (b : SealedBatch) → IsSealed building base old b → IsSealed building base (old ++ added) b
sealed_still building base old added b h =
    (let l = length-append old added in let a = h.0 in omega arith, subst (λ (xs : List Entry). All (Tells building base xs) b.commands) (sym (take-append-le b.upto old added h.0)) h.1)

abbrev taken_more : World → Command → Decision → List Taken
taken_more w command d = w.taken ++ record { terminal = command.terminal; number = command.number; body = command.body; reply = d.reply } ∷ []

decided_keeps : (w : World) (command : Command) (d : Decision) → IsConsistent w → DecidesWell w.building w.base w.accepted w.sealed command.terminal command.number command.body d → IsConsistent (deciding w command d)
decided_keeps w command d k well =
    subst (λ (xs : List Entry). Holds w.building w.base xs w.safe (acknowledged w) w.flight w.phase w.queue (taken_more w command d) w.due) (sym (accepted_after w well.added d.next.batch well.batch))
    (record {
      sound = k.sound;
      of_building = k.of_building;
      in_range = let a = k.in_range in let l = length-append w.accepted well.added in omega arith;
      fit = fit_more w.building w.base [] w.accepted well.added k.fit well.fits;
      shown_safe = subst (λ (xs : List Entry). All (IsHeld w.base xs) (acknowledged w)) (sym (take-append-le w.safe w.accepted well.added k.in_range)) k.shown_safe;
      due_safe = subst (λ (xs : List Entry). All (Tells w.building w.base xs) w.due) (sym (take-append-le w.safe w.accepted well.added k.in_range)) k.due_safe;
      flight_sealed = sealed_still w.building w.base w.accepted well.added w.flight k.flight_sealed;
      flight_ahead = k.flight_ahead;
      queue_sealed = All-weaker (IsSealed w.building w.base w.accepted) (IsSealed w.building w.base (w.accepted ++ well.added)) (sealed_still w.building w.base w.accepted well.added) w.queue k.queue_sealed;
      taken_told = All-push (Tells w.building w.base (w.accepted ++ well.added)) w.taken _
          (all_tell_more w.building w.base w.accepted (w.accepted ++ well.added) (λ e h. Contains-append_left w.accepted well.added e h) w.taken k.taken_told)
          (well.acknowledged (held_allotted w.building w.base w.accepted k.sound k.of_building (fit_allotted w.building w.base [] w.accepted k.sound k.fit)));
    })

sealing_keeps : (w : World) → IsConsistent w → IsConsistent (sealing w)
sealing_keeps w k = record {
  sound = k.sound;
  of_building = k.of_building;
  in_range = k.in_range;
  fit = k.fit;
  shown_safe = k.shown_safe;
  due_safe = k.due_safe;
  flight_sealed = k.flight_sealed;
  flight_ahead = k.flight_ahead;
  queue_sealed = All-push (IsSealed w.building w.base w.accepted) w.queue (record { commands = w.taken; upto = length w.accepted }) k.queue_sealed
      (omega arith, subst (λ (xs : List Entry). All (Tells w.building w.base xs) w.taken) (sym (take-length w.accepted)) k.taken_told);
  taken_told = All-nil (Tells w.building w.base w.accepted);
}

with_queue : (w : World) (batch : SealedBatch) (rest : List SealedBatch) → w.queue ≡ batch ∷ rest → IsConsistent w → IsSealed w.building w.base w.accepted batch × All (IsSealed w.building w.base w.accepted) rest
with_queue w batch rest e k =
    let all = subst (λ (bs : List SealedBatch). All (IsSealed w.building w.base w.accepted) bs) e k.queue_sealed in
    (All-head (IsSealed w.building w.base w.accepted) batch rest all, All-tail (IsSealed w.building w.base w.accepted) batch rest all)

pull_broken : (w : World) (batch : SealedBatch) (rest : List SealedBatch) → w.queue ≡ batch ∷ rest → IsConsistent w → IsConsistent (record w { queue = rest; due = w.due ++ map unknown_to batch.commands })
pull_broken w batch rest e k = record {
  sound = k.sound;
  of_building = k.of_building;
  in_range = k.in_range;
  fit = k.fit;
  shown_safe = k.shown_safe;
  flight_sealed = k.flight_sealed;
  flight_ahead = k.flight_ahead;
  taken_told = k.taken_told;
  due_safe = All-append (Tells w.building w.base (take w.safe w.accepted)) w.due (map unknown_to batch.commands) k.due_safe (unknown_tells w.building w.base (take w.safe w.accepted) batch.commands);
  queue_sealed = (with_queue w batch rest e k).1;
}

pull_due : (w : World) (batch : SealedBatch) (rest : List SealedBatch) → w.queue ≡ batch ∷ rest → batch.upto ≤ w.safe → IsConsistent w → IsConsistent (record w { queue = rest; due = w.due ++ batch.commands })
pull_due w batch rest e le k = record {
  sound = k.sound;
  of_building = k.of_building;
  in_range = k.in_range;
  fit = k.fit;
  shown_safe = k.shown_safe;
  flight_sealed = k.flight_sealed;
  flight_ahead = k.flight_ahead;
  taken_told = k.taken_told;
  due_safe = All-append (Tells w.building w.base (take w.safe w.accepted)) w.due batch.commands k.due_safe
      (all_tell_more w.building w.base (take batch.upto w.accepted) (take w.safe w.accepted) (front_more w.accepted batch.upto w.safe le k.in_range) batch.commands (with_queue w batch rest e k).0.1);
  queue_sealed = (with_queue w batch rest e k).1;
}

pull_flight : (w : World) (batch : SealedBatch) (rest : List SealedBatch) → w.queue ≡ batch ∷ rest → w.safe < batch.upto → IsConsistent w → IsConsistent (record w { queue = rest; flight = batch; phase = Writing 0 })
pull_flight w batch rest e less k = record {
  sound = k.sound;
  of_building = k.of_building;
  in_range = k.in_range;
  fit = k.fit;
  shown_safe = k.shown_safe;
  flight_sealed = (with_queue w batch rest e k).0;
  flight_ahead = λ _. omega arith;
  taken_told = k.taken_told;
  due_safe = k.due_safe;
  queue_sealed = (with_queue w batch rest e k).1;
}

pull_whole : (w : World) (batch : SealedBatch) (rest : List SealedBatch) (more : Bool) → w.queue ≡ batch ∷ rest → ltb w.safe batch.upto ≡ more → IsConsistent w
    → IsConsistent (cond more (record w { queue = rest; flight = batch; phase = Writing 0 }) (record w { queue = rest; due = w.due ++ batch.commands }))
pull_whole w batch rest true e q k = pull_flight w batch rest e (ltb-true w.safe batch.upto q) k
pull_whole w batch rest false e q k = pull_due w batch rest e (ltb-false w.safe batch.upto q) k

pulling_keeps : (w : World) (batch : SealedBatch) (rest : List SealedBatch) (broken : Bool) → w.queue ≡ batch ∷ rest → IsConsistent w
    → IsConsistent (cond broken (record w { queue = rest; due = w.due ++ map unknown_to batch.commands })
    (cond (ltb w.safe batch.upto) (record w { queue = rest; flight = batch; phase = Writing 0 }) (record w { queue = rest; due = w.due ++ batch.commands })))
pulling_keeps w batch rest true e k = pull_broken w batch rest e k
pulling_keeps w batch rest false e k = pull_whole w batch rest (ltb w.safe batch.upto) e refl k

pulled_keeps : (w : World) (queue : List SealedBatch) → w.queue ≡ queue → IsConsistent w → IsConsistent (unwrap_or (pulled w queue) w)
pulled_keeps w [] e k = k
pulled_keeps w (batch ∷ rest) e k = pulling_keeps w batch rest (is_broken w.power) e k

with_phase : (w : World) (phase : Phase) → (is_idle phase ≡ false → is_idle w.phase ≡ false) → IsConsistent w → IsConsistent (in_phase w phase)
with_phase w phase busy k = record {
  sound = k.sound;
  of_building = k.of_building;
  in_range = k.in_range;
  fit = k.fit;
  shown_safe = k.shown_safe;
  due_safe = k.due_safe;
  flight_sealed = k.flight_sealed;
  queue_sealed = k.queue_sealed;
  taken_told = k.taken_told;
  flight_ahead = λ h. k.flight_ahead (busy h);
}

no_batch_sealed : (building : Plan) (base : RegisterState) (accepted : List Entry) → IsSealed building base accepted no_batch
no_batch_sealed building base accepted = (omega arith, All-nil (Tells building base (take 0 accepted)))

settling_keeps : (w : World) → IsConsistent w → is_idle w.phase ≡ false → IsConsistent (settling w)
settling_keeps w k busy =
    let more = front_more w.accepted w.safe w.flight.upto (k.flight_ahead busy) k.flight_sealed.0 in
    record {
      sound = k.sound;
      of_building = k.of_building;
      in_range = k.flight_sealed.0;
      fit = k.fit;
      shown_safe = all_held_more w.base (take w.safe w.accepted) (take w.flight.upto w.accepted) more (acknowledged w) k.shown_safe;
      due_safe = All-append (Tells w.building w.base (take w.flight.upto w.accepted)) w.due w.flight.commands
          (all_tell_more w.building w.base (take w.safe w.accepted) (take w.flight.upto w.accepted) more w.due k.due_safe) k.flight_sealed.1;
      flight_sealed = no_batch_sealed w.building w.base w.accepted;
      flight_ahead = λ h. absurd (false≢true (sym h));
      queue_sealed = k.queue_sealed;
      taken_told = k.taken_told;
    }

failing_keeps : (w : World) → IsConsistent w → IsConsistent (failing w)
failing_keeps w k = record {
  sound = k.sound;
  of_building = k.of_building;
  in_range = k.in_range;
  fit = k.fit;
  shown_safe = k.shown_safe;
  due_safe = All-append (Tells w.building w.base (take w.safe w.accepted)) w.due (map unknown_to w.flight.commands) k.due_safe (unknown_tells w.building w.base (take w.safe w.accepted) w.flight.commands);
  flight_sealed = (k.flight_sealed.0, All-nil (Tells w.building w.base (take w.flight.upto w.accepted)));
  flight_ahead = k.flight_ahead;
  queue_sealed = k.queue_sealed;
  taken_told = k.taken_told;
}

answering_keeps : (w : World) (terminal : ℕ) (c : Taken) → IsConsistent w → find (is_taken_of terminal) w.due ≡ Some c → IsConsistent (answering w terminal c)
answering_keeps w terminal c k at = record {
  sound = k.sound;
  of_building = k.of_building;
  in_range = k.in_range;
  fit = k.fit;
  flight_sealed = k.flight_sealed;
  flight_ahead = k.flight_ahead;
  queue_sealed = k.queue_sealed;
  taken_told = k.taken_told;
  shown_safe = subst (λ (xs : List Entry). All (IsHeld w.base (take w.safe w.accepted)) xs) (sym (flat_map-append (acknowledged_in w.building) w.given (c ∷ [])))
      (All-append (IsHeld w.base (take w.safe w.accepted)) (acknowledged w) _ k.shown_safe
      (subst (λ (xs : List Entry). All (IsHeld w.base (take w.safe w.accepted)) xs) (sym (append-nil (acknowledged_in w.building c)))
      (All-contains (Tells w.building w.base (take w.safe w.accepted)) w.due c k.due_safe (find_held (is_taken_of terminal) w.due c at).0)));
  due_safe = All-filter _ (Tells w.building w.base (take w.safe w.accepted)) w.due k.due_safe;
}

cutting_keeps : (w : World) (kept : Kept) → IsConsistent w → IsConsistent (cutting w kept)
cutting_keeps w kept k = record {
  sound = k.sound;
  of_building = k.of_building;
  in_range = k.in_range;
  fit = k.fit;
  shown_safe = k.shown_safe;
  flight_ahead = k.flight_ahead;
  due_safe = All-nil (Tells w.building w.base (take w.safe w.accepted));
  flight_sealed = (k.flight_sealed.0, All-nil (Tells w.building w.base (take w.flight.upto w.accepted)));
  queue_sealed = All-nil (IsSealed w.building w.base w.accepted);
  taken_told = All-nil (Tells w.building w.base w.accepted);
}

pub outcome_holds : (w : World) (kept : Kept) (e : Entry) → Contains (take w.safe w.accepted) e → Contains (outcome w kept) e
outcome_holds w Safe e h = h
outcome_holds w WithBatch e h = Contains-append_left (take w.safe w.accepted) (batch_in_flight w) e h

pub rest_of : World → Kept → List Entry
rest_of w Safe = drop w.safe w.accepted
rest_of w WithBatch = drop (w.flight.upto - w.safe) (drop w.safe w.accepted)

pub rest_is : (w : World) (kept : Kept) → outcome w kept ++ rest_of w kept ≡ w.accepted
unfolding rest_of
rest_is w Safe = take-append-drop w.safe w.accepted
rest_is w WithBatch =
    append_assoc (take w.safe w.accepted) (batch_in_flight w) (drop (w.flight.upto - w.safe) (drop w.safe w.accepted))
    ∙ ap (λ (xs : List Entry). take w.safe w.accepted ++ xs) (take-append-drop (w.flight.upto - w.safe) (drop w.safe w.accepted)) ∙ take-append-drop w.safe w.accepted

pub outcome_fits : (w : World) (kept : Kept) → FitAfter w.building w.base [] w.accepted → FitAfter w.building w.base [] (outcome w kept)
outcome_fits w kept h = fit_front w.building w.base [] (outcome w kept) (rest_of w kept) (subst (λ (xs : List Entry). FitAfter w.building w.base [] xs) (sym (rest_is w kept)) h)

reopened_keeps : (w : World) (kept : Kept) → IsConsistent w → IsConsistent (reopened w kept)
reopened_keeps w kept k = record {
  sound = k.sound;
  of_building = k.of_building;
  in_range = omega arith;
  fit = outcome_fits w kept k.fit;
  shown_safe = subst (λ (xs : List Entry). All (IsHeld w.base xs) (acknowledged w)) (sym (take-length (outcome w kept)))
      (all_held_more w.base (take w.safe w.accepted) (outcome w kept) (outcome_holds w kept) (acknowledged w) k.shown_safe);
  due_safe = subst (λ (xs : List Entry). All (Tells w.building w.base xs) (w.due ++ map unknown_to w.taken)) (sym (take-length (outcome w kept)))
      (All-append (Tells w.building w.base (outcome w kept)) w.due (map unknown_to w.taken)
      (all_tell_more w.building w.base (take w.safe w.accepted) (outcome w kept) (outcome_holds w kept) w.due k.due_safe) (unknown_tells w.building w.base (outcome w kept) w.taken));
  flight_sealed = no_batch_sealed w.building w.base (outcome w kept);
  flight_ahead = λ h. absurd (false≢true (sym h));
  queue_sealed = All-nil (IsSealed w.building w.base (outcome w kept));
  taken_told = All-nil (Tells w.building w.base (outcome w kept));
}

pub keeps : (w : World) (event : Event) → IsConsistent w → IsConsistent (unwrap_or (next w event) w)
keeps w (Ask terminal number body) k = hold_when IsConsistent w (asking w (record { terminal = terminal; number = number; body = body })) (may_ask w terminal) k (λ _. k)
keeps w (Take terminal letter) k = hold_if IsConsistent w (option_and_then (taking w letter) (find (asks terminal) (reverse w.asked))) (may_take w terminal) k (λ may.
    hold_then IsConsistent w (taking w letter) (find (asks terminal) (reverse w.asked)) k (λ command _.
    hold_map IsConsistent w (deciding w command) (decided w.building (state_of w) command.terminal command.number command.body letter) k
    (λ d h. decided_keeps w command d k (decides_well w.building k.sound w.base w.accepted w.sealed w.positions command.terminal command.number command.body letter d h))))
keeps w Seal k = hold_when IsConsistent w (sealing w) (may_seal w) k (λ _. sealing_keeps w k)
keeps w Pull k = hold_if IsConsistent w (pulled w w.queue) (may_pull w) k (λ _. pulled_keeps w w.queue refl k)
keeps w Fold k = hold_then IsConsistent w (λ n. when (is_running w.power && eqb n 0) w) (written w.phase) k (λ n _. hold_when IsConsistent w w (is_running w.power && eqb n 0) k (λ _. k))
keeps w BodyWrite k = hold_then IsConsistent w (λ n. when (may_write w n) (in_phase w (Writing (n + 1)))) (written w.phase) k (λ n q. hold_when IsConsistent w (in_phase w (Writing (n + 1))) (may_write w n) k (λ _. with_phase w (Writing (n + 1)) (λ _. writing_busy w.phase n q) k))
keeps w FirstSync k = hold_then IsConsistent w (λ n. when (may_sync w n) (in_phase w Synced)) (written w.phase) k (λ n q. hold_when IsConsistent w (in_phase w Synced) (may_sync w n) k (λ _. with_phase w Synced (λ _. writing_busy w.phase n q) k))
keeps w Gate k = hold_when IsConsistent w (in_phase w GateWritten) (is_running w.power && is_synced w.phase) k (λ may. with_phase w GateWritten (λ _. not_idle_synced w.phase (and_parts (is_running w.power) (is_synced w.phase) may).1) k)
keeps w SecondSync k = hold_when IsConsistent w (settling w) (is_running w.power && is_gate_written w.phase) k (λ may. settling_keeps w k (not_idle w.phase (and_parts (is_running w.power) (is_gate_written w.phase) may).1))
keeps w (Answering terminal) k = hold_if IsConsistent w (option_map (answering w terminal) (find (is_taken_of terminal) w.due)) (not (is_off w.power)) k
    (λ _. hold_map IsConsistent w (answering w terminal) (find (is_taken_of terminal) w.due) k (λ c at. answering_keeps w terminal c k at))
keeps w (Hear terminal) k = hold_if IsConsistent w (option_map (hearing w) (next_answer w terminal)) (not (is_off w.power)) k (λ may. hold_map IsConsistent w (hearing w) (next_answer w terminal) k (λ answer at. k))
keeps w Fault k = hold_when IsConsistent w (failing w) (may_fail w) k (λ _. failing_keeps w k)
keeps w (Cut kept) k = hold_when IsConsistent w (cutting w kept) (may_keep w kept) k (λ _. cutting_keeps w kept k)
keeps w (Reopen kept) k = hold_when IsConsistent w (reopened w kept) (may_reopen w w.power kept) k (λ _. reopened_keeps w kept k)

pub start_holds : (building : Plan) (base : RegisterState) → IsBuilding building → IsOfBuilding building base → IsConsistent (start building base)
start_holds building base sound of = record {
  sound = sound;
  of_building = of;
  in_range = omega arith;
  fit = tt;
  shown_safe = All-nil (IsHeld base []);
  due_safe = All-nil (Tells building base []);
  flight_sealed = no_batch_sealed building base [];
  flight_ahead = λ h. absurd (false≢true (sym h));
  queue_sealed = All-nil (IsSealed building base []);
  taken_told = All-nil (Tells building base []);
}

pub run_keeps : (events : List Event) (w : World) → IsConsistent w → IsConsistent (run events w)
run_keeps [] w k = k
run_keeps (event ∷ events) w k = run_keeps events (unwrap_or (next w event) w) (keeps w event k)

pub recovers_acknowledged : (w : World) → IsConsistent w → RecoversAcknowledged w
recovers_acknowledged w k kept may = all_held_more w.base (take w.safe w.accepted) (outcome w kept) (outcome_holds w kept) (acknowledged w) k.shown_safe

pub accepts_fitting : (w : World) → IsConsistent w → AcceptsFitting w
accepts_fitting w k = fits_from w.building w.base w.accepted k.of_building k.fit
