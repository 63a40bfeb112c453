-- Which events are possible where, by computation.
use Rattle.std.proofs.Common.{sym, map, ◌≡◌, ◌≢◌, ◌⊎◌, Bool, true, false, not, ◌&&◌, cond, List, [], ◌∷◌, ◌++◌, ◌||◌, length, Option, Some, None, refl, ap, subst, ◌∙◌, inl, inr, replicate}
use Rattle.std.specs.Prelude.{unwrap_or, option_map, option_and_then, find, nat_lt}
use Rattle.std.proofs.lemmas.Bool.{and_right, and_parts, eqb-true, lt-ltb, le-ltb}
use Rattle.lift_world.specs.declared.event.Kept.{Kept}
use Rattle.lift_world.specs.declared.event.Kept.TheVariants.{Safe, WithBatch}
use Rattle.lift_world.specs.declared.event.Phase.{Phase}
use Rattle.lift_world.specs.declared.event.Phase.TheVariants.{Idle, Writing, Synced, GateWritten}
use Rattle.lift_world.specs.declared.event.Power.{Power}
use Rattle.lift_world.specs.declared.event.Power.TheVariants.{Running, Broken, Off}
use Rattle.lift_world.specs.declared.event.Event.{Event}
use Rattle.lift_world.specs.declared.event.Event.TheVariants.{Ask, Take, Seal, Pull, Fold, Body as BodyWrite, FirstSync, Gate, SecondSync, Answer as Answering, Hear, Fault, Cut, Reopen}
use Rattle.lift_world.specs.declared.event.Taken.{Taken}
use Rattle.lift_world.specs.Decided.{when}
use Rattle.lift_world.specs.World.{World, SealedBatch, may_keep, is_gate_written, is_broken, is_off, is_running, is_idle, written, same_kept, is_taken_of}
use Rattle.lift_world.specs.Next.{next, run, sealing, cutting, reopened, answering, pulled, unknown_to, may_reopen, is_quiet, is_empty}
use Rattle.lift_world.specs.Possible.{CutsToSafe, CutsWithBatch, IsCutTo, CutsGive, Seals, ReopensAfterCut, OnlyReopensAfterCut, IsReopened, ReopensAfterFault, ReopeningsGive, IsQuiet, ReopensWhileQuiet, PullsInTurn, AnswersDue, AnswersOnlyDue}
use Rattle.lift_world.specs.lemmas.Moves.{never}
use Rattle.lift_world.specs.lemmas.Entries.{find_held}
use Rattle.lift_world.specs.lemmas.Steps.{if_from, mapped}

pub cuts_to_safe : (w : World) → CutsToSafe w
cuts_to_safe w = refl

gate_written : (phase : Phase) → phase ≡ GateWritten → is_gate_written phase ≡ true
gate_written phase h = ap is_gate_written h

gate_unwritten : (phase : Phase) → phase ≢ GateWritten → is_gate_written phase ≡ false
gate_unwritten Idle h = refl
gate_unwritten (Writing n) h = refl
gate_unwritten Synced h = refl
gate_unwritten GateWritten h = absurd (h refl)

pub cuts_with_batch : (w : World) → CutsWithBatch w
cuts_with_batch w = record {
  written = λ h. ap (λ (b : Bool). when b (cutting w WithBatch)) (gate_written w.phase h);
  unwritten = λ h. ap (λ (b : Bool). when b (cutting w WithBatch)) (gate_unwritten w.phase h);
}

same_itself : (kept : Kept) → same_kept kept kept ≡ true
same_itself Safe = refl
same_itself WithBatch = refl

pub when_some : {A : Type 0} (b : Bool) (x y : A) → when b x ≡ Some y → (b ≡ true) × (x ≡ y)
when_some true x y h = (refl, cc)
when_some false x y h = cc

still_keeps : (w : World) (kept last : Kept) → may_keep (cutting w last) kept ≡ may_keep w kept
still_keeps w Safe last = refl
still_keeps w WithBatch last = refl

same_outcome : (w : World) (kept : Kept) → (reopened (cutting w kept) kept).accepted ≡ Rattle.lift_world.specs.World.outcome w kept
same_outcome w Safe = refl
same_outcome w WithBatch = refl

opens_after : (w : World) (kept : Kept) → may_keep w kept ≡ true → next (cutting w kept) (Reopen kept) ≡ Some (reopened (cutting w kept) kept)
opens_after w kept may =
    ap (λ (b : Bool). when (b && may_keep (cutting w kept) kept) (reopened (cutting w kept) kept)) (same_itself kept)
    ∙ ap (λ (b : Bool). when b (reopened (cutting w kept) kept)) (still_keeps w kept kept ∙ may)

pub reopens_after_cut : (w : World) → ReopensAfterCut w
reopens_after_cut w = record {
  opens = λ kept after h. let s = when_some (may_keep w kept) (cutting w kept) after h in
      subst (λ (x : World). next x (Reopen kept) ≡ Some (reopened x kept)) s.1 (opens_after w kept s.0);
  gives = λ kept after h. let s = when_some (may_keep w kept) (cutting w kept) after h in
      subst (λ (x : World). (reopened x kept).accepted ≡ Rattle.lift_world.specs.World.outcome w kept) s.1 (same_outcome w kept);
}

same_both : (a b : Kept) → same_kept a b ≡ true → b ≡ a
same_both Safe Safe h = refl
same_both Safe WithBatch h = cc
same_both WithBatch Safe h = cc
same_both WithBatch WithBatch h = refl

first_true : (a b : Bool) → (a && b) ≡ true → a ≡ true
first_true true b h = refl
first_true false b h = cc

none_then : {A B : Type 0} (f : A → Option B) (o : Option A) (y : B) → ((x : A) → f x ≡ None) → option_and_then f o ≡ Some y → ⊥
none_then f None y none h = cc
none_then f (Some x) y none h = let n = none x in cc

-- while the power is off
off_at : (w : World) (last : Kept) (event : Event) (after : World) → next (record w { power = Off last }) event ≡ Some after → ((kept : Kept) × (event ≡ Cut kept)) ⊎ (event ≡ Reopen last)
off_at w last (Ask terminal number body) after h = cc
off_at w last (Take terminal letter) after h = cc
off_at w last Seal after h = cc
off_at w last Pull after h = cc
off_at w last Fold after h = absurd (none_then _ (written w.phase) after (λ n. refl) h)
off_at w last BodyWrite after h = absurd (none_then _ (written w.phase) after (λ n. refl) h)
off_at w last FirstSync after h = absurd (none_then _ (written w.phase) after (λ n. refl) h)
off_at w last Gate after h = cc
off_at w last SecondSync after h = cc
off_at w last (Answering terminal) after h = cc
off_at w last (Hear terminal) after h = cc
off_at w last Fault after h = cc
off_at w last (Cut kept) after h = inl (kept, refl)
off_at w last (Reopen kept) after h =
    inr (ap (λ (k : Kept). Reopen k) (same_both last kept (first_true (same_kept last kept) _ (when_some (same_kept last kept && may_keep (record w { power = Off last }) kept) (reopened (record w { power = Off last }) kept) after h).0)))

pub only_reopens_after_cut : (w : World) → OnlyReopensAfterCut w
only_reopens_after_cut w last event after off h = off_at w last event after (subst (λ (p : Power). next (record w { power = p }) event ≡ Some after) off h)

-- after a fault
pub broken_opens : (w : World) (kept : Kept) → w.power ≡ Broken → w.queue ≡ [] → may_keep w kept ≡ true → next w (Reopen kept) ≡ Some (reopened w kept)
broken_opens w kept broken empty may =
    ap (λ (p : Power). when (may_reopen w p kept) (reopened w kept)) broken
    ∙ ap (λ (q : List SealedBatch). when (is_empty q && may_keep w kept) (reopened w kept)) empty
    ∙ ap (λ (b : Bool). when b (reopened w kept)) may

not_empty : (queue : List SealedBatch) → queue ≢ [] → is_empty queue ≡ false
not_empty [] h = absurd (h refl)
not_empty (b ∷ queue) h = refl

-- while running
idle_is : (phase : Phase) → is_idle phase ≡ true → phase ≡ Idle
idle_is Idle h = refl
idle_is (Writing n) h = cc
idle_is Synced h = cc
idle_is GateWritten h = cc

empty_is : {A : Type 0} (xs : List A) → is_empty xs ≡ true → xs ≡ []
empty_is [] h = refl
empty_is (x ∷ xs) h = cc

quiet_as : (w : World) → IsQuiet w → is_quiet w ≡ true
quiet_as w k =
    ap (λ (p : Phase). is_idle p && is_empty w.queue && is_empty w.taken) k.idle
    ∙ ap (λ (q : List SealedBatch). is_empty q && is_empty w.taken) k.nothing_queued ∙ ap (λ (cs : List Taken). is_empty cs) k.nothing_taken

quiet_from : (w : World) → is_quiet w ≡ true → IsQuiet w
quiet_from w h =
    let a = and_parts (is_idle w.phase && is_empty w.queue) (is_empty w.taken) h in
    let b = and_parts (is_idle w.phase) (is_empty w.queue) a.0 in
    record { idle = idle_is w.phase b.0; nothing_queued = empty_is w.queue b.1; nothing_taken = empty_is w.taken a.1 }

pub quiet_reopening : (w : World) (kept : Kept) → may_reopen w Running kept ≡ true → IsQuiet w
quiet_reopening w kept may = quiet_from w (first_true (is_quiet w) (may_keep w kept) may)

never_with_batch : (phase : Phase) (a b : Bool) → (is_idle phase && a && b && is_gate_written phase) ≡ false
never_with_batch Idle a b = and_right (a && b) false refl
never_with_batch (Writing n) a b = refl
never_with_batch Synced a b = refl
never_with_batch GateWritten a b = refl

pub reopens_while_quiet : (w : World) → ReopensWhileQuiet w
reopens_while_quiet w = record {
  safe = λ on quiet. ap (λ (p : Power). when (may_reopen w p Safe) (reopened w Safe)) on ∙ ap (λ (b : Bool). when (b && true) (reopened w Safe)) (quiet_as w quiet);
  only_quiet = λ kept after on h.
      quiet_reopening w kept (ap (λ (p : Power). may_reopen w p kept) (sym on) ∙ (when_some (may_reopen w w.power kept) (reopened w kept) after h).0);
  only_safe = λ on. ap (λ (p : Power). when (may_reopen w p WithBatch) (reopened w WithBatch)) on
      ∙ ap (λ (b : Bool). when b (reopened w WithBatch)) (never_with_batch w.phase (is_empty w.queue) (is_empty w.taken));
}

pub answers_due : (w : World) → AnswersDue w
answers_due w terminal command on at =
    ap (λ (b : Bool). cond (not b) (option_map (answering w terminal) (find (is_taken_of terminal) w.due)) None) on ∙ ap (option_map (answering w terminal)) at

pub reopenings_give : (w : World) → ReopeningsGive w
reopenings_give w kept after h =
    let s = when_some (may_reopen w w.power kept) (reopened w kept) after h in
    subst (λ (x : World). IsReopened w kept x) s.1 (record {
      running = refl;
      accepted = refl;
      all_safe = refl;
      all_sealed = refl;
      idle = refl;
      nothing_flies = refl;
      nothing_queued = refl;
      nothing_taken = refl;
      no_car_placed = refl;
      answers_unknown = refl;
      same_asked = refl;
      same_answered = refl;
      same_heard = refl;
      same_given = refl;
    })

pub cuts_give : (w : World) → CutsGive w
cuts_give w kept after h =
    let s = when_some (may_keep w kept) (cutting w kept) after h in
    subst (λ (x : World). IsCutTo w kept x) s.1 (record {
      off = refl;
      same_accepted = refl;
      same_safe = refl;
      same_sealed = refl;
      same_phase = refl;
      in_doubt = refl;
      same_given = refl;
      nothing_asked = refl;
      nothing_answered = refl;
      nothing_heard = refl;
      nothing_queued = refl;
      nothing_taken = refl;
      nothing_due = refl;
      no_car_placed = refl;
    })

some_taken : (cs : List Taken) → cs ≢ [] → is_empty cs ≡ false
some_taken [] h = absurd (h refl)
some_taken (c ∷ cs) h = refl

pub seals : (w : World) → Seals w
seals w = record {
  seals = λ on some. ap (λ (b : Bool). when (not b && not (is_empty w.taken)) (sealing w)) on ∙ ap (λ (b : Bool). when (not b) (sealing w)) (some_taken w.taken some);
  nothing = λ empty. ap (λ (b : Bool). when b (sealing w)) (and_right (not (is_off w.power)) (not (is_empty w.taken)) (ap (λ (cs : List Taken). not (is_empty cs)) empty));
  unpowered = λ off. ap (λ (b : Bool). when (not b && not (is_empty w.taken)) (sealing w)) off;
}

-- the queue's first batch
busy : (phase : Phase) → phase ≢ Idle → is_idle phase ≡ false
busy Idle h = absurd (h refl)
busy (Writing n) h = refl
busy Synced h = refl
busy GateWritten h = refl

module _ (w : World) where
  abbrev landing : SealedBatch → List SealedBatch → World
  landing batch rest = record w { queue = rest; due = w.due ++ batch.commands }

  abbrev taking_off : SealedBatch → List SealedBatch → World
  taking_off batch rest = record w { queue = rest; flight = batch; phase = Writing 0 }

  abbrev failed_one : SealedBatch → List SealedBatch → World
  failed_one batch rest = record w { queue = rest; due = w.due ++ map unknown_to batch.commands }

  pulls_running : (batch : SealedBatch) (rest : List SealedBatch) → w.power ≡ Running → w.phase ≡ Idle → w.queue ≡ batch ∷ rest
      → next w Pull ≡ Some (cond (nat_lt w.safe batch.upto) (taking_off batch rest) (landing batch rest))
  pulls_running batch rest on idle queued =
      ap (λ (p : Power). cond (is_broken p || (is_running p && is_idle w.phase)) (pulled w w.queue) None) on
      ∙ ap (λ (p : Phase). cond (is_idle p) (pulled w w.queue) None) idle
      ∙ ap (λ (q : List SealedBatch). pulled w q) queued
      ∙ ap (λ (p : Power). Some (cond (is_broken p) (failed_one batch rest) (cond (nat_lt w.safe batch.upto) (taking_off batch rest) (landing batch rest)))) on

  pulls_broken : (batch : SealedBatch) (rest : List SealedBatch) → w.power ≡ Broken → w.queue ≡ batch ∷ rest → next w Pull ≡ Some (failed_one batch rest)
  pulls_broken batch rest broken queued =
      ap (λ (p : Power). cond (is_broken p || (is_running p && is_idle w.phase)) (pulled w w.queue) None) broken
      ∙ ap (λ (q : List SealedBatch). pulled w q) queued
      ∙ ap (λ (p : Power). Some (cond (is_broken p) (failed_one batch rest) (cond (nat_lt w.safe batch.upto) (taking_off batch rest) (landing batch rest)))) broken

  pub pulls_in_turn : PullsInTurn w
  pulls_in_turn = record {
    waits = λ on there.
        ap (λ (p : Power). cond (is_broken p || (is_running p && is_idle w.phase)) (pulled w w.queue) None) on
        ∙ ap (λ (b : Bool). cond b (pulled w w.queue) None) (busy w.phase there);
    nothing = λ empty.
        ap (λ (q : List SealedBatch). cond (is_broken w.power || (is_running w.power && is_idle w.phase)) (pulled w q) None) empty
        ∙ never (is_broken w.power || (is_running w.power && is_idle w.phase));
    flies = λ batch rest on idle queued less.
        pulls_running batch rest on idle queued
        ∙ ap (λ (b : Bool). Some (cond b (taking_off batch rest) (landing batch rest))) (lt-ltb w.safe batch.upto less);
    is_due = λ batch rest on idle queued le.
        pulls_running batch rest on idle queued
        ∙ ap (λ (b : Bool). Some (cond b (taking_off batch rest) (landing batch rest))) (le-ltb w.safe batch.upto le);
    fails = λ batch rest broken queued. pulls_broken batch rest broken queued;
  }

drained : (queue : List SealedBatch) (w : World) → w.power ≡ Broken → w.queue ≡ queue → (run (replicate (length queue) Pull) w).queue ≡ []
drained [] w broken queued = queued
drained (batch ∷ rest) w broken queued =
    let after : World = record w { queue = rest; due = w.due ++ map unknown_to batch.commands } in
    ap (λ (x : World). (run (replicate (length rest) Pull) x).queue) (ap (λ (o : Option World). unwrap_or o w) (pulls_broken w batch rest broken queued)) ∙ drained rest after broken refl

pub reopens_after_fault : (w : World) → ReopensAfterFault w
reopens_after_fault w = record {
  safe = λ broken empty. broken_opens w Safe broken empty refl;
  with_batch = λ broken empty written. broken_opens w WithBatch broken empty (gate_written w.phase written);
  unwritten = λ broken unwritten. ap (λ (p : Power). when (may_reopen w p WithBatch) (reopened w WithBatch)) broken
      ∙ ap (λ (b : Bool). when b (reopened w WithBatch)) (and_right (is_empty w.queue) (is_gate_written w.phase) (gate_unwritten w.phase unwritten));
  queued = λ kept broken some. ap (λ (p : Power). when (may_reopen w p kept) (reopened w kept)) broken
      ∙ ap (λ (b : Bool). when (b && may_keep w kept) (reopened w kept)) (not_empty w.queue some);
  drains = λ broken. drained w.queue w broken refl;
}

pub answers_only_due : (w : World) → AnswersOnlyDue w
answers_only_due w terminal after h =
    let a = if_from (not (is_off w.power)) (option_map (answering w terminal) (find (is_taken_of terminal) w.due)) after h in
    let b = mapped (answering w terminal) (find (is_taken_of terminal) w.due) after a.1 in
    let held = find_held (is_taken_of terminal) w.due b.0 b.1 in
    record { command = b.0; is_due = held.0; of_terminal = eqb-true b.0.terminal terminal held.1; is = sym b.2 }
