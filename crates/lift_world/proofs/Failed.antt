-- After a fault nothing but Unknown is told of what wasn't due.
use Rattle.std.proofs.Common.{ℕ, ◌≡◌, ◌+◌, Bool, true, false, not, ◌&&◌, cond, eqb, ltb, List, [], ◌∷◌, ◌++◌, map, Some, All, refl, sym, ap, subst, ◌∙◌, inl, inr, append_assoc}
use Rattle.std.specs.Prelude.{Contains, IsTrue, unwrap_or, find, reverse, option_and_then, option_map}
use Rattle.std.specs.List.{AllByRecursion}
use Rattle.std.proofs.lemmas.Bool.{false≢true, and_parts, and_right}
use Rattle.std.proofs.lemmas.List.{append-nil}
use Rattle.std.proofs.lemmas.List.Elements.{All-nil, All-push, All-append, All-weaker, All-filter, All-map, All-contains, All-contains_itself}
use Rattle.lift_world.specs.declared.event.Taken.{Taken}
use Rattle.lift_world.specs.declared.event.Phase.{Phase}
use Rattle.lift_world.specs.declared.event.Phase.TheVariants.{Idle, Writing, Synced, GateWritten}
use Rattle.lift_world.specs.declared.event.Power.{Power}
use Rattle.lift_world.specs.declared.event.Power.TheVariants.{Running, Broken}
use Rattle.lift_world.specs.declared.event.Event.{Event}
use Rattle.lift_world.specs.declared.event.Event.TheVariants.{Ask, Take, Seal, Pull, Fold, Body as BodyWrite, FirstSync, Gate, SecondSync, Answer as Answering, Hear, Fault, Cut, Reopen}
use Rattle.lift_world.specs.Decided.{when, decided}
use Rattle.lift_world.specs.World.{World, SealedBatch, no_batch, is_running, is_broken, is_off, is_synced, is_gate_written, written, asks, is_taken_of, state_of}
use Rattle.lift_world.specs.Next.{run, next, unknown_to, asking, taking, deciding, sealing, pulled, in_phase, settling, failing, answering, hearing, next_answer, reopened, may_ask, may_take, may_seal, may_pull, may_write, may_sync, may_fail, may_reopen}
use Rattle.lift_world.specs.Faults.{IsFailed, FaultsLeaveDoubt, goes_on, WasDueOrUnknown, OnlyUnknownSince, UnknownAfterFault, UnknownOverReopening}
use Rattle.lift_world.specs.lemmas.Moves.{hold_when, hold_if, hold_then, hold_map}
use Rattle.lift_world.specs.lemmas.Entries.{find_held}
use Rattle.lift_world.proofs.Possibilities.{when_some}
use Rattle.lift_world.proofs.Turns.{runs}

pub not_running : (p : Power) → p ≡ Broken → is_running p ≡ true → ⊥
not_running p broken on = false≢true (sym (ap is_running broken) ∙ on)

may_fail_running : (w : World) → may_fail w ≡ true → is_running w.power ≡ true
may_fail_running w may = (and_parts (is_running w.power) (not (is_synced w.phase)) may).0

fails_in : (w : World) (phase : Phase) → w.power ≡ Running → w.phase ≡ phase → not (is_synced phase) ≡ true → next w Fault ≡ Some (failing w)
fails_in w phase on there unsynced =
    ap (λ (p : Power). when (is_running p && not (is_synced w.phase)) (failing w)) on
    ∙ ap (λ (p : Phase). when (not (is_synced p)) (failing w)) there
    ∙ ap (λ (b : Bool). when b (failing w)) unsynced

-- with no batch in flight a fault leaves none in doubt
fails_alone : (w : World) → w.flight ≡ no_batch → failing w ≡ record w { power = Broken }
fails_alone w none =
    ap (λ (b : SealedBatch). record w { power = Broken; flight = record { commands = []; upto = b.upto }; due = w.due ++ map unknown_to b.commands }) none
    ∙ ap (λ (cs : List Taken). record w { power = Broken; flight = no_batch; due = cs }) (append-nil w.due)
    ∙ ap (λ (b : SealedBatch). record w { power = Broken; flight = b }) (sym none)

pub faults_leave_doubt : (w : World) → FaultsLeaveDoubt w
faults_leave_doubt w = record {
  writing = λ n on there. fails_in w (Writing n) on there refl;
  gate = λ on there. fails_in w GateWritten on there refl;
  idle = λ on there none. fails_in w Idle on there refl ∙ ap (λ (x : World). Some x) (fails_alone w none);
  synced = λ there. ap (λ (p : Phase). when (is_running w.power && not (is_synced p)) (failing w)) there
      ∙ ap (λ (b : Bool). when b (failing w)) (and_right (is_running w.power) false refl);
  only_running = λ after h. runs w.power (may_fail_running w (when_some (may_fail w) (failing w) after h).0);
  gives = λ after h. subst (λ (x : World). IsFailed w x) (when_some (may_fail w) (failing w) after h).1 (record {
    broken = refl;
    in_doubt = refl;
    answers_unknown = refl;
    same_phase = refl;
    same_safe = refl;
    same_accepted = refl;
    same_queue = refl;
    same_taken = refl;
    same_given = refl;
  });
}

-- broken, nothing in flight, and since that world nothing but Unknown was told or is due
pub record Since (old : World) (power : Power) (flying given due : List Taken) : Type 0 where
  pub broken : power ≡ Broken
  pub landed : flying ≡ []
  pub later : List Taken
  pub given_is : given ≡ old.given ++ later
  pub answered : All (WasDueOrUnknown old) later
  pub all_due : All (WasDueOrUnknown old) due

abbrev pub IsSince : World → World → Type 0
IsSince old w = Since old w.power w.flight.commands w.given w.due

module _ (old : World) where
  all_due_before : All (WasDueOrUnknown old) old.due
  all_due_before = All-weaker (Contains old.due) (WasDueOrUnknown old) (λ c h. inl h) old.due (All-contains_itself old.due)

  all_unknown : (cs : List Taken) → All (WasDueOrUnknown old) (map unknown_to cs)
  all_unknown cs = All-map (WasDueOrUnknown old) unknown_to cs (λ k d lt. inr refl)

  failing_since : IsSince old (failing old)
  failing_since = record {
    broken = refl;
    landed = refl;
    later = [];
    given_is = sym (append-nil old.given);
    answered = All-nil (WasDueOrUnknown old);
    all_due = All-append (WasDueOrUnknown old) old.due (map unknown_to old.flight.commands) all_due_before (all_unknown old.flight.commands);
  }

  more_due : (w : World) (cs : List Taken) → IsSince old w → All (WasDueOrUnknown old) cs → Since old w.power w.flight.commands w.given (w.due ++ cs)
  more_due w cs k all = record {
    broken = k.broken;
    landed = k.landed;
    later = k.later;
    given_is = k.given_is;
    answered = k.answered;
    all_due = All-append (WasDueOrUnknown old) w.due cs k.all_due all;
  }

  answering_since : (w : World) (terminal : ℕ) (c : Taken) → IsSince old w → find (is_taken_of terminal) w.due ≡ Some c → IsSince old (answering w terminal c)
  answering_since w terminal c k at = record {
    broken = k.broken;
    landed = k.landed;
    later = k.later ++ c ∷ [];
    given_is = ap (λ (cs : List Taken). cs ++ c ∷ []) k.given_is ∙ append_assoc old.given k.later (c ∷ []);
    answered = All-push (WasDueOrUnknown old) k.later c k.answered (All-contains (WasDueOrUnknown old) w.due c k.all_due (find_held (is_taken_of terminal) w.due c at).0);
    all_due = All-filter _ (WasDueOrUnknown old) w.due k.all_due;
  }

  pulling_since : (w : World) (batch : SealedBatch) (rest : List SealedBatch) (broken more : Bool) → is_broken w.power ≡ broken → IsSince old w
      → IsSince old (cond broken (record w { queue = rest; due = w.due ++ map unknown_to batch.commands })
      (cond more (record w { queue = rest; flight = batch; phase = Writing 0 }) (record w { queue = rest; due = w.due ++ batch.commands })))
  pulling_since w batch rest true more e k = more_due w (map unknown_to batch.commands) k (all_unknown batch.commands)
  pulling_since w batch rest false more e k = absurd (false≢true (sym e ∙ ap is_broken k.broken))

  pulled_since : (w : World) (queue : List SealedBatch) → IsSince old w → IsSince old (unwrap_or (pulled w queue) w)
  pulled_since w [] k = k
  pulled_since w (batch ∷ rest) k = pulling_since w batch rest (is_broken w.power) (ltb w.safe batch.upto) refl k

  since : (w : World) (event : Event) → IsTrue (goes_on event) → IsSince old w → IsSince old (unwrap_or (next w event) w)
  since w (Ask terminal number body) on k = hold_when (IsSince old) w (asking w (record { terminal = terminal; number = number; body = body })) (may_ask w terminal) k (λ _. k)
  since w (Take terminal letter) on k = hold_if (IsSince old) w (option_and_then (taking w letter) (find (asks terminal) (reverse w.asked))) (may_take w terminal) k
      (λ _. hold_then (IsSince old) w (taking w letter) (find (asks terminal) (reverse w.asked)) k (λ command _.
      hold_map (IsSince old) w (deciding w command) (decided w.building (state_of w) command.terminal command.number command.body letter) k (λ d _. k)))
  since w Seal on k = hold_when (IsSince old) w (sealing w) (may_seal w) k (λ _. k)
  since w Pull on k = hold_if (IsSince old) w (pulled w w.queue) (may_pull w) k (λ _. pulled_since w w.queue k)
  since w Fold on k = hold_then (IsSince old) w (λ n. when (is_running w.power && eqb n 0) w) (written w.phase) k (λ n _. hold_when (IsSince old) w w (is_running w.power && eqb n 0) k (λ _. k))
  since w BodyWrite on k = hold_then (IsSince old) w (λ n. when (may_write w n) (in_phase w (Writing (n + 1)))) (written w.phase) k (λ n _. hold_when (IsSince old) w (in_phase w (Writing (n + 1))) (may_write w n) k (λ _. k))
  since w FirstSync on k = hold_then (IsSince old) w (λ n. when (may_sync w n) (in_phase w Synced)) (written w.phase) k (λ n _. hold_when (IsSince old) w (in_phase w Synced) (may_sync w n) k (λ _. k))
  since w Gate on k = hold_when (IsSince old) w (in_phase w GateWritten) (is_running w.power && is_synced w.phase) k (λ _. k)
  since w SecondSync on k = hold_when (IsSince old) w (settling w) (is_running w.power && is_gate_written w.phase) k
      (λ may. absurd (not_running w.power k.broken (and_parts (is_running w.power) (is_gate_written w.phase) may).0))
  since w (Answering terminal) on k = hold_if (IsSince old) w (option_map (answering w terminal) (find (is_taken_of terminal) w.due)) (not (is_off w.power)) k
      (λ _. hold_map (IsSince old) w (answering w terminal) (find (is_taken_of terminal) w.due) k (λ c at. answering_since w terminal c k at))
  since w (Hear terminal) on k = hold_if (IsSince old) w (option_map (hearing w) (next_answer w terminal)) (not (is_off w.power)) k
      (λ _. hold_map (IsSince old) w (hearing w) (next_answer w terminal) k (λ a _. k))
  since w Fault on k = hold_when (IsSince old) w (failing w) (may_fail w) k (λ may. absurd (not_running w.power k.broken (may_fail_running w may)))
  since w (Cut kept) on k = absurd (false≢true on)
  since w (Reopen kept) on k = absurd (false≢true on)

  run_since : (events : List Event) (w : World) → AllByRecursion (λ (e : Event). IsTrue (goes_on e)) events → IsSince old w → IsSince old (run events w)
  run_since [] w on k = k
  run_since (event ∷ events) w on k = run_since events (unwrap_or (next w event) w) on.1 (since w event on.0 k)

  failed_since : (failed : World) (events : List Event) → next old Fault ≡ Some failed → AllByRecursion (λ (e : Event). IsTrue (goes_on e)) events → IsSince old (run events failed)
  failed_since failed events h on =
      run_since events failed on (subst (λ (x : World). IsSince old x) (when_some (may_fail old) (failing old) failed h).1 failing_since)

  pub unknown_after_fault : UnknownAfterFault old
  unknown_after_fault failed events h on =
      let k = failed_since failed events h on in
      record { later = k.later; given = k.given_is; answered = k.answered; due = k.all_due }

  pub unknown_over_reopening : UnknownOverReopening old
  unknown_over_reopening failed after events kept h on opens =
      let w : World = run events failed in
      let k : IsSince old w = failed_since failed events h on in
      subst (λ (x : World). OnlyUnknownSince old x) (when_some (may_reopen w w.power kept) (reopened w kept) after opens).1
      (record { later = k.later; given = k.given_is; answered = k.answered; due = All-append (WasDueOrUnknown old) w.due (map unknown_to w.taken) k.all_due (all_unknown w.taken) })
