-- Whole turns are lists of events: a scan, and then the flush of its batch.
use Rattle.std.proofs.Common.{ℕ, ◌≡◌, ◌+◌, ◌-◌, ◌<◌, Bool, true, List, [], ◌∷◌, ◌++◌, length, map, replicate, Option, Some, refl, sym, ap, subst, ◌∙◌, arith, append_assoc}
use Rattle.std.proofs.lemmas.List.{append-nil, length-append}
use Rattle.lift_base.specs.declared.command.Reply.{Reply}
use Rattle.lift_policy.specs.Eligible.{any_eligible}
use Rattle.lift_policy.specs.Run.{Run}
use Rattle.lift_policy.specs.Step.{State}
use Rattle.lift_policy.specs.declared.command.Command.{Command}
use Rattle.lift_world.specs.declared.event.Event.{Event}
use Rattle.lift_world.specs.declared.event.Event.TheVariants.{Seal, Pull, Fold, Fault}
use Rattle.lift_world.specs.declared.event.Phase.{Phase}
use Rattle.lift_world.specs.declared.event.Taken.{Taken}
use Rattle.lift_world.specs.World.{World, SealedBatch, state_of}
use Rattle.lift_world.specs.Next.{goes, sectors_for_body, answer_of, unknown_to}
use Rattle.lift_world.specs.Turns.{AreFound, IsAtRest, IsBrokenAtRest, with_replies, with_unknown, take_events, answer_events, calls_to, device_calls, turn_events, world_after_turn, TurnsAreRuns, MayFailIn, failed_events}
use Rattle.lift_world.specs.Turns.{failed, FailuresAreRuns, broken_events, turned_broken, BrokenTurnsAreRuns}
use Rattle.lift_world.specs.Relay.{AreApart, IsBetweenScans, IsBetweenFlushes, allocated, allocator_events, events_of_answers, answered_of, left_unanswered, flusher_events, failing_flush, broken_flush}
use Rattle.lift_world.specs.lemmas.Goes.{joined}
use Rattle.lift_world.proofs.Scans.{taken_as}
use Rattle.lift_world.proofs.Turns.{runs, SameLength, same_length, answers_of, all_apart}
use Rattle.lift_world.proofs.Relay.{FirstEnds, answers_map, allocations_are_events, flushes_where, fails_where, broken_where}

-- each command is answered
abbrev all : ℕ → Bool
all terminal = true

all_answered : (cs : List Taken) → answered_of all cs ≡ cs
all_answered [] = refl
all_answered (c ∷ cs) = ap (λ (xs : List Taken). c ∷ xs) (all_answered cs)

none_left : (cs : List Taken) → left_unanswered all cs ≡ []
none_left [] = refl
none_left (c ∷ cs) = none_left cs

-- Unknown, whatever was decided
unknown_is : (commands : List Command) (replies : List Reply) → SameLength commands replies → map unknown_to (with_replies commands replies) ≡ with_unknown commands
unknown_is [] replies h = refl
unknown_is (c ∷ commands) [] h = absurd h
unknown_is (c ∷ commands) (reply ∷ replies) h = ap (λ (cs : List Taken). unknown_to (taken_as c reply) ∷ cs) (unknown_is commands replies h)

module _ (w : World) (command : Command) (commands : List Command) (reply : Reply) (replies : List Reply) (state : State) (found : AreFound w (command ∷ commands))
    (r : Run w.building any_eligible (state_of w) (command ∷ commands) (reply ∷ replies) state) where
  abbrev cs : List Command
  cs = command ∷ commands

  abbrev rs : List Reply
  rs = reply ∷ replies

  abbrev held : List Taken
  held = with_replies cs rs

  abbrev scanned_on : World
  scanned_on = allocated w cs rs state

  abbrev batch : SealedBatch
  batch = record { commands = held; upto = length (w.accepted ++ state.batch) }

  same : SameLength cs rs
  same = same_length w.building (state_of w) state cs rs r

  queue_is : w.queue ≡ [] → scanned_on.queue ≡ batch ∷ []
  queue_is none = ap (λ (q : List SealedBatch). q ++ batch ∷ []) none

  apart : w.due ≡ [] → AreApart (w.due ++ held)
  apart none = subst (λ (xs : List Taken). AreApart (xs ++ held)) (sym none) (all_apart w cs rs found)

  -- the flush's answers are the turn's
  answers : events_of_answers (answered_of all held) ≡ answer_events cs
  answers = ap events_of_answers (all_answered held) ∙ answers_map held ∙ sym (answers_of cs rs same)

  none_due : w.due ++ left_unanswered all held ≡ w.due
  none_due = ap (λ (xs : List Taken). w.due ++ xs) (none_left held) ∙ append-nil w.due

  none_unknown : w.due ++ map unknown_to (left_unanswered all held) ≡ w.due
  none_unknown = ap (λ (xs : List Taken). w.due ++ map unknown_to xs) (none_left held) ∙ append-nil w.due

  scan : IsBetweenScans w → (letters : List (Option ℕ)) × (goes (allocator_events cs letters) w ≡ Some scanned_on)
  scan k = allocations_are_events w command commands reply replies state k found r

  -- a scan, and then its flush
  both : (letters : List (Option ℕ)) (flush : List Event) (end : World) → goes (allocator_events cs letters) w ≡ Some scanned_on → goes flush scanned_on ≡ Some end → goes (take_events cs letters ++ Seal ∷ flush) w ≡ Some end
  both letters flush end first then =
      ap (λ (es : List Event). goes es w) (sym (append_assoc (take_events cs letters) (Seal ∷ []) flush)) ∙ joined (allocator_events cs letters) flush w scanned_on first ∙ then

  module _ (k : IsAtRest w) where
    ends : FirstEnds scanned_on batch
    ends = let s = k.all_safe in let l = length-append w.accepted state.batch in record { above = omega arith; within = omega arith }

    count : batch.upto - w.safe ≡ length state.batch
    count = let s = k.all_safe in let l = length-append w.accepted state.batch in omega arith

    between : IsBetweenFlushes scanned_on
    between = record { running = runs w.power k.running; idle = k.idle; nothing_flies = k.nothing_flies }

    turn : (letters : List (Option ℕ)) × ((folds : ℕ) → goes (turn_events cs letters folds (length state.batch)) w ≡ Some (world_after_turn w cs rs state))
    turn =
        let s = scan (record { nothing_taken = k.nothing_taken; all_sealed = k.all_sealed }) in (
          s.0,
          λ folds.
              let n : ℕ = length state.batch in
              ap (λ (es : List Event). goes (take_events cs s.0 ++ (Seal ∷ Pull ∷ (device_calls folds n ++ es))) w) (sym answers)
              ∙ both s.0 (flusher_events all batch folds n) (world_after_turn w cs rs state) s.1
              (ap (λ (m : ℕ). goes (flusher_events all batch folds m) scanned_on) (sym count)
              ∙ flushes_where scanned_on all batch [] folds between ends (apart k.nothing_due) (queue_is k.nothing_queued)
              ∙ (λ i. Some (record (world_after_turn w cs rs state) {
                queue = sym k.nothing_queued i;
                due = none_due i;
                answered = w.answered ++ map answer_of (all_answered held i);
                given = w.given ++ all_answered held i;
              }))),
        )

    failure : (phase : Phase) → 0 < length state.batch → MayFailIn (sectors_for_body (length state.batch) + 1) phase
        → (letters : List (Option ℕ)) × ((folds : ℕ) → goes (failed_events cs letters folds phase (length state.batch)) w ≡ Some (failed w cs rs state phase))
    failure phase some fail =
        let s = scan (record { nothing_taken = k.nothing_taken; all_sealed = k.all_sealed }) in
        let c = count in (
          s.0,
          λ folds.
              let n : ℕ = length state.batch in
              ap (λ (es : List Event). goes (take_events cs s.0 ++ (Seal ∷ Pull ∷ (replicate folds Fold ++ (calls_to (sectors_for_body n + 1) phase ++ Fault ∷ es)))) w) (sym answers)
              ∙ both s.0 (failing_flush all batch folds phase n) (failed w cs rs state phase) s.1
              (ap (λ (m : ℕ). goes (failing_flush all batch folds phase m) scanned_on) (sym c)
              ∙ fails_where scanned_on all batch [] folds phase between ends (omega arith) (subst (λ (m : ℕ). MayFailIn (sectors_for_body m + 1) phase) (sym c) fail) (apart k.nothing_due) (queue_is k.nothing_queued)
              ∙ (λ i. Some (record (failed w cs rs state phase) {
                queue = sym k.nothing_queued i;
                due = none_unknown i;
                answered = w.answered ++ map answer_of (map unknown_to (all_answered held i));
                given = w.given ++ map unknown_to (all_answered held i);
              }))),
        )

  broken : IsBrokenAtRest w → (letters : List (Option ℕ)) × (goes (broken_events cs letters) w ≡ Some (turned_broken w cs state))
  broken k =
      let s = scan (record { nothing_taken = k.nothing_taken; all_sealed = k.all_sealed }) in
      let unknown : map unknown_to (answered_of all held) ≡ with_unknown cs = ap (map unknown_to) (all_answered held) ∙ unknown_is cs rs same in (
        s.0,
        ap (λ (es : List Event). goes (take_events cs s.0 ++ (Seal ∷ Pull ∷ es)) w) (sym answers)
            ∙ both s.0 (broken_flush all batch) (turned_broken w cs state) s.1
            (broken_where scanned_on all batch [] (record { broken = k.broken; nothing_flies = k.nothing_flies }) (apart k.nothing_due) (queue_is k.nothing_queued)
            ∙ (λ i. Some (record (turned_broken w cs state) {
              queue = sym k.nothing_queued i;
              due = none_unknown i;
              answered = w.answered ++ map answer_of (unknown i);
              given = w.given ++ unknown i;
            }))),
      )

pub turns_are_runs : (w : World) → TurnsAreRuns w
turns_are_runs w command commands reply replies state k found r = turn w command commands reply replies state found r k

pub failures_are_runs : (w : World) → FailuresAreRuns w
failures_are_runs w command commands reply replies state phase k found r some fail = failure w command commands reply replies state found r k phase some fail

pub broken_turns_are_runs : (w : World) → BrokenTurnsAreRuns w
broken_turns_are_runs w command commands reply replies state k found r = broken w command commands reply replies state found r k
