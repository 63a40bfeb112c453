-- Which events move what a power cut or a reopening could recover.
use Rattle.std.proofs.Common.{ℕ, ◌≡◌, ◌+◌, ◌-◌, ◌≤◌, Bool, true, false, not, ◌&&◌, ◌||◌, cond, eqb, ltb, List, [], ◌∷◌, ◌++◌, length, map, take, drop, Option, Some, refl, sym, ap, subst, ◌∙◌, arith}
use Rattle.std.specs.Prelude.{unwrap_or, find, reverse, option_and_then, option_map, IsTrue}
use Rattle.std.proofs.Math.Seq.{take-length}
use Rattle.std.proofs.lemmas.Bool.{false≢true, and_parts}
use Rattle.std.proofs.lemmas.List.{take-append-le, drop-append-le, take-append-drop, length-take-le, length-drop}
use Rattle.lift_base.specs.declared.history.Entry.{Entry}
use Rattle.lift_policy.specs.declared.command.Command.{Command}
use Rattle.lift_world.specs.declared.event.Kept.{Kept}
use Rattle.lift_world.specs.declared.event.Kept.TheVariants.{Safe, WithBatch}
use Rattle.lift_world.specs.declared.event.Phase.{Phase}
use Rattle.lift_world.specs.declared.event.Phase.TheVariants.{Idle, Writing, Synced, GateWritten}
use Rattle.lift_world.specs.declared.event.Power.{Power}
use Rattle.lift_world.specs.declared.event.Power.TheVariants.{Running, Broken, Off}
use Rattle.lift_world.specs.declared.event.Event.{Event}
use Rattle.lift_world.specs.declared.event.Event.TheVariants.{Ask, Take, Seal, Pull, Fold, Body as BodyWrite, FirstSync, Gate, SecondSync, Answer as Answering, Hear, Fault, Cut, Reopen}
use Rattle.lift_policy.specs.Decision.{Decision}
use Rattle.lift_world.specs.Decided.{decided, when}
use Rattle.lift_world.specs.World.{World, SealedBatch, is_running, is_broken, is_off, is_idle, is_synced, is_gate_written, written, same_kept, asks, is_taken_of, state_of, safe_list, batch_in_flight, may_keep, outcome}
use Rattle.lift_world.specs.Next.{next, unknown_to, asking, taking, deciding, sealing, pulled, in_phase, settling, failing, answering, hearing, next_answer, cutting, reopened, is_empty, is_quiet, may_ask, may_take, may_seal, may_pull, may_write, may_sync, may_fail, may_reopen}
use Rattle.lift_world.specs.Relay.{IsQueueInOrder, flown}
use Rattle.lift_world.specs.Outcomes.{moves_outcomes, SameOutcomes, OutcomesStay, GateOffersBatch, GatesOfferBatches, SyncKeepsBatch, SyncsKeepBatches, ReopeningKeepsOne, ReopeningsKeepOne}
use Rattle.lift_world.specs.lemmas.Decisions.{true_of}
use Rattle.lift_world.specs.lemmas.Moves.{hold_when, hold_if, hold_then, hold_map}
use Rattle.lift_world.specs.lemmas.Ordered.{end_above, flies_to}
use Rattle.lift_world.specs.lemmas.Phases.{not_idle}
use Rattle.lift_world.proofs.Possibilities.{when_some}
use Rattle.lift_world.proofs.Replayed.{batch_front}

idle_closed : (phase : Phase) → is_idle phase ≡ true → is_gate_written phase ≡ false
idle_closed Idle h = refl
idle_closed (Writing n) h = refl
idle_closed Synced h = refl
idle_closed GateWritten h = cc

synced_closed : (phase : Phase) → is_synced phase ≡ true → is_gate_written phase ≡ false
synced_closed Idle h = refl
synced_closed (Writing n) h = refl
synced_closed Synced h = refl
synced_closed GateWritten h = cc

writing_closed : (phase : Phase) (n : ℕ) → written phase ≡ Some n → is_gate_written phase ≡ false
writing_closed Idle n h = refl
writing_closed (Writing m) n h = refl
writing_closed Synced n h = refl
writing_closed GateWritten n h = cc

-- a prefix of what was accepted up to some place, whatever comes after it
front_kept : (n m : ℕ) (xs ys : List Entry) → n ≤ m → m ≤ length xs → take n (take m xs ++ ys) ≡ take n xs
front_kept n m xs ys le in_range =
    let l = length-take-le m xs in_range in
    take-append-le n (take m xs) ys (omega arith)
    ∙ sym (take-append-le n (take m xs) (drop m xs) (omega arith)) ∙ ap (λ (zs : List Entry). take n zs) (take-append-drop m xs)

-- the same of entries from some place on
entries_kept : (n k m : ℕ) (xs ys : List Entry) → n ≤ m → n + k ≤ m → m ≤ length xs → take k (drop n (take m xs ++ ys)) ≡ take k (drop n xs)
entries_kept n k m xs ys le within in_range =
    front ys ∙ sym (front (drop m xs)) ∙ ap (λ (zs : List Entry). take k (drop n zs)) (take-append-drop m xs)
  where
    front : (zs : List Entry) → take k (drop n (take m xs ++ zs)) ≡ take k (drop n (take m xs))
    front zs =
        let l = length-take-le m xs in_range in
        let d = length-drop n (take m xs) in
        ap (λ (es : List Entry). take k es) (drop-append-le n (take m xs) zs (omega arith)) ∙ take-append-le k (drop n (take m xs)) zs (omega arith)

-- a pull while running comes while no batch is in flight
pulls_idle : (p : Power) (idle : Bool) → is_broken p ≡ false → (is_broken p || (is_running p && idle)) ≡ true → idle ≡ true
pulls_idle Running idle e may = may
pulls_idle Broken idle e may = cc
pulls_idle (Off kept) idle e may = cc

module _ (w : World) (order : IsQueueInOrder w) (event : Event) where
  abbrev Same : World → Type 0
  Same x = SameOutcomes w event x

  -- the safe list and the batch in flight stay, and whether it can be kept
  same_by : (x : World) → is_gate_written x.phase ≡ is_gate_written w.phase → safe_list x ≡ safe_list w → batch_in_flight x ≡ batch_in_flight w → Same x
  same_by x gate safe batch = record { same_choice = choice; same_outcome = λ kept _. list kept; same_batch = λ _. batch }
    where
      choice : (kept : Kept) → may_keep x kept ≡ may_keep w kept
      choice Safe = refl
      choice WithBatch = gate

      list : (kept : Kept) → outcome x kept ≡ outcome w kept
      list Safe = safe
      list WithBatch = ap (λ (es : List Entry). es ++ batch_in_flight x) safe ∙ ap (λ (es : List Entry). safe_list w ++ es) batch

  stays : Same w
  stays = same_by w refl refl refl

  sealed_first : w.safe ≤ w.sealed
  sealed_first =
      let a = order.safe_first in
      let b = end_above (flown w) w.queue w.sealed order.in_order in
      omega arith

  takes : (command : Command) (d : Decision) → Same (deciding w command d)
  takes command d =
      let a = sealed_first in
      let b = order.doubt in
      same_by (deciding w command d) refl (front_kept w.safe w.sealed w.accepted d.next.batch sealed_first order.all_accepted)
      (entries_kept w.safe (w.flight.upto - w.safe) w.sealed w.accepted d.next.batch sealed_first (omega arith) order.all_accepted)

  -- a pull brings a batch that can't be kept, where none was in flight
  flies : (batch : SealedBatch) (rest : List SealedBatch) → event ≡ Pull → is_gate_written w.phase ≡ false → Same (record w { queue = rest; flight = batch; phase = Writing 0 })
  flies batch rest is before = record { same_choice = choice; same_outcome = list; same_batch = λ isnt. absurd (isnt is) }
    where
      choice : (kept : Kept) → may_keep (record w { phase = Writing 0 }) kept ≡ may_keep w kept
      choice Safe = refl
      choice WithBatch = sym before

      list : (kept : Kept) → IsTrue (may_keep w kept) → outcome (record w { queue = rest; flight = batch; phase = Writing 0 }) kept ≡ outcome w kept
      list Safe may = refl
      list WithBatch may = absurd (false≢true (sym before ∙ true_of (is_gate_written w.phase) may))

  pulls : (batch : SealedBatch) (rest : List SealedBatch) (broken more : Bool) → event ≡ Pull → is_broken w.power ≡ broken → may_pull w ≡ true
      → Same (cond broken (record w { queue = rest; due = w.due ++ map unknown_to batch.commands })
      (cond more (record w { queue = rest; flight = batch; phase = Writing 0 }) (record w { queue = rest; due = w.due ++ batch.commands })))
  pulls batch rest true more is e may = same_by _ refl refl refl
  pulls batch rest false false is e may = same_by _ refl refl refl
  pulls batch rest false true is e may = flies batch rest is (idle_closed w.phase (pulls_idle w.power (is_idle w.phase) e may))

  pulls_first : (queue : List SealedBatch) → event ≡ Pull → may_pull w ≡ true → Same (unwrap_or (pulled w queue) w)
  pulls_first [] is may = stays
  pulls_first (batch ∷ rest) is may = pulls batch rest (is_broken w.power) (ltb w.safe batch.upto) is refl may

same : (w : World) → IsQueueInOrder w → (event : Event) → moves_outcomes event ≡ false → SameOutcomes w event (unwrap_or (next w event) w)
same w order (Ask terminal number body) still =
    let command : Command = record { terminal = terminal; number = number; body = body } in
    let event : Event = Ask terminal number body in
    hold_when (SameOutcomes w event) w (asking w command) (may_ask w terminal) (stays w order event) (λ _. same_by w order event (asking w command) refl refl refl)
same w order (Take terminal letter) still =
    let event : Event = Take terminal letter in
    let stay = stays w order event in
    hold_if (SameOutcomes w event) w (option_and_then (taking w letter) (find (asks terminal) (reverse w.asked))) (may_take w terminal) stay
    (λ _. hold_then (SameOutcomes w event) w (taking w letter) (find (asks terminal) (reverse w.asked)) stay (λ command _.
    hold_map (SameOutcomes w event) w (deciding w command) (decided w.building (state_of w) command.terminal command.number command.body letter) stay (λ d _. takes w order event command d)))
same w order Seal still = hold_when (SameOutcomes w Seal) w (sealing w) (may_seal w) (stays w order Seal) (λ _. same_by w order Seal (sealing w) refl refl refl)
same w order Pull still = hold_if (SameOutcomes w Pull) w (pulled w w.queue) (may_pull w) (stays w order Pull) (λ may. pulls_first w order Pull w.queue refl may)
same w order Fold still =
    let stay = stays w order Fold in
    hold_then (SameOutcomes w Fold) w (λ n. when (is_running w.power && eqb n 0) w) (written w.phase) stay (λ n _. hold_when (SameOutcomes w Fold) w w (is_running w.power && eqb n 0) stay (λ _. stay))
same w order BodyWrite still =
    let stay = stays w order BodyWrite in
    hold_then (SameOutcomes w BodyWrite) w (λ n. when (may_write w n) (in_phase w (Writing (n + 1)))) (written w.phase) stay
    (λ n at. hold_when (SameOutcomes w BodyWrite) w (in_phase w (Writing (n + 1))) (may_write w n) stay
    (λ _. same_by w order BodyWrite (in_phase w (Writing (n + 1))) (sym (writing_closed w.phase n at)) refl refl))
same w order FirstSync still =
    let stay = stays w order FirstSync in
    hold_then (SameOutcomes w FirstSync) w (λ n. when (may_sync w n) (in_phase w Synced)) (written w.phase) stay
    (λ n at. hold_when (SameOutcomes w FirstSync) w (in_phase w Synced) (may_sync w n) stay (λ _. same_by w order FirstSync (in_phase w Synced) (sym (writing_closed w.phase n at)) refl refl))
same w order Gate still = absurd (false≢true (sym still))
same w order SecondSync still = absurd (false≢true (sym still))
same w order (Answering terminal) still =
    let event : Event = Answering terminal in
    let stay = stays w order event in
    hold_if (SameOutcomes w event) w (option_map (answering w terminal) (find (is_taken_of terminal) w.due)) (not (is_off w.power)) stay
    (λ _. hold_map (SameOutcomes w event) w (answering w terminal) (find (is_taken_of terminal) w.due) stay (λ c _. same_by w order event (answering w terminal c) refl refl refl))
same w order (Hear terminal) still =
    let event : Event = Hear terminal in
    let stay = stays w order event in
    hold_if (SameOutcomes w event) w (option_map (hearing w) (next_answer w terminal)) (not (is_off w.power)) stay
    (λ _. hold_map (SameOutcomes w event) w (hearing w) (next_answer w terminal) stay (λ a _. same_by w order event (hearing w a) refl refl refl))
same w order Fault still = hold_when (SameOutcomes w Fault) w (failing w) (may_fail w) (stays w order Fault) (λ _. same_by w order Fault (failing w) refl refl refl)
same w order (Cut kept) still = hold_when (SameOutcomes w (Cut kept)) w (cutting w kept) (may_keep w kept) (stays w order (Cut kept)) (λ _. same_by w order (Cut kept) (cutting w kept) refl refl refl)
same w order (Reopen kept) still = absurd (false≢true (sym still))

pub outcomes_stay : (w : World) → OutcomesStay w
outcomes_stay w order event after still h = subst (λ (x : World). SameOutcomes w event x) (ap (λ (o : Option World). unwrap_or o w) h) (same w order event still)

pub gates_offer_batches : (w : World) → GatesOfferBatches w
gates_offer_batches w after h =
    let s = when_some (is_running w.power && is_synced w.phase) (in_phase w GateWritten) after h in
    subst (λ (x : World). GateOffersBatch w x) s.1
    (record { not_before = synced_closed w.phase (and_parts (is_running w.power) (is_synced w.phase) s.0).1; offered = refl; same_outcome = list })
  where
    list : (kept : Kept) → outcome (in_phase w GateWritten) kept ≡ outcome w kept
    list Safe = refl
    list WithBatch = refl

pub syncs_keep_batches : (w : World) → SyncsKeepBatches w
syncs_keep_batches w order after h =
    let s = when_some (is_running w.power && is_gate_written w.phase) (settling w) after h in
    let gate = (and_parts (is_running w.power) (is_gate_written w.phase) s.0).1 in
    let ahead = flies_to w (not_idle w.phase gate) in
    let first = order.safe_first in
    subst (λ (x : World). SyncKeepsBatch w x) s.1
    (record { offered = gate; kept = batch_front w.accepted w.safe w.flight.upto w.flight.upto (omega arith); no_more = refl })

reopening_keeps : (w : World) (power : Power) (kept : Kept) → may_reopen w power kept ≡ true → may_keep w kept ≡ true
reopening_keeps w Running kept may = (and_parts (is_quiet w) (may_keep w kept) may).1
reopening_keeps w Broken kept may = (and_parts (is_empty w.queue) (may_keep w kept) may).1
reopening_keeps w (Off last) kept may = (and_parts (same_kept last kept) (may_keep w kept) may).1

pub reopenings_keep_one : (w : World) → ReopeningsKeepOne w
reopenings_keep_one w kept after h =
    let s = when_some (may_reopen w w.power kept) (reopened w kept) after h in
    subst (λ (x : World). ReopeningKeepsOne w kept x) s.1
    (record { offered = reopening_keeps w w.power kept s.0; is_safe = take-length (outcome w kept); no_more = refl })
