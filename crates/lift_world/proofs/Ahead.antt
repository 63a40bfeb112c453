-- The flusher works on within a scan.
use Rattle.std.proofs.Common.{ℕ, ◌≡◌, ◌≢◌, ◌+◌, ◌-◌, ◌≤◌, false, not, ◌&&◌, eqb, List, [], ◌∷◌, ◌++◌, length, map, take, drop, Option, Some, None, refl, sym, ap, subst, ◌∙◌, arith}
use Rattle.std.specs.Prelude.{IsTrue, nat_lt, find, reverse, count_by, option_map, option_and_then}
use Rattle.std.proofs.lemmas.Bool.{false≢true}
use Rattle.std.proofs.lemmas.List.{length-drop, length-take-le, take-append-le, drop-append-le, take-append-drop}
use Rattle.lift_base.specs.declared.history.Entry.{Entry}
use Rattle.lift_building.specs.Plan.{Plan}
use Rattle.lift_policy.specs.Step.{State}
use Rattle.lift_policy.specs.declared.command.Command.{Command}
use Rattle.lift_world.specs.declared.event.Answer.{Answer}
use Rattle.lift_world.specs.declared.event.Taken.{Taken}
use Rattle.lift_world.specs.declared.event.Event.{Event}
use Rattle.lift_world.specs.declared.event.Event.TheVariants.{Ask, Take, Seal, Pull, Fold, Body as BodyWrite, FirstSync, Gate, SecondSync, Answer as Answering, Hear, Fault, Cut, Reopen}
use Rattle.lift_world.specs.declared.event.Phase.TheVariants.{Writing, Synced, GateWritten}
use Rattle.lift_policy.specs.Decision.{Decision}
use Rattle.lift_world.specs.Decided.{when, decided}
use Rattle.lift_world.specs.World.{World, SealedBatch, is_running, is_broken, is_off, is_idle, is_synced, is_gate_written, written, is_taken_of, is_answer_to, asks, batch_in_flight, state_of}
use Rattle.lift_world.specs.Next.{next, taking, deciding, sealing, unanswered, unknown_to, answer_of, may_take, pulled, may_pull, in_phase, settling, failing, answering, sectors_for_body, may_write, may_sync, may_fail}
use Rattle.lift_world.specs.Possible.{CanBeLookedAt}
use Rattle.lift_world.specs.Relay.{is_flushers, FlusherPassesScans, FlusherComesFirst, FlusherPassesSeals}
use Rattle.lift_world.specs.lemmas.Phases.{writing_busy}
use Rattle.lift_world.proofs.Beside.{lift_when, lift_then, lift_if, lift_pull, lift_cond, keeps_words}
use Rattle.lift_world.specs.lemmas.Counted.{count_both, owed, in_queue, owed_unknown, owed_none, owed_parts, owed_others, answered_by, owed_to}
use Rattle.lift_world.proofs.Given.{led}
use Rattle.lift_world.specs.lemmas.Looks.{may_be_taken, takes_need_looks}
use Rattle.lift_world.proofs.Scans.{taken_as}
use Rattle.lift_world.specs.lemmas.Steps.{if_from, then_from, mapped, taken_next}
use Rattle.lift_world.specs.lemmas.Ordered.{Ordered, ordered_from, end_above, flies_to, none_owed}

-- a part of a prefix stays, whatever comes after it
part_of : (front ys : List Entry) (s u : ℕ) → s ≤ u → u ≤ length front → take (u - s) (drop s (front ++ ys)) ≡ take (u - s) (drop s front)
part_of front ys s u low high =
    let l = length-drop s front in
    ap (λ (xs : List Entry). take (u - s) xs) (drop-append-le s front ys (omega arith)) ∙ take-append-le (u - s) (drop s front) ys (omega arith)

-- the world with what was decided meanwhile
abbrev pub decided_on : World → State → List Taken → World
decided_on w state more = record w { accepted = take w.sealed w.accepted ++ state.batch; positions = state.positions; taken = w.taken ++ more }

module _ (w : World) (state : State) (more : List Taken) where
  abbrev behind : World → World
  behind x = decided_on x state more

  -- the batch in flight is sealed, and stays
  same_batch : Ordered w → is_idle w.phase ≡ false → batch_in_flight (behind w) ≡ batch_in_flight w
  same_batch order busy =
      let front : List Entry = take w.sealed w.accepted in
      let flown_is = flies_to w busy in
      let low = order.safe_first in
      let high = end_above _ w.queue w.sealed order.in_order in
      let whole = length-take-le w.sealed w.accepted order.accepted in
      part_of front state.batch w.safe w.flight.upto (omega arith) (omega arith)
      ∙ sym (part_of front (drop w.sealed w.accepted) w.safe w.flight.upto (omega arith) (omega arith))
      ∙ ap (λ (xs : List Entry). take (w.flight.upto - w.safe) (drop w.safe xs)) (take-append-drop w.sealed w.accepted)

  lift_pulled : (queue : List SealedBatch) → pulled (behind w) queue ≡ option_map behind (pulled w queue)
  lift_pulled [] = refl
  lift_pulled (batch ∷ rest) = ap (λ (x : World). Some x) (lift_pull behind (is_broken w.power) (nat_lt w.safe batch.upto) _ _ _)

  lift_body : (o : Option ℕ) → Ordered w → written w.phase ≡ o
      → option_and_then (λ n. when (may_write (behind w) n) (behind (in_phase w (Writing (n + 1))))) o ≡ option_map behind (option_and_then (λ n. when (may_write w n) (in_phase w (Writing (n + 1)))) o)
  lift_body None order at = refl
  lift_body (Some n) order at =
      ap (λ (xs : List Entry). when (is_running w.power && nat_lt n (sectors_for_body (length xs) + 1)) (behind (in_phase w (Writing (n + 1))))) (same_batch order (writing_busy w.phase n at))
      ∙ lift_when behind (may_write w n) (in_phase w (Writing (n + 1)))

  lift_sync : (o : Option ℕ) → Ordered w → written w.phase ≡ o
      → option_and_then (λ n. when (may_sync (behind w) n) (behind (in_phase w Synced))) o ≡ option_map behind (option_and_then (λ n. when (may_sync w n) (in_phase w Synced)) o)
  lift_sync None order at = refl
  lift_sync (Some n) order at =
      ap (λ (xs : List Entry). when (is_running w.power && eqb n (sectors_for_body (length xs) + 1)) (behind (in_phase w Synced))) (same_batch order (writing_busy w.phase n at))
      ∙ lift_when behind (may_sync w n) (in_phase w Synced)

  pub passes : (event : Event) → Ordered w → IsTrue (is_flushers event) → next (behind w) event ≡ option_map behind (next w event)
  passes (Ask terminal number body) order is = absurd (false≢true is)
  passes (Take terminal letter) order is = absurd (false≢true is)
  passes Seal order is = absurd (false≢true is)
  passes Pull order is = lift_cond behind (may_pull w) (pulled (behind w) w.queue) (pulled w w.queue) (lift_pulled w.queue)
  passes Fold order is = lift_then behind (λ n. is_running w.power && eqb n 0) (λ n. w) (written w.phase)
  passes BodyWrite order is = lift_body (written w.phase) order refl
  passes FirstSync order is = lift_sync (written w.phase) order refl
  passes Gate order is = lift_when behind (is_running w.power && is_synced w.phase) (in_phase w GateWritten)
  passes SecondSync order is = lift_when behind (is_running w.power && is_gate_written w.phase) (settling w)
  passes (Answering terminal) order is = lift_if behind (not (is_off w.power)) (answering w terminal) (find (is_taken_of terminal) w.due)
  passes (Hear terminal) order is = absurd (false≢true is)
  passes Fault order is = lift_when behind (may_fail w) (failing w)
  passes (Cut kept) order is = absurd (false≢true is)
  passes (Reopen kept) order is = absurd (false≢true is)

pub flusher_passes_scans : (w : World) → FlusherPassesScans w
flusher_passes_scans w command decision event order is = passes w decision.next (taken_as command decision.reply ∷ []) event (ordered_from w order) is

-- What the flusher's events leave of what a look and a decision read.
pub record Works (terminal : ℕ) (w y : World) : Type 0 where
  pub same_asked : y.asked ≡ w.asked
  pub same_building : y.building ≡ w.building
  pub same_state : state_of y ≡ state_of w
  pub no_more_queued : length y.queue ≤ length w.queue
  pub owes : answered_by y terminal + owed_to y terminal ≤ answered_by w terminal + owed_to w terminal

module _ (terminal : ℕ) (w : World) (event : Event) (is : IsTrue (is_flushers event)) where
  not_his : {A : Type 0} (other : Event) → event ≡ other → is_flushers other ≡ false → A
  not_his other e isnt = absurd (false≢true (sym isnt ∙ subst (λ (x : Event). IsTrue (is_flushers x)) e is))

  -- nothing but the queue and what is on its way
  moves : (y : World) → y.asked ≡ w.asked → y.building ≡ w.building → state_of y ≡ state_of w → y.answered ≡ w.answered → length y.queue ≤ length w.queue
      → owed_to y terminal ≤ owed_to w terminal → Works terminal w y
  moves y asked building state answered queue owed =
      let a : answered_by y terminal ≡ answered_by w terminal = ap (λ (xs : List Answer). count_by (is_answer_to terminal) xs) answered in
      record { same_asked = asked; same_building = building; same_state = state; no_more_queued = queue; owes = omega arith }

  first_owed : (batch : SealedBatch) (rest : List SealedBatch) → w.queue ≡ batch ∷ rest → owed terminal (in_queue w.queue) ≡ owed terminal batch.commands + owed terminal (in_queue rest)
  first_owed batch rest at = ap (λ (q : List SealedBatch). owed terminal (in_queue q)) at ∙ count_both (is_taken_of terminal) batch.commands (in_queue rest)

  longer : (batch : SealedBatch) (rest : List SealedBatch) → w.queue ≡ batch ∷ rest → length rest ≤ length w.queue
  longer batch rest at = let l : length w.queue ≡ length rest + 1 = ap length at ∙ omega arith in omega arith

  pub works : (y : World) → next w event ≡ Some y → Works terminal w y
  works y h =
      let none : owed terminal [] ≡ 0 = refl in
      led (Works terminal w) w event y (record {
        stays = moves _ refl refl refl refl (omega arith) (omega arith);
        asked = λ command on may e. not_his _ e refl;
        taken = λ t letter command d on may at made e. not_his _ e refl;
        sealed = λ on some e. not_his _ e refl;
        fails = λ batch rest on at broken.
            let q = first_owed batch rest at in
            let d = count_both (is_taken_of terminal) w.due (map unknown_to batch.commands) in
            let u = owed_unknown terminal batch.commands in
            moves _ refl refl refl refl (longer batch rest at) (omega arith);
        flies = λ batch rest on at idle more. let q = first_owed batch rest at in moves _ refl refl refl refl (longer batch rest at) (omega arith);
        lands = λ batch rest on at idle none.
            let q = first_owed batch rest at in
            let d = count_both (is_taken_of terminal) w.due batch.commands in
            moves _ refl refl refl refl (longer batch rest at) (omega arith);
        goes_on = λ phase on busy still. moves _ refl refl refl refl (omega arith) (omega arith);
        settled = λ on gate. let d = count_both (is_taken_of terminal) w.due w.flight.commands in moves _ refl refl refl refl (omega arith) (omega arith);
        answered = λ t c on at.
            let both = count_both (is_answer_to terminal) w.answered (answer_of c ∷ []) in
            let less = owed_others terminal t c w.due at in
            let same : count_by (is_answer_to terminal) (answer_of c ∷ []) ≡ owed terminal (c ∷ []) = refl in
            record { same_asked = refl; same_building = refl; same_state = refl; no_more_queued = omega arith; owes = omega arith };
        heard = λ a on. moves _ refl refl refl refl (omega arith) (omega arith);
        failed = λ on e.
            let d = count_both (is_taken_of terminal) w.due (map unknown_to w.flight.commands) in
            let u = owed_unknown terminal w.flight.commands in
            moves _ refl refl refl refl (omega arith) (omega arith);
        cut = λ kept e. not_his _ e refl;
        reopened = λ kept may e. not_his _ e refl;
      }) h

  -- a terminal that could be looked at still can be
  pub still_looked_at : (y : World) → next w event ≡ Some y → CanBeLookedAt w terminal → CanBeLookedAt y terminal
  still_looked_at y h can =
      let k = works y h in
      let keeps = keeps_words w event y (λ kept e. not_his (Cut kept) e refl) h in
      let none = owed_none terminal (unanswered w) can.not_taken in
      let before = owed_parts terminal w.due w.flight.commands (in_queue w.queue) w.taken in
      let after = owed_parts terminal y.due y.flight.commands (in_queue y.queue) y.taken in
      let same : count_by (asks terminal) y.asked ≡ count_by (asks terminal) w.asked = ap (λ (xs : List Command). count_by (asks terminal) xs) k.same_asked in
      let grown : answered_by y terminal ≡ answered_by w terminal + count_by (is_answer_to terminal) keeps.1.0 =
      ap (λ (xs : List Answer). count_by (is_answer_to terminal) xs) keeps.1.1 ∙ count_both (is_answer_to terminal) w.answered keeps.1.0 in
      let more = can.asks_more in
      let few = can.few_queued in
      let queue = k.no_more_queued in
      let owes = k.owes in
      record { powered = keeps.0 can.powered; few_queued = omega arith; asks_more = omega arith; not_taken = none_owed terminal (unanswered y) (omega arith) }

-- what a take does
pub record Took (w : World) (terminal : ℕ) (letter : Option ℕ) (taken : World) : Type 0 where
  pub command : Command
  pub decision : Decision
  pub is : deciding w command decision ≡ taken
  pub still : (event : Event) (before : World) → IsTrue (is_flushers event) → next w event ≡ Some before → next before (Take terminal letter) ≡ Some (deciding before command decision)

-- after the flusher's events it does the same
pub took : (w : World) (terminal : ℕ) (letter : Option ℕ) (taken : World) → next w (Take terminal letter) ≡ Some taken → Took w terminal letter taken
took w terminal letter taken takes =
    let a = if_from (may_take w terminal) (option_and_then (taking w letter) (find (asks terminal) (reverse w.asked))) taken takes in
    let b = then_from (taking w letter) (find (asks terminal) (reverse w.asked)) taken a.1 in
    let command : Command = b.0 in
    let c = mapped (deciding w command) (decided w.building (state_of w) command.terminal command.number command.body letter) taken b.2 in
    let d : Decision = c.0 in
    record {
      command = command;
      decision = d;
      is = c.2;
      still = λ event before is h.
          let k = works terminal w event is before h in
          let may = may_be_taken before terminal (still_looked_at terminal w event is before h (takes_need_looks w terminal letter taken takes)) in
          let finds : find (asks terminal) (reverse before.asked) ≡ Some command = ap (λ (xs : List Command). find (asks terminal) (reverse xs)) k.same_asked ∙ b.1 in
          let decides : decided before.building (state_of before) command.terminal command.number command.body letter ≡ Some d =
          ap (λ (p : Plan). decided p (state_of before) command.terminal command.number command.body letter) k.same_building
          ∙ ap (λ (s : State). decided w.building s command.terminal command.number command.body letter) k.same_state ∙ c.1 in
          taken_next before terminal letter command may finds ∙ ap (option_map (deciding before command)) decides;
    }

pub flusher_comes_first : (w : World) → FlusherComesFirst w
flusher_comes_first w terminal letter event taken later order is takes h =
    let t = took w terminal letter taken takes in
    let m = mapped (λ (v : World). deciding v t.command t.decision) (next w event) later
    (sym (flusher_passes_scans w t.command t.decision event order is) ∙ ap (λ (x : World). next x event) t.is ∙ h) in
    (m.0, m.1, t.still event m.0 is m.1 ∙ ap (λ (x : World). Some x) m.2)

-- After a seal the flusher works on as before it.
module _ (w : World) where
  abbrev last : SealedBatch
  last = record { commands = w.taken; upto = length w.accepted }

  pull_later : (queue : List SealedBatch) → queue ≢ [] → pulled (sealing w) (queue ++ last ∷ []) ≡ option_map sealing (pulled w queue)
  pull_later [] some = absurd (some refl)
  pull_later (batch ∷ rest) some = ap (λ (x : World). Some x) (lift_pull sealing (is_broken w.power) (nat_lt w.safe batch.upto) _ _ _)

  passes_seal : (event : Event) → IsTrue (is_flushers event) → (event ≡ Pull → w.queue ≢ []) → next (sealing w) event ≡ option_map sealing (next w event)
  passes_seal (Ask terminal number body) is some = absurd (false≢true is)
  passes_seal (Take terminal letter) is some = absurd (false≢true is)
  passes_seal Seal is some = absurd (false≢true is)
  passes_seal Pull is some = lift_cond sealing (may_pull w) (pulled (sealing w) (w.queue ++ last ∷ [])) (pulled w w.queue) (pull_later w.queue (some refl))
  passes_seal Fold is some = lift_then sealing (λ n. is_running w.power && eqb n 0) (λ n. w) (written w.phase)
  passes_seal BodyWrite is some = lift_then sealing (may_write w) (λ n. in_phase w (Writing (n + 1))) (written w.phase)
  passes_seal FirstSync is some = lift_then sealing (may_sync w) (λ n. in_phase w Synced) (written w.phase)
  passes_seal Gate is some = lift_when sealing (is_running w.power && is_synced w.phase) (in_phase w GateWritten)
  passes_seal SecondSync is some = lift_when sealing (is_running w.power && is_gate_written w.phase) (settling w)
  passes_seal (Answering terminal) is some = lift_if sealing (not (is_off w.power)) (answering w terminal) (find (is_taken_of terminal) w.due)
  passes_seal (Hear terminal) is some = absurd (false≢true is)
  passes_seal Fault is some = lift_when sealing (may_fail w) (failing w)
  passes_seal (Cut kept) is some = absurd (false≢true is)
  passes_seal (Reopen kept) is some = absurd (false≢true is)

pub flusher_passes_seals : (w : World) → FlusherPassesSeals w
flusher_passes_seals w event is some = passes_seal w event is some
