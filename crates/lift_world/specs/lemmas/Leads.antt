-- What an event leads to, form by form: what holds of each form holds after every event.
use Rattle.std.proofs.Common.{ℕ, ◌≡◌, ◌+◌, Bool, true, false, not, ◌&&◌, ◌||◌, cond, eqb, ltb, List}
use Rattle.std.proofs.Common.{[], ◌∷◌, ◌++◌, length, map, Option, Some, refl}
use Rattle.std.specs.Prelude.{unwrap_or, option_and_then, option_map, find, reverse, nat_le}
use Rattle.std.proofs.lemmas.Bool.{false≢true, and_parts, not-true}
use Rattle.lift_base.specs.declared.limits.TheConstants.{MOST_BATCHES}
use Rattle.lift_policy.specs.declared.command.Command.{Command}
use Rattle.lift_world.specs.declared.event.Kept.{Kept}
use Rattle.lift_world.specs.declared.event.Taken.{Taken}
use Rattle.lift_world.specs.declared.event.Answer.{Answer}
use Rattle.lift_world.specs.declared.event.Phase.{Phase}
use Rattle.lift_world.specs.declared.event.Phase.TheVariants.{Writing, Synced, GateWritten}
use Rattle.lift_world.specs.declared.event.Power.{Power}
use Rattle.lift_world.specs.declared.event.Power.TheVariants.{Running, Broken, Off}
use Rattle.lift_world.specs.declared.event.Event.{Event}
use Rattle.lift_world.specs.declared.event.Event.TheVariants.{Ask, Take, Seal, Pull, Fold}
use Rattle.lift_world.specs.declared.event.Event.TheVariants.{Body as BodyWrite, FirstSync, Gate}
use Rattle.lift_world.specs.declared.event.Event.TheVariants.{SecondSync, Answer as Answering, Hear}
use Rattle.lift_world.specs.declared.event.Event.TheVariants.{Fault, Cut, Reopen}
use Rattle.lift_policy.specs.Decision.{Decision}
use Rattle.lift_world.specs.Decided.{when, decided}
use Rattle.lift_world.specs.World.{World, SealedBatch, is_running, is_broken, is_off, is_idle}
use Rattle.lift_world.specs.World.{is_synced, is_gate_written, written, asks, is_taken_of, state_of}
use Rattle.lift_world.specs.World.{may_keep}
use Rattle.lift_world.specs.Next.{next, unknown_to, asking, taking, deciding, sealing, pulled}
use Rattle.lift_world.specs.Next.{in_phase, settling, failing, answering, hearing, next_answer}
use Rattle.lift_world.specs.Next.{cutting, reopened, is_waiting, is_empty, may_ask, may_take}
use Rattle.lift_world.specs.Next.{may_seal, may_pull, may_write, may_sync, may_fail, may_reopen}
use Rattle.lift_world.specs.lemmas.Phases.{not_idle_synced, writing_busy}
use Rattle.lift_world.specs.lemmas.Moves.{hold_when, hold_if, hold_then, hold_map}

pub running_on : (p : Power) → is_running p ≡ true → is_off p ≡ false
running_on Running h = refl
running_on Broken h = absurd (false≢true h)
running_on (Off kept) h = absurd (false≢true h)

pulling_on : (p : Power) (idle : Bool) → (is_broken p || (is_running p && idle)) ≡ true
    → is_off p ≡ false
pulling_on Running idle h = refl
pulling_on Broken idle h = refl
pulling_on (Off kept) idle h = absurd (false≢true h)

pub record Leads (P : World → Type 0) (w : World) (event : Event) : Type 0 where
  pub stays : P w
  pub asked : (command : Command) → is_off w.power ≡ false → may_ask w command.terminal ≡ true
      → event ≡ Ask command.terminal command.number command.body → P (asking w command)
  pub taken : (terminal : ℕ) (letter : Option ℕ) (command : Command) (d : Decision)
      → is_off w.power ≡ false → may_take w terminal ≡ true
      → find (asks terminal) (reverse w.asked) ≡ Some command
      → decided w.building (state_of w) command.terminal command.number command.body letter ≡ Some d
      → event ≡ Take terminal letter → P (deciding w command d)
  pub sealed : is_off w.power ≡ false → is_empty w.taken ≡ false → event ≡ Seal → P (sealing w)
  pub fails : (batch : SealedBatch) (rest : List SealedBatch) → is_off w.power ≡ false
      → w.queue ≡ batch ∷ rest
      → is_broken w.power ≡ true
      → P (record w { queue = rest; due = w.due ++ map unknown_to batch.commands })
  pub flies : (batch : SealedBatch) (rest : List SealedBatch) → is_running w.power ≡ true
      → w.queue ≡ batch ∷ rest → is_idle w.phase ≡ true → ltb w.safe batch.upto ≡ true
      → P (record w { queue = rest; flight = batch; phase = Writing 0 })
  pub lands : (batch : SealedBatch) (rest : List SealedBatch) → is_running w.power ≡ true
      → w.queue ≡ batch ∷ rest → is_idle w.phase ≡ true → ltb w.safe batch.upto ≡ false
      → P (record w { queue = rest; due = w.due ++ batch.commands })
  pub goes_on : (phase : Phase) → is_off w.power ≡ false → is_idle w.phase ≡ false
      → is_idle phase ≡ false → P (in_phase w phase)
  pub settled : is_off w.power ≡ false → is_gate_written w.phase ≡ true → P (settling w)
  pub answered : (terminal : ℕ) (c : Taken) → is_off w.power ≡ false
      → find (is_taken_of terminal) w.due ≡ Some c → P (answering w terminal c)
  pub heard : (a : Answer) → is_off w.power ≡ false → P (hearing w a)
  pub failed : is_off w.power ≡ false → event ≡ Fault → P (failing w)
  pub cut : (kept : Kept) → event ≡ Cut kept → P (cutting w kept)
  pub reopened : (kept : Kept) → may_reopen w w.power kept ≡ true → event ≡ Reopen kept
      → P (reopened w kept)

module _ (P : World → Type 0) (w : World) where
  pull_running : (event : Event) (batch : SealedBatch) (rest : List SealedBatch) (more : Bool)
      → ltb w.safe batch.upto ≡ more → is_idle w.phase ≡ true → is_running w.power ≡ true
      → w.queue ≡ batch ∷ rest → Leads P w event
      → P (cond more (record w { queue = rest; flight = batch; phase = Writing 0 })
      (record w { queue = rest; due = w.due ++ batch.commands }))
  pull_running event batch rest true e idle on at k = k.flies batch rest on at idle e
  pull_running event batch rest false e idle on at k = k.lands batch rest on at idle e

  pull_first : (event : Event) (batch : SealedBatch) (rest : List SealedBatch) (broken : Bool)
      → is_broken w.power ≡ broken → (broken || (is_running w.power && is_idle w.phase)) ≡ true
      → is_off w.power ≡ false → w.queue ≡ batch ∷ rest → Leads P w event
      → P (cond broken (record w { queue = rest; due = w.due ++ map unknown_to batch.commands })
      (cond (ltb w.safe batch.upto) (record w { queue = rest; flight = batch; phase = Writing 0 })
      (record w { queue = rest; due = w.due ++ batch.commands })))
  pull_first event batch rest true e may on at k = k.fails batch rest on at e
  pull_first event batch rest false e may on at k =
      let parts = and_parts (is_running w.power) (is_idle w.phase) may in
      pull_running event batch rest (ltb w.safe batch.upto) refl parts.1 parts.0 at k

  pulls : (event : Event) (queue : List SealedBatch) → w.queue ≡ queue → may_pull w ≡ true
      → is_off w.power ≡ false → Leads P w event → P (unwrap_or (pulled w queue) w)
  pulls event [] at may on k = k.stays
  pulls event (batch ∷ rest) at may on k =
      pull_first event batch rest (is_broken w.power) refl may on at k

  powered : (b : Bool) → (not (is_off w.power) && b) ≡ true → is_off w.power ≡ false
  powered b h = not-true (is_off w.power) (and_parts (not (is_off w.power)) b h).0

  runs_on : (b : Bool) → (is_running w.power && b) ≡ true → is_off w.power ≡ false
  runs_on b h = running_on w.power (and_parts (is_running w.power) b h).0

  takes_on : (terminal : ℕ) → may_take w terminal ≡ true → is_off w.power ≡ false
  takes_on terminal may = powered (nat_le (length w.queue) MOST_BATCHES)
      (and_parts (not (is_off w.power) && nat_le (length w.queue) MOST_BATCHES) (is_waiting w terminal) may).0

  pub leads : (event : Event) → Leads P w event → P (unwrap_or (next w event) w)
  leads (Ask terminal number body) k =
      let command : Command = record { terminal = terminal; number = number; body = body } in
      hold_when P w (asking w command) (may_ask w terminal) k.stays (λ may.
      k.asked command (powered _ may) may refl)
  leads (Take terminal letter) k =
      hold_if P w (option_and_then (taking w letter) (find (asks terminal) (reverse w.asked)))
      (may_take w terminal) k.stays
      (λ may. hold_then P w (taking w letter) (find (asks terminal) (reverse w.asked)) k.stays
      (λ command at.
      hold_map P w (deciding w command)
      (decided w.building (state_of w) command.terminal command.number command.body letter)
      k.stays
      (λ d made. k.taken terminal letter command d (takes_on terminal may) may at made refl)))
  leads Seal k = hold_when P w (sealing w) (may_seal w) k.stays
      (λ may. k.sealed (powered _ may)
      (not-true (is_empty w.taken)
      (and_parts (not (is_off w.power)) (not (is_empty w.taken)) may).1) refl)
  leads Pull k = hold_if P w (pulled w w.queue) (may_pull w) k.stays (λ may.
      pulls Pull w.queue refl may (pulling_on w.power (is_idle w.phase) may) k)
  leads Fold k = hold_then P w (λ n.
      when (is_running w.power && eqb n 0) w) (written w.phase) k.stays (λ n _.
      hold_when P w w (is_running w.power && eqb n 0) k.stays (λ _. k.stays))
  leads BodyWrite k = hold_then P w (λ n. when (may_write w n) (in_phase w (Writing (n + 1))))
      (written w.phase) k.stays
      (λ n here. hold_when P w (in_phase w (Writing (n + 1))) (may_write w n) k.stays (λ may.
      k.goes_on (Writing (n + 1)) (runs_on _ may) (writing_busy w.phase n here) refl))
  leads FirstSync k = hold_then P w (λ n.
      when (may_sync w n) (in_phase w Synced)) (written w.phase) k.stays
      (λ n here. hold_when P w (in_phase w Synced) (may_sync w n) k.stays (λ may.
      k.goes_on Synced (runs_on _ may) (writing_busy w.phase n here) refl))
  leads Gate k = hold_when P w (in_phase w GateWritten)
      (is_running w.power && is_synced w.phase) k.stays (λ may.
      k.goes_on GateWritten (runs_on _ may)
      (not_idle_synced w.phase (and_parts (is_running w.power) (is_synced w.phase) may).1) refl)
  leads SecondSync k = hold_when P w (settling w)
      (is_running w.power && is_gate_written w.phase) k.stays (λ may.
      k.settled (runs_on _ may) (and_parts (is_running w.power) (is_gate_written w.phase) may).1)
  leads (Answering terminal) k =
      hold_if P w (option_map (answering w terminal) (find (is_taken_of terminal) w.due))
      (not (is_off w.power)) k.stays
      (λ may. hold_map P w (answering w terminal) (find (is_taken_of terminal) w.due) k.stays
      (λ c at. k.answered terminal c (not-true (is_off w.power) may) at))
  leads (Hear terminal) k =
      hold_if P w (option_map (hearing w) (next_answer w terminal)) (not (is_off w.power)) k.stays
      (λ may. hold_map P w (hearing w) (next_answer w terminal) k.stays (λ a _.
      k.heard a (not-true (is_off w.power) may)))
  leads Fault k = hold_when P w (failing w) (may_fail w) k.stays
      (λ may. k.failed (runs_on _ may) refl)
  leads (Cut kept) k = hold_when P w (cutting w kept) (may_keep w kept) k.stays (λ _.
      k.cut kept refl)
  leads (Reopen kept) k = hold_when P w (reopened w kept) (may_reopen w w.power kept) k.stays
      (λ may. k.reopened kept may refl)
