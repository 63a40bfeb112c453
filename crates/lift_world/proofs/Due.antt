-- A command is due once its batch is safe, or with Unknown.
use Rattle.std.proofs.Common.{◌≡◌, ◌+◌, ◌≤◌, ◌⊎◌, Bool, true, false, not, ◌&&◌, ◌||◌, cond, eqb, ltb, List, [], ◌∷◌, ◌++◌, map, All, refl, sym, ap, subst, inl, inr, arith}
use Rattle.std.specs.Prelude.{Contains, unwrap_or, find, reverse, option_and_then, option_map}
use Rattle.std.proofs.lemmas.Bool.{false≢true, ltb-false}
use Rattle.std.proofs.lemmas.List.Elements.{Contains-append_right, All-nil, All-append, All-weaker, All-filter, All-map, All-contains_itself}
use Rattle.lift_policy.specs.declared.command.Command.{Command}
use Rattle.lift_world.specs.declared.event.Kept.{Kept}
use Rattle.lift_world.specs.declared.event.Taken.{Taken}
use Rattle.lift_world.specs.declared.event.Phase.TheVariants.{Writing, Synced, GateWritten}
use Rattle.lift_world.specs.declared.event.Power.{Power}
use Rattle.lift_world.specs.declared.event.Power.TheVariants.{Running, Broken, Off}
use Rattle.lift_world.specs.declared.event.Event.{Event}
use Rattle.lift_world.specs.declared.event.Event.TheVariants.{Ask, Take, Seal, Pull, Fold, Body as BodyWrite, FirstSync, Gate, SecondSync, Answer as Answering, Hear, Fault, Cut, Reopen}
use Rattle.lift_world.specs.Decided.{decided, when}
use Rattle.lift_world.specs.World.{World, SealedBatch, is_running, is_broken, is_off, is_synced, is_gate_written, written, asks, is_taken_of, state_of, may_keep}
use Rattle.lift_world.specs.Next.{next, unknown_to, asking, taking, deciding, sealing, pulled, in_phase, settling, failing, answering, hearing, next_answer, cutting, reopened, may_ask, may_take, may_seal, may_pull, may_write, may_sync, may_fail, may_reopen}
use Rattle.lift_world.specs.Headline.{HoldsNothingWhileOff}
use Rattle.lift_world.specs.Due.{IsOfSafeBatch, GetsUnknown, DueOnceSafe}
use Rattle.lift_world.specs.lemmas.Moves.{hold_when, hold_if, hold_then, hold_map}
use Rattle.lift_world.specs.lemmas.Entries.{head_of}
use Rattle.lift_world.proofs.Possibilities.{quiet_reopening}

left_true : (a b : Bool) → a ≡ true → (a || b) ≡ true
left_true true b h = refl
left_true false b h = absurd (false≢true h)

right_true : (a : Bool) → (a || true) ≡ true
right_true true = refl
right_true false = refl

module _ (w : World) where
  abbrev Became : World → Taken → Type 0
  Became x c = Contains w.due c ⊎ IsOfSafeBatch w x c ⊎ GetsUnknown w x c

  abbrev AllBecame : World → Type 0
  AllBecame x = All (Became x) x.due

  due_before : (x : World) → All (Became x) w.due
  due_before x = All-weaker (Contains w.due) (Became x) (λ c h. inl h) w.due (All-contains_itself w.due)

  due_unknown : (x : World) (cs : List Taken) → (is_broken w.power || is_broken x.power) ≡ true → All (Became x) (map unknown_to cs)
  due_unknown x cs stops = All-map (Became x) unknown_to cs (λ k d lt. inr (inr (record { reply = refl; fails = stops })))

  due_safe : (x : World) (batch : SealedBatch) → Contains (w.flight ∷ w.queue) batch → batch.upto ≤ x.safe → All (Became x) batch.commands
  due_safe x batch sealed le =
      All-weaker (Contains batch.commands) (Became x) (λ c h. inr (inl (record { batch = batch; sealed = sealed; held = h; safe = le }))) batch.commands (All-contains_itself batch.commands)

  abbrev failed_one : SealedBatch → List SealedBatch → World
  failed_one batch rest = record w { queue = rest; due = w.due ++ map unknown_to batch.commands }

  abbrev landed_one : SealedBatch → List SealedBatch → World
  landed_one batch rest = record w { queue = rest; due = w.due ++ batch.commands }

  abbrev flying_one : SealedBatch → List SealedBatch → World
  flying_one batch rest = record w { queue = rest; flight = batch; phase = Writing 0 }

  pulls_running : (batch : SealedBatch) (rest : List SealedBatch) (more : Bool) → w.queue ≡ batch ∷ rest → ltb w.safe batch.upto ≡ more → AllBecame (cond more (flying_one batch rest) (landed_one batch rest))
  pulls_running batch rest true at less = due_before (flying_one batch rest)
  pulls_running batch rest false at less =
      let queued : Contains (w.flight ∷ w.queue) batch = Contains-append_right (w.flight ∷ []) w.queue batch (subst (λ (bs : List SealedBatch). Contains bs batch) (sym at) (head_of batch rest)) in
      All-append (Became (landed_one batch rest)) w.due batch.commands (due_before (landed_one batch rest)) (due_safe (landed_one batch rest) batch queued (ltb-false w.safe batch.upto less))

  pulls : (batch : SealedBatch) (rest : List SealedBatch) (broken : Bool) → w.queue ≡ batch ∷ rest → is_broken w.power ≡ broken
      → AllBecame (cond broken (failed_one batch rest) (cond (ltb w.safe batch.upto) (flying_one batch rest) (landed_one batch rest)))
  pulls batch rest true at broken =
      All-append (Became (failed_one batch rest)) w.due (map unknown_to batch.commands) (due_before (failed_one batch rest))
      (due_unknown (failed_one batch rest) batch.commands (left_true (is_broken w.power) (is_broken w.power) broken))
  pulls batch rest false at broken = pulls_running batch rest (ltb w.safe batch.upto) at refl

  pulls_first : (queue : List SealedBatch) → w.queue ≡ queue → AllBecame (unwrap_or (pulled w queue) w)
  pulls_first [] at = due_before w
  pulls_first (batch ∷ rest) at = pulls batch rest (is_broken w.power) at refl

  settles : AllBecame (settling w)
  settles = All-append (Became (settling w)) w.due w.flight.commands (due_before (settling w)) (due_safe (settling w) w.flight (head_of w.flight w.queue) (omega arith))

  fails : AllBecame (failing w)
  fails = All-append (Became (failing w)) w.due (map unknown_to w.flight.commands) (due_before (failing w)) (due_unknown (failing w) w.flight.commands (right_true (is_broken w.power)))

  -- where nothing was taken
  reopens_none : (kept : Kept) → w.taken ≡ [] → AllBecame (reopened w kept)
  reopens_none kept none =
      All-append (Became (reopened w kept)) w.due (map unknown_to w.taken) (due_before (reopened w kept))
      (subst (λ (cs : List Taken). All (Became (reopened w kept)) (map unknown_to cs)) (sym none) (All-nil (Became (reopened w kept))))

  reopens_from : (power : Power) (kept : Kept) → w.power ≡ power → HoldsNothingWhileOff w → may_reopen w power kept ≡ true → AllBecame (reopened w kept)
  reopens_from Running kept at off may = reopens_none kept (quiet_reopening w kept may).nothing_taken
  reopens_from Broken kept at off may =
      All-append (Became (reopened w kept)) w.due (map unknown_to w.taken) (due_before (reopened w kept))
      (due_unknown (reopened w kept) w.taken (left_true (is_broken w.power) false (ap is_broken at)))
  reopens_from (Off last) kept at off may = reopens_none kept (off (ap is_off at)).nothing_taken

  became : (event : Event) → HoldsNothingWhileOff w → AllBecame (unwrap_or (next w event) w)
  became (Ask terminal number body) off =
      let command : Command = record { terminal = terminal; number = number; body = body } in
      hold_when AllBecame w (asking w command) (may_ask w terminal) (due_before w) (λ _. due_before (asking w command))
  became (Take terminal letter) off = hold_if AllBecame w (option_and_then (taking w letter) (find (asks terminal) (reverse w.asked))) (may_take w terminal) (due_before w)
      (λ _. hold_then AllBecame w (taking w letter) (find (asks terminal) (reverse w.asked)) (due_before w) (λ command _.
      hold_map AllBecame w (deciding w command) (decided w.building (state_of w) command.terminal command.number command.body letter) (due_before w) (λ d _. due_before (deciding w command d))))
  became Seal off = hold_when AllBecame w (sealing w) (may_seal w) (due_before w) (λ _. due_before (sealing w))
  became Pull off = hold_if AllBecame w (pulled w w.queue) (may_pull w) (due_before w) (λ _. pulls_first w.queue refl)
  became Fold off = hold_then AllBecame w (λ n. when (is_running w.power && eqb n 0) w) (written w.phase) (due_before w) (λ n _. hold_when AllBecame w w (is_running w.power && eqb n 0) (due_before w) (λ _. due_before w))
  became BodyWrite off = hold_then AllBecame w (λ n. when (may_write w n) (in_phase w (Writing (n + 1)))) (written w.phase) (due_before w)
      (λ n _. hold_when AllBecame w (in_phase w (Writing (n + 1))) (may_write w n) (due_before w) (λ _. due_before (in_phase w (Writing (n + 1)))))
  became FirstSync off = hold_then AllBecame w (λ n. when (may_sync w n) (in_phase w Synced)) (written w.phase) (due_before w)
      (λ n _. hold_when AllBecame w (in_phase w Synced) (may_sync w n) (due_before w) (λ _. due_before (in_phase w Synced)))
  became Gate off = hold_when AllBecame w (in_phase w GateWritten) (is_running w.power && is_synced w.phase) (due_before w) (λ _. due_before (in_phase w GateWritten))
  became SecondSync off = hold_when AllBecame w (settling w) (is_running w.power && is_gate_written w.phase) (due_before w) (λ _. settles)
  became (Answering terminal) off = hold_if AllBecame w (option_map (answering w terminal) (find (is_taken_of terminal) w.due)) (not (is_off w.power)) (due_before w)
      (λ _. hold_map AllBecame w (answering w terminal) (find (is_taken_of terminal) w.due) (due_before w)
      (λ c _. All-filter _ (Became (answering w terminal c)) w.due (due_before (answering w terminal c))))
  became (Hear terminal) off = hold_if AllBecame w (option_map (hearing w) (next_answer w terminal)) (not (is_off w.power)) (due_before w)
      (λ _. hold_map AllBecame w (hearing w) (next_answer w terminal) (due_before w) (λ a _. due_before (hearing w a)))
  became Fault off = hold_when AllBecame w (failing w) (may_fail w) (due_before w) (λ _. fails)
  became (Cut kept) off = hold_when AllBecame w (cutting w kept) (may_keep w kept) (due_before w) (λ _. All-nil (Became (cutting w kept)))
  became (Reopen kept) off = hold_when AllBecame w (reopened w kept) (may_reopen w w.power kept) (due_before w) (λ may. reopens_from w.power kept refl off may)

  pub due_once_safe : DueOnceSafe w
  due_once_safe off event after h = subst (λ (x : World). AllBecame x) (ap (λ (o : Rattle.std.specs.Prelude.Option World). unwrap_or o w) h) (became event off)
