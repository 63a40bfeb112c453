-- What each event does, and where it is possible.
use Rattle.std.specs.Prelude.{ℕ, ◌==◌, ◌+◌, Bool, true, false, not, ◌&&◌, ◌||◌, if◌then◌else◌}
use Rattle.std.specs.Prelude.{nat_lt, nat_le, List, [], ◌∷◌, ◌++◌, length, map, take, reverse}
use Rattle.std.specs.Prelude.{filter, find, count_by, slice_get, Option, Some, None, option_map}
use Rattle.std.specs.Prelude.{option_and_then, unwrap_or}
use Rattle.std.specs.List.{list_any, flat_map}
use Rattle.lift_base.specs.declared.command.Reply.TheVariants.{Unknown}
use Rattle.lift_base.specs.declared.limits.TheConstants.{MOST_BATCHES}
use Rattle.lift_policy.specs.declared.command.Command.{Command}
use Rattle.lift_world.specs.declared.event.Kept.{Kept}
use Rattle.lift_world.specs.declared.event.Power.{Power}
use Rattle.lift_world.specs.declared.event.Power.TheVariants.{Running, Broken, Off}
use Rattle.lift_world.specs.declared.event.Phase.{Phase}
use Rattle.lift_world.specs.declared.event.Phase.TheVariants.{Idle, Writing, Synced, GateWritten}
use Rattle.lift_world.specs.declared.event.Taken.{Taken}
use Rattle.lift_world.specs.declared.event.Answer.{Answer}
use Rattle.lift_world.specs.declared.event.Event.{Event}
use Rattle.lift_world.specs.declared.event.Event.TheVariants.{Ask, Take, Seal, Pull, Fold}
use Rattle.lift_world.specs.declared.event.Event.TheVariants.{Body as BodyWrite, FirstSync, Gate}
use Rattle.lift_world.specs.declared.event.Event.TheVariants.{SecondSync, Answer as Answering, Hear}
use Rattle.lift_world.specs.declared.event.Event.TheVariants.{Fault, Cut, Reopen}
use Rattle.lift_policy.specs.Decision.{Decision}
use Rattle.lift_world.specs.Decided.{decided, when}
use Rattle.lift_world.specs.World.{World, SealedBatch, no_batch, unplaced, is_running, is_broken}
use Rattle.lift_world.specs.World.{is_off, is_idle, is_synced, is_gate_written, written, same_kept}
use Rattle.lift_world.specs.World.{asks, is_taken_of, is_answer_to, state_of, batch_in_flight}
use Rattle.lift_world.specs.World.{may_keep, outcome}

abbrev pub is_empty : {A : Type 0} → List A → Bool
is_empty [] = true
is_empty (x ∷ xs) = false

-- a terminal asks once it has heard the answers to all its asks
abbrev pub may_ask : World → ℕ → Bool
may_ask w terminal = not (is_off w.power) && count_by (asks terminal) w.asked
    == count_by (is_answer_to terminal) w.heard

abbrev pub asking : World → Command → World
asking w command = record w { asked = w.asked ++ command ∷ [] }

-- the commands that were taken and aren't answered, from the oldest batch on
abbrev pub unanswered : World → List Taken
unanswered w = w.due ++ w.flight.commands ++ flat_map (λ (b : SealedBatch). b.commands) w.queue
    ++ w.taken

-- the terminal has an ask that isn't taken
abbrev pub is_waiting : World → ℕ → Bool
is_waiting w terminal =
    nat_lt (count_by (is_answer_to terminal) w.answered) (count_by (asks terminal) w.asked) && not
    (list_any (is_taken_of terminal) (unanswered w))

-- the allocator decides on while four batches are sealed ahead, also after a fault
abbrev pub may_take : World → ℕ → Bool
may_take w terminal = not (is_off w.power) && nat_le (length w.queue) MOST_BATCHES && is_waiting w terminal

-- the batch so far ends with what the decision accepted
abbrev pub deciding : World → Command → Decision → World
deciding w command decision = record w {
  accepted = take w.sealed w.accepted ++ decision.next.batch;
  positions = decision.next.positions;
  taken = w.taken ++ record {
    terminal = command.terminal;
    number = command.number;
    body = command.body;
    reply = decision.reply;
  } ∷ [];
}

abbrev pub taking : World → Option ℕ → Command → Option World
taking w letter command =
    option_map (deciding w command)
    (decided w.building (state_of w) command.terminal command.number command.body letter)

abbrev pub may_seal : World → Bool
may_seal w = not (is_off w.power) && not (is_empty w.taken)

-- what was taken becomes the last batch of the queue
abbrev pub sealing : World → World
sealing w = record w {
  queue = w.queue ++ record { commands = w.taken; upto = length w.accepted }
      ∷ [];
  sealed = length w.accepted;
  taken = [];
}

abbrev pub unknown_to : Taken → Taken
unknown_to c = record c { reply = Unknown }

abbrev pub may_pull : World → Bool
may_pull w = is_broken w.power || (is_running w.power && is_idle w.phase)

-- the batch is in flight; one without entries is due at once, and after a fault so is each,
-- answered Unknown
abbrev pub pulling : World → SealedBatch → List SealedBatch → World
pulling w batch rest =
    if is_broken w.power
    then record w { queue = rest; due = w.due ++ map unknown_to batch.commands }
    else (if nat_lt w.safe batch.upto
    then record w { queue = rest; flight = batch; phase = Writing 0 }
    else record w { queue = rest; due = w.due ++ batch.commands })

abbrev pub pulled : World → List SealedBatch → Option World
pulled w [] = None
pulled w (batch ∷ rest) = Some (pulling w batch rest)

abbrev pub in_phase : World → Phase → World
in_phase w phase = record w { phase = phase }

-- the body of a batch takes one sector up to 31 entries, else two
abbrev pub sectors_for_body : ℕ → ℕ
sectors_for_body count = if nat_le count 31 then 1 else 2

-- the writes before the first sync: the body sectors and the gate after them
abbrev pub writes_before_sync : World → ℕ
writes_before_sync w = sectors_for_body (length (batch_in_flight w)) + 1

abbrev pub may_write : World → ℕ → Bool
may_write w n = is_running w.power && nat_lt n (writes_before_sync w)

abbrev pub may_sync : World → ℕ → Bool
may_sync w n = is_running w.power && n == writes_before_sync w

-- the batch in flight is safe, and its commands are due
abbrev pub settling : World → World
settling w = record w {
  safe = w.flight.upto;
  flight = no_batch;
  phase = Idle;
  due = w.due ++ w.flight.commands;
}

-- a device call may fail while a batch is written, and while none is, where a reopening makes one;
-- a failed write of the gate is that write and then the fault
abbrev pub may_fail : World → Bool
may_fail w = is_running w.power && not (is_synced w.phase)

-- the batch stays in doubt, and its commands are answered Unknown
abbrev pub failing : World → World
failing w = record w {
  power = Broken;
  flight = record { commands = []; upto = w.flight.upto };
  due = w.due ++ map unknown_to w.flight.commands;
}

abbrev pub others : ℕ → List Taken → List Taken
others terminal taken = filter (λ (c : Taken). not (is_taken_of terminal c)) taken

abbrev pub answer_of : Taken → Answer
answer_of c = record { terminal = c.terminal; number = c.number; reply = c.reply }

abbrev pub answering : World → ℕ → Taken → World
answering w terminal command =
    record w {
      due = others terminal w.due;
      answered = w.answered ++ answer_of command ∷ [];
      given = w.given ++ command ∷ [];
    }

-- the answer after those that the terminal heard
abbrev pub next_answer : World → ℕ → Option Answer
next_answer w terminal =
    slice_get (filter (is_answer_to terminal) w.answered) (count_by (is_answer_to terminal) w.heard)

abbrev pub hearing : World → Answer → World
hearing w answer = record w { heard = w.heard ++ answer ∷ [] }

-- a cut empties all words and unplaces all cars; the batch in flight stays with its phase
abbrev pub cutting : World → Kept → World
cutting w kept = record w {
  power = Off kept;
  flight = record { commands = []; upto = w.flight.upto };
  queue = [];
  positions = unplaced;
  taken = [];
  due = [];
  asked = [];
  answered = [];
  heard = [];
}

-- no batch is in flight or queued, and nothing is taken; replies of safe batches may be due
abbrev pub is_quiet : World → Bool
is_quiet w = is_idle w.phase && is_empty w.queue && is_empty w.taken

-- A reopening has the outcome of the last cut; after a fault alone any that the phase allows, once
-- the queue is empty. While running it is possible where no batch is on its way, and so with the
-- safe list alone.
abbrev pub may_reopen : World → Power → Kept → Bool
may_reopen w Running kept = is_quiet w && may_keep w kept
may_reopen w Broken kept = is_empty w.queue && may_keep w kept
may_reopen w (Off last) kept = same_kept last kept && may_keep w kept

-- what was taken and not sealed is dropped, and answered Unknown; a cut has left nothing of it
abbrev pub reopened : World → Kept → World
reopened w kept = record w {
  accepted = outcome w kept;
  safe = length (outcome w kept);
  sealed = length (outcome w kept);
  flight = no_batch;
  phase = Idle;
  queue = [];
  power = Running;
  positions = unplaced;
  taken = [];
  due = w.due ++ map unknown_to w.taken;
}

-- The world after an event, where it is possible. A checkpoint's call changes nothing: it copies
-- what is safe into the other half, and at each of its calls either half that may be picked reads
-- as the register of the safe list. So whatever a cut or a fault leaves of it, the outcomes are
-- those of the batch after it, of which nothing is written.
abbrev pub next : World → Event → Option World
next w (Ask terminal number body) =
    when (may_ask w terminal)
    (asking w (record { terminal = terminal; number = number; body = body }))
next w (Take terminal letter) =
    if may_take w terminal then option_and_then (taking w letter)
    (find (asks terminal) (reverse w.asked)) else None
next w Seal = when (may_seal w) (sealing w)
next w Pull = if may_pull w then pulled w w.queue else None
next w Fold = option_and_then (λ n. when (is_running w.power && n == 0) w) (written w.phase)
next w BodyWrite = option_and_then (λ n. when (may_write w n) (in_phase w (Writing (n + 1))))
    (written w.phase)
next w FirstSync = option_and_then (λ n. when (may_sync w n) (in_phase w Synced)) (written w.phase)
next w Gate = when (is_running w.power && is_synced w.phase) (in_phase w GateWritten)
next w SecondSync = when (is_running w.power && is_gate_written w.phase) (settling w)
next w (Answering terminal) =
    if not (is_off w.power) then option_map (answering w terminal)
    (find (is_taken_of terminal) w.due) else None
next w (Hear terminal) =
    if not (is_off w.power) then option_map (hearing w) (next_answer w terminal) else None
next w Fault = when (may_fail w) (failing w)
next w (Cut kept) = when (may_keep w kept) (cutting w kept)
next w (Reopen kept) = when (may_reopen w w.power kept) (reopened w kept)

-- a whole run; an event that isn't possible changes nothing
abbrev pub run : List Event → World → World
run [] w = w
run (event ∷ events) w = run events (unwrap_or (next w event) w)

-- the world after all these events, where each is possible in its place
abbrev pub goes : List Event → World → Option World
goes [] w = Some w
goes (event ∷ events) w = option_and_then (goes events) (next w event)
