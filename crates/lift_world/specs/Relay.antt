-- The turns of an allocator and of a flusher, with sealed batches queued between them.
use Rattle.std.specs.Prelude.{ℕ, Bool, true, false, not, ◌≡◌, ◌≢◌, ◌≤◌, ◌<◌, ◌+◌, ◌-◌, IsTrue}
use Rattle.std.specs.Prelude.{option_map, List, [], ◌∷◌, ◌++◌, length, map, filter, replicate}
use Rattle.std.specs.Prelude.{Option, Some, None, if◌then◌else◌}
use Rattle.std.specs.List.{AllByRecursion}
use Rattle.lift_base.specs.declared.command.Reply.{Reply}
use Rattle.lift_policy.specs.Eligible.{any_eligible}
use Rattle.lift_policy.specs.Step.{State}
use Rattle.lift_policy.specs.Run.{Run}
use Rattle.lift_base.specs.declared.limits.TheConstants.{MOST_BATCHES}
use Rattle.lift_policy.specs.declared.command.Command.{Command}
use Rattle.lift_world.specs.declared.event.Event.{Event}
use Rattle.lift_world.specs.declared.event.Event.TheVariants.{Take, Seal, Pull, Fold}
use Rattle.lift_world.specs.declared.event.Event.TheVariants.{Body as BodyWrite, FirstSync, Gate}
use Rattle.lift_world.specs.declared.event.Event.TheVariants.{SecondSync, Answer, Fault}
use Rattle.lift_world.specs.declared.event.Taken.{Taken}
use Rattle.lift_world.specs.declared.event.Phase.{Phase}
use Rattle.lift_world.specs.declared.event.Phase.TheVariants.{Idle}
use Rattle.lift_world.specs.declared.event.Power.TheVariants.{Running, Broken}
use Rattle.lift_policy.specs.Decision.{Decision}
use Rattle.lift_world.specs.World.{World, SealedBatch, no_batch, state_of, is_idle, is_running}
use Rattle.lift_world.specs.Next.{next, goes, sectors_for_body, answer_of, unknown_to, unanswered}
use Rattle.lift_world.specs.Next.{deciding, sealing}
use Rattle.lift_world.specs.Turns.{AreFound, with_replies, take_events, calls_to, device_calls}
use Rattle.lift_world.specs.Turns.{MayFailIn, IsAtRest, IsBrokenAtRest}

-- of no terminal two commands
abbrev pub AreApart : List Taken → Type 0
AreApart [] = Unit {0}
AreApart (c ∷ cs) = AllByRecursion (λ (d : Taken). d.terminal ≢ c.terminal) cs × AreApart cs

-- batches end one after the other, from here to there
abbrev pub EndInOrder : ℕ → List SealedBatch → ℕ → Type 0
EndInOrder low [] high = low ≤ high
EndInOrder low (batch ∷ queue) high = (low ≤ batch.upto) × EndInOrder batch.upto queue high

-- what is safe once the batch in flight is
abbrev pub flown : World → ℕ
flown w = if is_idle w.phase then w.safe else w.flight.upto

-- where the last of these batches ends, and from here, where there is none
abbrev pub last_end : ℕ → List SealedBatch → ℕ
last_end low [] = low
last_end low (batch ∷ queue) = last_end batch.upto queue

-- The queue begins where the batch in flight ends, that one begins with what is safe, and the last
-- batch ends with what is sealed; after a fault, which leaves batches out, within it. No terminal
-- has two commands on their way.
pub record IsQueueInOrder (w : World) : Type 0 where
  pub safe_first : w.safe ≤ flown w
  pub in_order : EndInOrder (flown w) w.queue w.sealed
  pub ends : is_running w.power ≡ true → last_end (flown w) w.queue ≡ w.sealed
  pub doubt : w.flight.upto ≤ w.sealed
  pub all_accepted : w.sealed ≤ length w.accepted
  pub apart : AreApart (unanswered w)

-- the allocator between two turns: nothing is taken, and all that was decided is sealed
pub record IsBetweenScans (w : World) : Type 0 where
  pub nothing_taken : w.taken ≡ []
  pub all_sealed : w.sealed ≡ length w.accepted

-- an allocator's turn: a scan, and what was taken is sealed
abbrev pub allocator_events : List Command → List (Option ℕ) → List Event
allocator_events commands letters = take_events commands letters ++ Seal ∷ []

-- the world after it: its batch is the last of the queue
abbrev pub allocated : World → List Command → List Reply → State → World
allocated w commands replies state = record w {
  accepted = w.accepted ++ state.batch;
  sealed = length (w.accepted ++ state.batch);
  positions = state.positions;
  queue = w.queue ++ record {
    commands = with_replies commands replies;
    upto = length (w.accepted ++ state.batch);
  } ∷ [];
}

-- An allocator's turn that took something is its list of events, wherever the flusher is, also
-- after a fault.
abbrev pub AllocationsAreEvents : World → Type 0
AllocationsAreEvents w =
    (command : Command) (commands : List Command) (reply : Reply) (replies : List Reply)
    (state : State) → IsBetweenScans w → AreFound w (command ∷ commands)
    → Run w.building any_eligible (state_of w) (command ∷ commands) (reply ∷ replies) state
    → (letters : List (Option ℕ))
    × (goes (allocator_events (command ∷ commands) letters) w
    ≡ Some (allocated w (command ∷ commands) (reply ∷ replies) state))

-- With four batches queued and one in hand nothing is taken.
abbrev pub FullQueueWaits : World → Type 0
FullQueueWaits w = (terminal : ℕ) (letter : Option ℕ) → MOST_BATCHES < length w.queue
    → next w (Take terminal letter) ≡ None

-- the flusher between two turns: no batch is in flight
pub record IsBetweenFlushes (w : World) : Type 0 where
  pub running : w.power ≡ Running
  pub idle : w.phase ≡ Idle
  pub nothing_flies : w.flight ≡ no_batch

abbrev pub events_of_answers : List Taken → List Event
events_of_answers commands = map (λ (c : Taken). Answer c.terminal) commands

-- The flusher looks at the terminals of its batch too, and answers only where its look gave the
-- ask: of these commands those that it answers, and those that it leaves due.
abbrev pub answered_of : (ℕ → Bool) → List Taken → List Taken
answered_of gave commands = filter (λ (c : Taken). gave c.terminal) commands

abbrev pub left_unanswered : (ℕ → Bool) → List Taken → List Taken
left_unanswered gave commands = filter (λ (c : Taken). not (gave c.terminal)) commands

-- a flusher's turn: the first batch of the queue, with this many entries, is made safe, and those
-- of its commands are answered whose asks its look gave
abbrev pub flusher_events : (ℕ → Bool) → SealedBatch → ℕ → ℕ → List Event
flusher_events gave batch folds count =
    Pull ∷ (device_calls folds count ++ events_of_answers (answered_of gave batch.commands))

-- the world after it: what isn't answered is due after what was due before
abbrev pub flushed : World → (ℕ → Bool) → SealedBatch → List SealedBatch → World
flushed w gave batch rest = record w {
  safe = batch.upto;
  queue = rest;
  due = w.due ++ left_unanswered gave batch.commands;
  answered = w.answered ++ map answer_of (answered_of gave batch.commands);
  given = w.given ++ answered_of gave batch.commands;
}

-- A flusher's turn that answers Ok is its list of events, whatever the allocator has taken or
-- queued before it, and whatever was due and its look gives.
abbrev pub FlushesAreEvents : World → Type 0
FlushesAreEvents w = (gave : ℕ → Bool) (batch : SealedBatch) (rest : List SealedBatch) (folds : ℕ)
    → IsBetweenFlushes w → IsQueueInOrder w → w.queue ≡ batch ∷ rest
    → goes (flusher_events gave batch folds (batch.upto - w.safe)) w
    ≡ Some (flushed w gave batch rest)

-- one in which a device call fails
abbrev pub failing_flush : (ℕ → Bool) → SealedBatch → ℕ → Phase → ℕ → List Event
failing_flush gave batch folds phase count =
    Pull ∷ (replicate folds Fold
    ++ (calls_to (sectors_for_body count + 1) phase ++ Fault
    ∷ events_of_answers (answered_of gave batch.commands)))

-- the world after it: each command of the batch gets Unknown, and the batch is in doubt
abbrev pub flush_failed : World → (ℕ → Bool) → SealedBatch → List SealedBatch → Phase → World
flush_failed w gave batch rest phase = record w {
  flight = record { commands = []; upto = batch.upto };
  phase = phase;
  power = Broken;
  queue = rest;
  due = w.due ++ map unknown_to (left_unanswered gave batch.commands);
  answered = w.answered ++ map answer_of (map unknown_to (answered_of gave batch.commands));
  given = w.given ++ map unknown_to (answered_of gave batch.commands);
}

-- A flusher's turn that fails is its list of events, whichever device call it was.
abbrev pub FailedFlushesAreEvents : World → Type 0
FailedFlushesAreEvents w =
    (gave : ℕ → Bool) (batch : SealedBatch) (rest : List SealedBatch) (folds : ℕ) (phase : Phase)
    → IsBetweenFlushes w → IsQueueInOrder w → w.queue ≡ batch ∷ rest
    → w.safe < batch.upto → MayFailIn (sectors_for_body (batch.upto - w.safe) + 1) phase
    → goes (failing_flush gave batch folds phase (batch.upto - w.safe)) w
    ≡ Some (flush_failed w gave batch rest phase)

-- the flusher between two turns after a fault: the batch in doubt has no commands left
pub record IsBrokenBetween (w : World) : Type 0 where
  pub broken : w.power ≡ Broken
  pub nothing_flies : w.flight.commands ≡ []

-- a flusher's turn after a fault: no device call
abbrev pub broken_flush : (ℕ → Bool) → SealedBatch → List Event
broken_flush gave batch = Pull ∷ events_of_answers (answered_of gave batch.commands)

-- the world after it: each command of the batch gets Unknown, and nothing else changes
abbrev pub flushed_broken : World → (ℕ → Bool) → SealedBatch → List SealedBatch → World
flushed_broken w gave batch rest = record w {
  queue = rest;
  due = w.due ++ map unknown_to (left_unanswered gave batch.commands);
  answered = w.answered ++ map answer_of (map unknown_to (answered_of gave batch.commands));
  given = w.given ++ map unknown_to (answered_of gave batch.commands);
}

-- A flusher's turn after a fault is its list of events.
abbrev pub BrokenFlushesAreEvents : World → Type 0
BrokenFlushesAreEvents w = (gave : ℕ → Bool) (batch : SealedBatch) (rest : List SealedBatch)
    → IsBrokenBetween w
    → IsQueueInOrder w → w.queue ≡ batch ∷ rest
    → goes (broken_flush gave batch) w ≡ Some (flushed_broken w gave batch rest)

-- Each of these turns ends where the next begins, and leaves the other part's beginning as it was.
pub record TurnsMeet (w : World) : Type 0 where
  pub scanned : (commands : List Command) (replies : List Reply) (state : State) → IsBetweenScans w
      → IsBetweenScans (allocated w commands replies state)
  pub scanned_beside : (commands : List Command) (replies : List Reply) (state : State)
      → IsBetweenFlushes w → IsBetweenFlushes (allocated w commands replies state)
  pub wrote : (gave : ℕ → Bool) (batch : SealedBatch) (rest : List SealedBatch) → IsBetweenFlushes w
      → IsBetweenFlushes (flushed w gave batch rest)
  pub wrote_beside : (gave : ℕ → Bool) (batch : SealedBatch) (rest : List SealedBatch)
      → IsBetweenScans w
      → IsBetweenScans (flushed w gave batch rest)
  pub fell : (gave : ℕ → Bool) (batch : SealedBatch) (rest : List SealedBatch) (phase : Phase)
      → IsBetweenFlushes w → IsBrokenBetween (flush_failed w gave batch rest phase)
  pub fell_beside : (gave : ℕ → Bool) (batch : SealedBatch) (rest : List SealedBatch)
      (phase : Phase)
      → IsBetweenScans w → IsBetweenScans (flush_failed w gave batch rest phase)
  pub stayed : (gave : ℕ → Bool) (batch : SealedBatch) (rest : List SealedBatch) → IsBrokenBetween w
      → IsBrokenBetween (flushed_broken w gave batch rest)
  pub stayed_beside : (gave : ℕ → Bool) (batch : SealedBatch) (rest : List SealedBatch)
      → IsBetweenScans w
      → IsBetweenScans (flushed_broken w gave batch rest)

-- what a flusher does
abbrev pub is_flushers : Event → Bool
is_flushers Pull = true
is_flushers Fold = true
is_flushers BodyWrite = true
is_flushers FirstSync = true
is_flushers Gate = true
is_flushers SecondSync = true
is_flushers (Answer terminal) = true
is_flushers Fault = true
is_flushers event = false

-- The flusher works on within a scan: after a decision its events are possible just where
-- they are before it, and leave the same but for what was decided.
abbrev pub FlusherPassesScans : World → Type 0
FlusherPassesScans w = (command : Command) (decision : Decision) (event : Event) → IsQueueInOrder w
    → IsTrue (is_flushers event)
    → next (deciding w command decision) event ≡ option_map (λ (v : World).
    deciding v command decision) (next w event)

-- So each of them might as well have come before the take that it follows.
abbrev pub FlusherComesFirst : World → Type 0
FlusherComesFirst w = (terminal : ℕ) (letter : Option ℕ) (event : Event) (taken later : World)
    → IsQueueInOrder w → IsTrue (is_flushers event)
    → next w (Take terminal letter) ≡ Some taken → next taken event ≡ Some later
    → (before : World) × (next w event ≡ Some before)
    × (next before (Take terminal letter) ≡ Some later)

-- It works on after a seal too. But for the pull of the batch that was sealed there, its events
-- are possible just where they are before the seal, and leave the same but for what was sealed.
abbrev pub FlusherPassesSeals : World → Type 0
FlusherPassesSeals w = (event : Event) → IsTrue (is_flushers event) → (event ≡ Pull → w.queue ≢ [])
    → next (sealing w) event ≡ option_map sealing (next w event)

-- A clerk between two turns is both parts between two of theirs, with nothing queued and nothing
-- due, and the other way round: so a split and a rejoining keep the world, whole or broken.
pub record PartsMeet (w : World) : Type 0 where
  pub split : IsAtRest w → IsBetweenScans w × IsBetweenFlushes w
  pub rejoined : IsQueueInOrder w → IsBetweenScans w → IsBetweenFlushes w → w.queue ≡ []
      → w.due ≡ [] → IsAtRest w
  pub split_broken : IsBrokenAtRest w → IsBetweenScans w × IsBrokenBetween w
  pub rejoined_broken : IsQueueInOrder w → IsBetweenScans w → IsBrokenBetween w → w.queue ≡ []
      → w.due ≡ [] → IsBrokenAtRest w
