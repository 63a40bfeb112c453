-- What the machine of events is while the two parts run, and which of its events their turns are.
use Rattle.lift_clerk.specs.TakenAndAnswered.{ask_of}
use Rattle.std.specs.Prelude.{ℕ, ◌≡◌, ◌≢◌, ◌<◌, ◌≤◌, ◌+◌, true, false, List, [], ◌++◌, length}
use Rattle.std.specs.Prelude.{map, filter, All, IsTrue, Some, Option, Result, Ok, Err}
use Rattle.std.specs.List.{AllByRecursion}
use Rattle.lift_base.specs.declared.limits.TheConstants.{MOST_BATCHES}
use Rattle.lift_base.specs.declared.history.Entry.{Entry}
use Rattle.lift_journal.specs.declared.fault.JournalFault.TheVariants.{Disk, Broken}
use Rattle.lift_desk.specs.declared.view.ClerkView.{ClerkView}
use Rattle.lift_desk.specs.Rule.{IsAhead}
use Rattle.lift_desk.specs.Spelled.{ask_words, IsAsk}
use Rattle.lift_desk.specs.Agree.{KnowAtOnce}
use Rattle.lift_desk.specs.Seats.{ClerkPlace, view_at}
use Rattle.lift_policy.specs.Eligible.{Choice}
use Rattle.lift_policy.specs.declared.command.Command.{Command}
use Rattle.lift_keeper.specs.declared.fault.KeeperFault.{KeeperFault}
use Rattle.lift_keeper.specs.declared.fault.KeeperFault.TheVariants.{Journal}
use Rattle.lift_world.specs.declared.event.Event.{Event}
use Rattle.lift_world.specs.declared.event.Phase.TheVariants.{GateWritten}
use Rattle.lift_world.specs.declared.event.Taken.{Taken}
use Rattle.lift_world.specs.World.{World, SealedBatch, asks, safe_list}
use Rattle.lift_world.specs.Next.{next, unknown_to}
use Rattle.lift_world.specs.Beside.{is_of_terminals}
use Rattle.lift_world.specs.Relay.{allocator_events, flusher_events, failing_flush, broken_flush}
use Rattle.lift_clerk.specs.declared.counts.Counts.{Counts}
use Rattle.lift_clerk.specs.Clerk.{ClerkState}
use Rattle.lift_clerk.specs.Group.{Terminals, ShowsTerminal}
use Rattle.lift_clerk.specs.Visits.{commands_of}
use Rattle.lift_clerk.specs.Tied.{SentBatch, IsTied, LeadsTo, all_found}
use Rattle.lift_clerk.specs.Machine.{IsMachineOf}
use Rattle.lift_parts.specs.declared.taken.NotedCommand.{NotedCommand}
use Rattle.lift_parts.specs.declared.counts.FlushCounts.{FlushCounts}
use Rattle.lift_parts.specs.Batch.{BatchState, AreBelow, commands_in}
use Rattle.lift_parts.specs.Line.{Begins}
use Rattle.lift_parts.specs.Queued.{Queued}
use Rattle.lift_parts.specs.Allocator.{AllocatorState, IsFullTurn, IsScanTurn}
use Rattle.lift_parts.specs.Flusher.{FlusherState, IsFlusher, IsEmptyTurn, IsBatchTurn}
use Rattle.lift_parts.specs.Turns.{IsSending, IsTelling}
use Rattle.lift_parts.specs.Parts.{AreParts, IsRejoined}

-- a command that was taken, with the reply decided to it, as the machine holds it
abbrev pub held_as : NotedCommand → Taken
held_as t = record {
  terminal = t.command.terminal;
  number = t.command.number;
  body = t.command.body;
  reply = t.reply;
}

-- a batch on its way, as the machine holds it
abbrev pub sent_as : BatchState → SentBatch
sent_as b = record { commands = map held_as b.commands; entries = b.entries }

-- The world is what this group's two parts are, each between two of its turns. What was sent, with
-- a batch in hand, is what was received and the batches that wait; these are on their way, and of
-- the terminals of the desk.
pub record IsRelayOf {D P : Type 0} (w : World) (a : AllocatorState P)
    (f : FlusherState D) : Type 0 where
  pub building : w.building ≡ a.plan
  pub seats : length a.seat ≡ length f.seat
  pub waiting : List BatchState
  pub line : a.end.sent ++ a.hand ≡ f.end.received ++ waiting
  pub below : AllByRecursion (λ (b : BatchState).
      AreBelow (length f.seat) (commands_in b.commands)) waiting
  pub received : f.writer.is_broken ≡ false → f.writer.register ≡ f.end.state.register
  pub tied : IsTied w (λ (t : ℕ). (view_at a.seat t).taken) (view_at f.seat) a.state f.writer
      (map sent_as waiting)

-- These events lead to a world that is these parts'.
abbrev pub LeadsOn : {D P : Type 0} → World → List Event → List Taken → List Entry
    → AllocatorState P → FlusherState D → Type 0
LeadsOn w events given safe a f =
    LeadsTo w events given safe (λ (end : World). IsRelayOf end a f)

-- A split of a clerk is no event.
abbrev pub SplitsAreNoEvents : (D P : Type 0) → Type 0
SplitsAreNoEvents D P = (w : World) (clerk : ClerkState D P) (a : AllocatorState P)
    (f : FlusherState D) → AreParts clerk a f → IsFlusher f → IsMachineOf w clerk → IsRelayOf w a f

-- Nor is a rejoining of the parts.
abbrev pub RejoiningsAreNoEvents : (D P : Type 0) → Type 0
RejoiningsAreNoEvents D P =
    (w : World) (a : AllocatorState P) (f : FlusherState D) (clerk : ClerkState D P)
    → IsRejoined a f clerk → IsRelayOf w a f → IsMachineOf w clerk

-- A turn that found the line full is no event.
abbrev pub FullTurnsAreNoEvents : (D P : Type 0) → Type 0
FullTurnsAreNoEvents D P =
    (w : World) (a b : AllocatorState P) (f : FlusherState D) (counts : Counts)
    → IsFullTurn a b counts → IsRelayOf w a f → IsRelayOf w b f

-- Nor is one that found it empty.
abbrev pub EmptyTurnsAreNoEvents : (D P : Type 0) → Type 0
EmptyTurnsAreNoEvents D P =
    (w : World) (a : AllocatorState P) (f g : FlusherState D)
    (result : Result FlushCounts KeeperFault) → IsEmptyTurn f g result → IsRelayOf w a f
    → IsRelayOf w a g

-- Nor is the sending of a batch in hand.
abbrev pub SendingsAreNoEvents : (D P : Type 0) → Type 0
SendingsAreNoEvents D P = (w : World) (a b : AllocatorState P) (f : FlusherState D) → IsSending a b
    → IsRelayOf w a f → IsRelayOf w b f

-- Nor is a telling of both parts.
abbrev pub TellingsAreNoEvents : (D P : Type 0) → Type 0
TellingsAreNoEvents D P = (w : World) (a b : AllocatorState P) (f g : FlusherState D)
    → IsTelling a b f g → IsRelayOf w a f → IsRelayOf w b g

-- Nor is a scan that took nothing.
abbrev pub NothingTakenIsNoEvent : (D P : Type 0) → Choice → Type 0
NothingTakenIsNoEvent D P choice =
    (w : World) (a b : AllocatorState P) (f : FlusherState D) (counts : Counts)
    (t : IsScanTurn choice a b counts) → commands_of 0 t.visits ≡ []
    → IsRelayOf w a f → IsRelayOf w b f

-- A turn that finds nothing to do is no event: where the line was full or empty, and where a scan
-- took nothing.
pub record IdleTurnsAreNoEvents (D P : Type 0) (choice : Choice) : Type 0 where
  pub full : FullTurnsAreNoEvents D P
  pub empty : EmptyTurnsAreNoEvents D P
  pub nothing : NothingTakenIsNoEvent D P choice

-- It stays so whatever terminals ask and hear.
abbrev pub TerminalsPreserveParts : (D P : Type 0) → Type 0
TerminalsPreserveParts D P = (w end : World) (a : AllocatorState P) (f : FlusherState D) (event : Event)
    → IsTrue (is_of_terminals event) → next w event ≡ Some end
    → IsRelayOf w a f → IsRelayOf end a f

-- By the desk's rule each word that the allocator took of a terminal was asked there, in rising
-- turns, and a word can spell each of these asks.
pub record TakesAsked (asked : List Command) (terminal : ℕ) (view : ClerkView) : Type 0 where
  pub ahead : IsAhead (ask_words 1 (map ask_of (filter (asks terminal) asked))) view.taken
  pub in_range : All IsAsk (map ask_of (filter (asks terminal) asked))

abbrev pub AllTakesAsked : List Command → List ClerkPlace → Type 0
AllTakesAsked asked places = (terminal : ℕ) → TakesAsked asked terminal (view_at places terminal)

-- At one moment, while the rule of each terminal's table holds: what the terminal's seat there knows,
-- and what the one ahead of the clerk does, whoever holds the two.
abbrev pub AheadAtOnce : List ClerkPlace → Terminals → Type 0
AheadAtOnce places terminals = (terminal : ℕ) → terminal < length places
    → KnowAtOnce (λ v. v.looks_ahead) (terminals terminal) (view_at places terminal)

-- So what the allocator took is what the desk's rule says, where each terminal asked what it did in
-- this world.
abbrev pub RuleOrdersAhead : Type 0
RuleOrdersAhead = (w : World) (terminals : Terminals) (places : List ClerkPlace)
    → ((terminal : ℕ) → ShowsTerminal w terminal (terminals terminal))
    → AheadAtOnce places terminals → AllTakesAsked w.asked places

-- The line holds at most four batches: of those that were sent at most so many weren't received.
abbrev pub HasRoom : {D P : Type 0} → AllocatorState P → FlusherState D → Type 0
HasRoom a f = length a.end.sent ≤ length f.end.received + MOST_BATCHES

-- By the line's rule what the flusher has received begins what was sent.
abbrev pub ReceivesSent : {D P : Type 0} → AllocatorState P → FlusherState D → Type 0
ReceivesSent a f = Begins f.end.received (a.end.sent ++ a.hand)

-- Both are so of parts of which `tell`, `rejoin` or `run` said what the line holds.
abbrev pub QueuedHaveRoom : (D P : Type 0) → Type 0
QueuedHaveRoom D P = (a : AllocatorState P) (f : FlusherState D) → Queued a.end f.end
    → HasRoom a f × ReceivesSent a f

-- A scan that took something is the machine's, and its batch joins the queue.
abbrev pub ScansAreAllocations : (D P : Type 0) → Choice → Type 0
ScansAreAllocations D P choice =
    (w : World) (a b : AllocatorState P) (f : FlusherState D) (counts : Counts)
    (t : IsScanTurn choice a b counts) → commands_of 0 t.visits ≢ []
    → AllTakesAsked w.asked b.seat → HasRoom b f → IsRelayOf w a f
    → (letters : List (Option ℕ))
    × LeadsOn w (allocator_events (commands_of 0 t.visits) letters) [] (safe_list w) b f

-- what a flusher's turn gives where it receives this batch and answers Ok
pub record Flushes {D : Type 0} (f g : FlusherState D) (batch : BatchState)
    (counts : FlushCounts) : Type 0 where
  pub turn : IsBatchTurn f g batch (Ok counts)
  pub was_whole : f.writer.is_broken ≡ false
  pub is_whole : g.writer.is_broken ≡ false
  pub register : g.writer.register ≡ g.end.state.register
  pub no_doubt : g.writer.doubt ≡ []
  pub same_plan : g.writer.plan ≡ f.writer.plan

-- It makes the first batch of the queue safe, and answers its commands.
abbrev pub FlushesAreFlushes : (D P : Type 0) → Type 0
FlushesAreFlushes D P = (w : World) (a : AllocatorState P) (f g : FlusherState D)
    (batch : BatchState) (counts : FlushCounts) → Flushes f g batch counts → ReceivesSent a g
    → IsRelayOf w a f
    → (q : SealedBatch) × ((folds : ℕ)
    → LeadsOn w (flusher_events all_found q folds (length batch.entries))
    (map held_as batch.commands) (safe_list w ++ batch.entries) a g)

-- what it gives where the device failed it
pub record FlushFails {D : Type 0} (f g : FlusherState D) (batch : BatchState) : Type 0 where
  pub turn : IsBatchTurn f g batch (Err (Journal Disk))
  pub was_whole : f.writer.is_broken ≡ false
  pub breaks : g.writer.is_broken ≡ true
  pub same_register : g.writer.register ≡ f.writer.register
  pub same_plan : g.writer.plan ≡ f.writer.plan

-- It is one of the machine that fails once the batch's gate was written: whichever call it was, a
-- crash may find all of the batch or nothing of it, as in that phase.
abbrev pub FailedFlushesAreFailures : (D P : Type 0) → Type 0
FailedFlushesAreFailures D P =
    (w : World) (a : AllocatorState P) (f g : FlusherState D) (batch : BatchState)
    → FlushFails f g batch → ReceivesSent a g → IsRelayOf w a f
    → (q : SealedBatch) × ((folds : ℕ)
    → LeadsOn w (failing_flush all_found q folds GateWritten (length batch.entries))
    (map unknown_to (map held_as batch.commands)) (safe_list w) a g)

-- what it gives after a fault
pub record FlushesBroken {D : Type 0} (f g : FlusherState D) (batch : BatchState) : Type 0 where
  pub turn : IsBatchTurn f g batch (Err (Journal Broken))
  pub was_broken : f.writer.is_broken ≡ true
  pub rests : g.writer ≡ f.writer

-- It answers Unknown to each command of the first batch of the queue.
abbrev pub BrokenFlushesAreBroken : (D P : Type 0) → Type 0
BrokenFlushesAreBroken D P =
    (w : World) (a : AllocatorState P) (f g : FlusherState D) (batch : BatchState)
    → FlushesBroken f g batch → ReceivesSent a g → IsRelayOf w a f
    → (q : SealedBatch) × LeadsOn w (broken_flush all_found q)
    (map unknown_to (map held_as batch.commands)) (safe_list w) a g
