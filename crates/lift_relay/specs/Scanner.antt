-- The half of an allocator that never waits, as contracts see it.
use Rattle.std.specs.Prelude.{ℕ, ◌≡◌, ◌≤◌, ◌<◌, ◌+◌, List, length, Option, Some, None}
use Rattle.atomic_table.specs.Seated.{TableId}
use Rattle.lift_building.specs.Plan.{Plan}
use Rattle.lift_desk.specs.Seats.{ClerkPlace, IsClerkOf}
use Rattle.lift_decider.specs.Decider.{DeciderState}
use Rattle.lift_policy.specs.Eligible.{Choice}
use Rattle.lift_policy.specs.Step.{State}
use Rattle.lift_policy.specs.Run.{Run}
use Rattle.lift_clerk.specs.declared.counts.Counts.{Counts}
use Rattle.lift_clerk.specs.Turn.{without_batch}
use Rattle.lift_parts.specs.declared.taken.NotedCommand.{NotedCommand}
use Rattle.lift_parts.specs.Batch.{BatchState, AreNoted, turns_of, next_turns, turns_after}
use Rattle.lift_parts.specs.Batch.{commands_in, replies_in}
use Rattle.lift_parts.specs.Line.{IsNextBatch}
use Rattle.lift_parts.specs.Scan.{ScansAhead, turns_in}

pub record ScannerState (P : Type 0) : Type 0 where
  pub desk : List TableId
  -- its seats, ahead of those that answer
  pub seat : List ClerkPlace
  pub plan : Plan
  -- what it decides on, and what its decisions began on
  pub state : State
  pub start : State
  pub policy : P

-- A scan as far as n terminals of its desk: of its seats, and of what it decides on. What was taken
-- has notes, each later than all that was taken there before.
pub record TakesAhead (choice : Choice) (desk : List TableId) (places seat : List ClerkPlace)
    (before after : DeciderState) (taken : List NotedCommand) (n : ℕ) : Type 0 where
  pub scans : ScansAhead choice before.plan places seat before.state after.state taken n
  pub seated : IsClerkOf desk seat
  pub plan : after.plan ≡ before.plan
  pub few : length after.state.batch ≤ n
  pub noted : AreNoted desk (turns_of places) taken
  pub turns : turns_after (turns_of places) taken ≡ turns_of seat

-- the batch that a scan makes: it goes on from what was decided and taken before
pub record MakesBatch {P : Type 0} (choice : Choice) (a : ScannerState P) (seat : List ClerkPlace)
    (decided : State) (batch : BatchState) : Type 0 where
  pub seated : IsClerkOf a.desk seat
  pub run : Run a.plan choice a.state (commands_in batch.commands) (replies_in batch.commands)
      decided
  pub entries : batch.entries ≡ decided.batch
  pub next : IsNextBatch a.plan a.desk a.state (turns_of a.seat) batch
  -- what decisions read after it
  pub leads : batch.after ≡ without_batch decided
  pub turns : turns_of seat ≡ next_turns batch
  pub uses : turns_in a.seat + 1 ≤ turns_in seat

-- there is one just where something was taken
abbrev pub MakesIt : {P : Type 0} → Choice → ScannerState P → List ClerkPlace → State → List NotedCommand
    → Option BatchState → Type 0
MakesIt choice old seat decided taken None = length taken ≡ 0
MakesIt choice old seat decided taken (Some batch) = (0 < length taken)
    × (batch.commands ≡ taken) × MakesBatch choice old seat decided batch

-- One scan of the desk, and what it took decided.
pub record HasScanned {P : Type 0} (choice : Choice) (old new : ScannerState P) (counts : Counts)
    (made : Option BatchState) : Type 0 where
  pub taken : List NotedCommand
  pub decided : State
  pub scans : ScansAhead choice old.plan old.seat new.seat old.state decided taken (length old.desk)
  pub makes : MakesIt choice old new.seat decided taken made
  pub after : new.state ≡ without_batch decided
  pub same : new ≡ record old { seat = new.seat; state = new.state }
  pub seated : IsClerkOf old.desk new.seat
  pub turns : turns_after (turns_of old.seat) taken ≡ turns_of new.seat
  pub uses : turns_in old.seat + length taken ≤ turns_in new.seat
  pub counted : (counts.taken ≡ length taken) × (counts.accepted ≡ length decided.batch)
