-- The half of a flusher that never waits, as contracts see it.
use Rattle.std.specs.Prelude.{◌≡◌, ◌<◌, false, List, length, Result, Ok, is_ok}
use Rattle.std.specs.List.{AllByRecursion}
use Rattle.atomic_table.specs.Seated.{TableId}
use Rattle.lift_disk.specs.Disk.{DiskState}
use Rattle.lift_desk.specs.Seats.{ClerkPlace, IsClerkOf, IsNoteOf, Says, view_at}
use Rattle.lift_keeper.specs.Commits.{Commits}
use Rattle.lift_keeper.specs.Writer.{WriterView}
use Rattle.lift_keeper.specs.declared.fault.KeeperFault.{KeeperFault}
use Rattle.lift_parts.specs.declared.counts.FlushCounts.{FlushCounts}
use Rattle.lift_clerk.specs.TakenAndAnswered.{AreApart, ask_of}
use Rattle.lift_parts.specs.declared.taken.NotedCommand.{NotedCommand}
use Rattle.lift_parts.specs.Batch.{BatchState, IsDecided, AreBelow, commands_in, next_turns}
use Rattle.lift_parts.specs.Flusher.{AnswersBatch, AllAnsweredBy}

pub record SettlerState (D : Type 0) : Type 0 where
  pub desk : List TableId
  -- the seats, which have the right to answer
  pub seat : List ClerkPlace
  pub writer : WriterView D

-- each command is of a terminal of the desk; its note is of that terminal's table, and says the
-- command's ask, which is later than all that these seats took there
abbrev pub AreDue : List TableId → List ClerkPlace → List NotedCommand → Type 0
AreDue desk seat commands = AllByRecursion (λ (t : NotedCommand).
    (t.command.terminal < length desk) × IsNoteOf desk t.command.terminal t.note
    × Says (view_at seat t.command.terminal) t.note.word (ask_of t.command)) commands

-- One batch: its entries were committed, a crash at any moment leaves what was safe before or that
-- with the batch, and each of its commands, which its own look gave, was answered: with its reply
-- where the batch is safe, else Unknown.
pub record SettlesBatch {D : Type 0} (state : D
    → DiskState) (old : SettlerState D) (batch : BatchState) (new : SettlerState D)
    (answer : Result FlushCounts KeeperFault) : Type 0 where
  pub commits : Commits state old.writer batch.entries new.writer answer
  pub answered : AnswersBatch (is_ok answer) old.seat batch.commands new.seat
  pub counts : (counts : FlushCounts) → answer ≡ Ok counts
      → (counts.batches ≡ 1) × (counts.answers ≡ length batch.commands)
  -- where nothing has failed, what is safe is the register after the batch
  pub leads : new.writer.is_broken ≡ false → new.writer.register ≡ batch.after.register
  pub all_answered : AllAnsweredBy new.seat (next_turns batch)
  pub seated : IsClerkOf new.desk new.seat
  pub decided : IsDecided batch
  pub at_desk : AreBelow (length batch.desk) (commands_in batch.commands)
  pub apart : AreApart (commands_in batch.commands)
  pub same : new.desk ≡ old.desk
