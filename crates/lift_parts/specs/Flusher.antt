-- The part that makes batches safe and answers.
use Rattle.std.specs.Prelude.{ℕ, ◌≡◌, ◌≢◌, Bool, true, false, List, [], length, drop, map}
use Rattle.std.specs.Prelude.{fold, slice_index_or, Some, Result, Ok, Err, is_ok, All}
use Rattle.std.specs.List.{AllByRecursion}
use Rattle.atomic_table.specs.Seated.{TableId}
use Rattle.lift_base.specs.declared.history.Entry.{Entry}
use Rattle.lift_desk.specs.Words.{turn_of, last_of, IsReply}
use Rattle.lift_desk.specs.Steps.{with_taking}
use Rattle.lift_desk.specs.Seats.{ClerkPlace, IsClerkOf, no_place, view_at, clerk_with, Owes}
use Rattle.lift_journal.specs.declared.fault.JournalFault.TheVariants.{Disk, Broken}
use Rattle.lift_keeper.specs.declared.fault.KeeperFault.{KeeperFault}
use Rattle.lift_keeper.specs.declared.fault.KeeperFault.TheVariants.{Journal}
use Rattle.lift_keeper.specs.Writer.{WriterView}
use Rattle.lift_clerk.specs.declared.answering.DueAnswer.{DueAnswer}
use Rattle.lift_clerk.specs.Answering.{with_answers, stored_replies}
use Rattle.lift_clerk.specs.Visits.{Visit, FindsAt}
use Rattle.lift_parts.specs.declared.taken.NotedCommand.{NotedCommand}
use Rattle.lift_parts.specs.declared.counts.FlushCounts.{FlushCounts}
use Rattle.lift_clerk.specs.TakenAndAnswered.{AreApart, ask_of}
use Rattle.lift_parts.specs.Batch.{BatchState, IsDecided, AreBelow, commands_in}
use Rattle.lift_parts.specs.Batch.{entries_of_batches}
use Rattle.lift_parts.specs.Line.{Begins, ReceiveState, ReceivesOne, tried}

pub record FlusherState (D : Type 0) : Type 0 where
  pub desk : List TableId
  -- its seats, which have the right to answer
  pub seat : List ClerkPlace
  pub writer : WriterView D
  -- its end of the line
  pub end : ReceiveState

-- Every ask that these seats took is answered, and the last of each terminal has this turn: so no
-- batch that was received has been left out.
abbrev pub AllAnsweredBy : List ClerkPlace → List ℕ → Type 0
AllAnsweredBy places turns = (t : ℕ) → (¬ Owes (view_at places t))
    × (turn_of (last_of (view_at places t).taken) ≡ slice_index_or turns t 0)

-- What is true of every flusher: where nothing has failed, what is safe is what was received, and
-- all that was received is answered.
pub record IsFlusher {D : Type 0} (f : FlusherState D) : Type 0 where
  pub seated : IsClerkOf f.desk f.seat
  pub of_building : f.end.building ≡ f.writer.plan
  pub at_desk : f.end.desk ≡ f.desk
  pub safe : f.writer.is_broken ≡ false → f.writer.register ≡ f.end.state.register
  pub all_answered : AllAnsweredBy f.seat f.end.turns

-- the look that finds a command by its note: it reads the word that the note says, and gives the
-- command
abbrev pub noted_visit : NotedCommand → Visit
noted_visit taken = record { word = taken.note.word; found = Some (ask_of taken.command) }

-- the seats after these looks, one at the terminal of each command
abbrev pub looked_for : List ClerkPlace → List NotedCommand → List ClerkPlace
looked_for places batch = fold (λ seats t. clerk_with seats t.command.terminal
    (with_taking (view_at seats t.command.terminal) t.note.word)) places batch

-- such a look at its terminal gives each command
abbrev pub LooksGive : List ClerkPlace → List NotedCommand → Type 0
LooksGive places batch = AllByRecursion (λ (t : NotedCommand).
    FindsAt (slice_index_or places t.command.terminal no_place) (noted_visit t)) batch

-- the replies of a batch, each to its command's terminal
abbrev pub answers_in : List NotedCommand → List DueAnswer
answers_in taken = map (λ t. record { terminal = t.command.terminal; reply = t.reply }) taken

-- Each command's terminal was looked at once; the look read the word that the note says, and gave the
-- command. Then its answer was stored there: all replies where the batch is safe, else Unknown for
-- each; and each is one that a word can spell. Nothing else was looked at or stored.
pub record AnswersBatch (is_safe : Bool) (places : List ClerkPlace) (batch : List NotedCommand)
    (next : List ClerkPlace) : Type 0 where
  pub finds : LooksGive places batch
  pub stored : next ≡ with_answers is_safe (looked_for places batch) (answers_in batch)
  pub in_range : All IsReply (stored_replies is_safe (answers_in batch))

-- what was accepted of the batches that were received from one state of an end to another
abbrev pub entries_received : ReceiveState → ReceiveState → List Entry
entries_received old new = entries_of_batches (drop (length old.received) new.received)

-- A turn that received no batch. It tried once to, and was refused: at some moment since its last
-- pop the line was empty. Nothing else changes.
pub record IsEmptyTurn {D : Type 0} (old new : FlusherState D)
    (result : Result FlushCounts KeeperFault) : Type 0 where
  pub was_empty : Begins old.end.known old.end.received
  pub same : new ≡ record old { end = record old.end { tries = tried old.end.tries true } }
  pub whole : old.writer.is_broken ≡ false → result ≡ Ok (record { batches = 0; answers = 0 })
  pub broken : old.writer.is_broken ≡ true → result ≡ Err (Journal Broken)

-- A turn that received a batch, and then answered each of its commands, which its own looks gave.
-- The replies and the entries are of one run of the rules.
pub record IsBatchTurn {D : Type 0} (old new : FlusherState D) (batch : BatchState)
    (result : Result FlushCounts KeeperFault) : Type 0 where
  pub receives : ReceivesOne old.end batch new.end
  pub answered : AnswersBatch (is_ok result) old.seat batch.commands new.seat
  pub counts : (counts : FlushCounts) → result ≡ Ok counts
      → (counts.batches ≡ 1) × (counts.answers ≡ length batch.commands)
  pub fails : result ≡ Err (Journal Disk)
      → (new.writer.doubt ≡ batch.entries) × (batch.entries ≢ [])
  pub decided : IsDecided batch
  pub at_desk : AreBelow (length batch.desk) (commands_in batch.commands)
  pub apart : AreApart (commands_in batch.commands)
