-- A sealed batch as contracts see it.
use Rattle.std.specs.Prelude.{ℕ, ◌≡◌, ◌<◌, List, [], ◌∷◌, length, map, fold, slice_index_or, slice_set}
use Rattle.std.specs.List.{AllByRecursion, flat_map}
use Rattle.atomic_table.specs.Seated.{TableId}
use Rattle.lift_base.specs.declared.command.Reply.{Reply}
use Rattle.lift_base.specs.declared.history.Entry.{Entry}
use Rattle.lift_building.specs.Plan.{Plan}
use Rattle.lift_register.specs.Prelude.{register_of, FitFrom}
use Rattle.lift_desk.specs.Words.{turn_of, last_of, ask_word}
use Rattle.lift_desk.specs.Spelled.{IsAsk}
use Rattle.lift_desk.specs.Seats.{ClerkPlace, IsNoteOf}
use Rattle.lift_policy.specs.declared.command.Command.{Command}
use Rattle.lift_policy.specs.Eligible.{any_eligible}
use Rattle.lift_policy.specs.Step.{State}
use Rattle.lift_policy.specs.Run.{Run}
use Rattle.lift_clerk.specs.TakenAndAnswered.{AreApart}
use Rattle.lift_parts.specs.declared.taken.NotedCommand.{NotedCommand}

pub record BatchState : Type 0 where
  -- what was taken, by rising terminal, each with its reply
  pub commands : List NotedCommand
  -- what was accepted of it
  pub entries : List Entry
  -- the building that it was decided in, what decisions read before it and after it, and the desk
  -- that it was taken at
  pub building : Plan
  pub before : State
  pub after : State
  pub desk : List TableId
  -- the turn of the last ask that was taken before it, of each terminal
  pub turns : List ℕ

abbrev pub commands_in : List NotedCommand → List Command
commands_in taken = map (λ (t : NotedCommand). t.command) taken

abbrev pub replies_in : List NotedCommand → List Reply
replies_in taken = map (λ (t : NotedCommand). t.reply) taken

-- what was accepted of these batches
abbrev pub entries_of_batches : List BatchState → List Entry
entries_of_batches batches = flat_map (λ (b : BatchState). b.entries) batches

-- the words that their notes say
abbrev pub noted_in : List NotedCommand → List ℕ
noted_in taken = map (λ (t : NotedCommand). t.note.word) taken

-- these commands are of the first so many terminals
abbrev pub AreBelow : ℕ → List Command → Type 0
AreBelow count commands = AllByRecursion (λ (c : Command). c.terminal < count) commands

-- the turn of the last ask that was taken, of each terminal
abbrev pub turns_of : List ClerkPlace → List ℕ
turns_of places = map (λ (p : ClerkPlace). turn_of (last_of p.view.taken)) places

-- the turns once this command was taken
abbrev pub turns_with : List ℕ → NotedCommand → List ℕ
turns_with turns taken = slice_set turns taken.command.terminal (turn_of taken.note.word)

-- the turns once all of these were taken
abbrev pub turns_after : List ℕ → List NotedCommand → List ℕ
turns_after turns commands = fold turns_with turns commands

-- The command's note is of its terminal's table, it says the ask that the command is, and that ask
-- is later than all that was taken there before.
pub record IsNoted (desk : List TableId) (turns : List ℕ) (taken : NotedCommand) : Type 0 where
  pub of_table : IsNoteOf desk taken.command.terminal taken.note
  pub in_range : IsAsk (record { number = taken.command.number; body = taken.command.body })
  pub says : taken.note.word
      ≡ ask_word (turn_of taken.note.word) taken.command.number taken.command.body
  pub counted : taken.command.terminal < length turns
  pub later : slice_index_or turns taken.command.terminal 0 < turn_of taken.note.word

-- so is each of these, one after another
abbrev pub AreNoted : List TableId → List ℕ → List NotedCommand → Type 0
AreNoted desk turns [] = Unit {0}
AreNoted desk turns (taken ∷ commands) = IsNoted desk turns taken
    × AreNoted desk (turns_with turns taken) commands

-- Its commands with their replies are a run of the rules from before it to after it, which
-- accepted just its entries.
pub record IsDecided (batch : BatchState) : Type 0 where
  pub run : Run batch.building any_eligible batch.before (commands_in batch.commands)
      (replies_in batch.commands) (record batch.after { batch = batch.entries })
  pub shows : batch.after.register ≡ register_of batch.before.register batch.entries
  pub sealed : (batch.before.batch ≡ []) × (batch.after.batch ≡ [])

-- What is true of every batch: its entries fit where they were decided, its commands are of
-- terminals of the desk, at most one of each, each has a note of its ask, and its replies and
-- entries are of one run.
pub record IsLawfulBatch (batch : BatchState) : Type 0 where
  pub fits : FitFrom batch.building batch.before.register batch.entries
  pub apart : AreApart (commands_in batch.commands)
  pub at_desk : AreBelow (length batch.desk) (commands_in batch.commands)
  pub noted : AreNoted batch.desk batch.turns batch.commands
  pub decided : IsDecided batch

-- the turns that a batch leads to
abbrev pub next_turns : BatchState → List ℕ
next_turns batch = turns_after batch.turns batch.commands
