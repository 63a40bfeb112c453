-- A group with its terminals: what each asked and heard is what the machine's terminal did.
use Rattle.std.specs.Prelude.{ℕ, suc, ◌≡◌, ◌≢◌, ◌<◌, List, ◌++◌, length, map}
use Rattle.std.specs.Prelude.{filter, All, Option, None}
use mathlib.Core.List.{IsPrefix}
use Rattle.lift_base.specs.declared.command.Reply.{Reply}
use Rattle.lift_desk.specs.declared.view.TerminalView.{TerminalView}
use Rattle.lift_desk.specs.declared.words.Ask.{Ask}
use Rattle.lift_desk.specs.Words.{ask_word}
use Rattle.lift_desk.specs.Spelled.{ask_words, IsAsk}
use Rattle.lift_desk.specs.Agree.{KnowAtOnce}
use Rattle.lift_desk.specs.Steps.{with_ask, with_hearing, with_look, with_told_answers}
use Rattle.lift_desk.specs.Seats.{TerminalSeat, view_at, Waits, HearsOf}
use Rattle.lift_policy.specs.declared.command.Command.{Command}
use Rattle.lift_world.specs.World.{World, asks, is_answer_to}
use Rattle.lift_clerk.specs.TakenAndAnswered.{answer_words, ask_of}
use Rattle.lift_clerk.specs.Machine.{IsMachineOf}
use Rattle.lift_clerk.specs.Steps.{GroupState}

-- what each terminal knows of its own words
abbrev pub Terminals : Type 0
Terminals = ℕ → TerminalView

-- The terminal's words: it asked and heard what the machine's terminal asked and heard, and a word
-- can spell each ask.
pub record ShowsTerminal (w : World) (terminal : ℕ) (view : TerminalView) : Type 0 where
  pub asked : view.asked ≡ ask_words 1 (map ask_of (filter (asks terminal) w.asked))
  pub heard : view.heard ≡ answer_words 1 (filter (is_answer_to terminal) w.heard)
  pub in_range : All IsAsk (map ask_of (filter (asks terminal) w.asked))

-- The world is what this group is, with what each of its terminals knows of its own words. The
-- group is a clerk, or the flusher of its two parts.
pub record IsGroup {D : Type 0} (w : World) (group : GroupState D) (terminals : Terminals)
    : Type 0 where
  pub machine : IsMachineOf w group
  pub theirs : (terminal : ℕ) → ShowsTerminal w terminal (terminals terminal)

-- one terminal knows this then, and each other one what it knew
pub record ChangesAt (before after : Terminals) (terminal : ℕ)
    (view : TerminalView) : Type 0 where
  pub here : after terminal ≡ view
  pub others : (other : ℕ) → other ≢ terminal → after other ≡ before other

-- what `ask` gives where it answers Ok
pub record TerminalAsks (before after : Terminals) (terminal : ℕ) (ask : Ask) : Type 0 where
  pub heard_all : ¬ Waits (before terminal)
  pub in_range : IsAsk ask
  pub stored : ChangesAt before after terminal
      (with_ask (before terminal)
      (ask_word (suc (length (before terminal).asked)) ask.number ask.body))

-- what `hear` gives
pub record TerminalHears (before after : Terminals) (terminal : ℕ) (word : ℕ)
    (result : Option Reply) : Type 0 where
  pub hears : HearsOf (before terminal) word result
  pub looked : ChangesAt before after terminal (with_hearing (before terminal) word)

-- One terminal's seat before and after a call of it, seen among the terminals of its group: these
-- words changed, and no others.
abbrev pub AtSeat : TerminalSeat → TerminalSeat → (Terminals → Terminals → ℕ → Type 0) → Type 0
AtSeat old new says = (before after : Terminals) → before old.terminal ≡ old.view
    → ChangesAt before after old.terminal new.view → says before after old.terminal

-- By the desk's rule what a terminal heard is a prefix of what was answered there.
abbrev pub HearsAnswers : {D : Type 0} → GroupState D → Terminals → ℕ → Type 0
HearsAnswers group terminals terminal =
    IsPrefix (terminals terminal).heard (view_at group.seat terminal).answered

-- And what was taken of each is a prefix of what it asked.
abbrev pub TakesAsks : {D : Type 0} → GroupState D → Terminals → Type 0
TakesAsks group terminals = (terminal : ℕ)
    → IsPrefix (view_at group.seat terminal).taken (terminals terminal).asked

-- At one moment, while the rule of each terminal's table holds: what the terminal's seat there knows,
-- and what the group's does, whoever holds the two.
abbrev pub SeenAtOnce : {D : Type 0} → GroupState D → Terminals → Type 0
SeenAtOnce group terminals = (terminal : ℕ) → terminal < length group.seat
    → KnowAtOnce (λ v. v.answers) (terminals terminal) (view_at group.seat terminal)

-- So both are what the desk's rule says, at each moment and of each terminal.
abbrev pub RuleOrders : Type 0 → Type 0
RuleOrders D = (group : GroupState D) (terminals : Terminals) → SeenAtOnce group terminals
    → TakesAsks group terminals
    × ((terminal : ℕ) → terminal < length group.seat → HearsAnswers group terminals terminal)

-- So it is with these commands after what was taken, which a word can spell.
pub record WereAsked {D : Type 0} (group : GroupState D) (terminals : Terminals)
    (commands : List Command) : Type 0 where
  pub in_range : All IsAsk (map ask_of commands)
  pub front : (terminal : ℕ) → IsPrefix ((view_at group.seat terminal).taken
      ++ ask_words (suc (length (view_at group.seat terminal).taken))
      (map ask_of (filter (asks terminal) commands))) (terminals terminal).asked

-- Where a terminal was told of all that was answered there, an answer that it hears while one waits
-- is one of these.
abbrev pub ToldAnswersAreHeard : Type 0 → Type 0
ToldAnswersAreHeard D =
    (group : GroupState D) (before after : Terminals) (terminal word : ℕ) (result : Option Reply)
    → TerminalHears before after terminal word result
    → (before terminal).told ≡ (view_at group.seat terminal).answered
    → length (before terminal).heard < length (view_at group.seat terminal).answered
    → IsPrefix (before terminal).told (after terminal).heard → HearsAnswers group after terminal

-- what else a terminal's call leaves: a `hear` that gives nothing, a `meet`, a `tell`
pub data IsRead (before : TerminalView) : TerminalView → Type 0 where
  HeardNothing : (word : ℕ) → HearsOf before word None → IsRead before (with_hearing before word)
  Met : (word : ℕ) → IsRead before (with_look before word)
  ToldAnswers : (words : List ℕ) → IsRead before (with_told_answers before words)
