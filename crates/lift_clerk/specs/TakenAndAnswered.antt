-- What was taken at a desk and how it was answered there, in the words of its terminals.
use Rattle.std.specs.Prelude.{ℕ, suc, ◌≡◌, ◌≢◌, List, [], ◌∷◌, ◌++◌, length, map, filter, All}
use Rattle.std.specs.List.{AllByRecursion}
use Rattle.lift_base.specs.declared.command.Reply.{Reply}
use Rattle.lift_desk.specs.declared.view.ClerkView.{ClerkView}
use Rattle.lift_desk.specs.declared.words.Ask.{Ask}
use Rattle.lift_desk.specs.Words.{reply_word}
use Rattle.lift_desk.specs.Spelled.{ask_words, IsAsk}
use Rattle.lift_desk.specs.Seats.{ClerkPlace, view_at}
use Rattle.lift_policy.specs.declared.command.Command.{Command}
use Rattle.lift_world.specs.declared.event.Answer.{Answer}
use Rattle.lift_world.specs.World.{asks, is_answer_to}
use Rattle.lift_world.specs.Next.{answer_of}
use Rattle.lift_world.specs.Turns.{with_replies}

-- what a command asks
abbrev pub ask_of : Command → Ask
ask_of c = record { number = c.number; body = c.body }

-- the words of these answers, from this turn on
abbrev pub answer_words : ℕ → List Answer → List ℕ
answer_words turn [] = []
answer_words turn (a ∷ answers) = reply_word turn a.number a.reply ∷ answer_words (suc turn) answers

-- no two of these commands are of one terminal
abbrev pub AreApart : List Command → Type 0
AreApart [] = Unit {0}
AreApart (c ∷ cs) = AllByRecursion (λ (d : Command). d.terminal ≢ c.terminal) cs × AreApart cs

-- these asks are taken, and these answers to them stored
pub record Grows (before after : ClerkView) (cs : List Command)
    (answers : List Answer) : Type 0 where
  pub taken : after.taken ≡ before.taken ++ ask_words (suc (length before.taken)) (map ask_of cs)
  pub answered : after.answered
      ≡ before.answered ++ answer_words (suc (length before.answered)) answers

-- These commands were taken, at most one of each terminal, and answered so, and nothing else was.
pub record TakesAndAnswers (old new : List ClerkPlace) (commands : List Command)
    (replies : List Reply) : Type 0 where
  pub one_each : length replies ≡ length commands
  pub apart : AreApart commands
  -- a word can spell each
  pub in_range : All IsAsk (map ask_of commands)
  pub grows : (t : ℕ) → Grows (view_at old t) (view_at new t) (filter (asks t) commands)
      (filter (is_answer_to t) (map answer_of (with_replies commands replies)))
