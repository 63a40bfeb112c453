-- What each step changes in the view of the seat that makes it, and what it tells.
use Rattle.std.specs.Prelude.{◌≡◌, ℕ, suc, ◌≤◌, Bool, true, List, [], ◌∷◌, ◌++◌, length, nat_lt}
use Rattle.std.specs.Prelude.{nat_eq, if◌then◌else◌, ◌&&◌}
use mathlib.Core.List.{IsPrefix}
use Rattle.atomic_table.specs.Table.{Me, Step}
use Rattle.lift_desk.specs.declared.view.TerminalView.{TerminalView}
use Rattle.lift_desk.specs.declared.view.ClerkView.{ClerkView}
use Rattle.lift_desk.specs.declared.view.View.{View}
use Rattle.lift_desk.specs.Words.{turn_of, number_of, last_of, IsAskWord, IsReplyWord}
use Rattle.lift_desk.specs.Rule.{Lists, IsInOrder, IsAhead}

abbrev Seated : Type 0
Seated = Me (Unit {0}) View

-- the terminal has stored this ask
abbrev pub with_ask : TerminalView → ℕ → TerminalView
with_ask v word = record v { asked = v.asked ++ word ∷ [] }

-- the clerk has stored this answer
abbrev pub with_answer : ClerkView → ℕ → ClerkView
with_answer v word = record v { answered = v.answered ++ word ∷ [] }

-- the word answers the last ask, which waits for it
abbrev pub is_awaited : TerminalView → ℕ → Bool
is_awaited v word = nat_lt (length v.heard) (length v.asked) &&
    (nat_eq (turn_of word) (length v.asked))

-- the terminal has looked at an answer
abbrev pub with_look : TerminalView → ℕ → TerminalView
with_look v word = record v { looks = suc v.looks; last = word }

-- and has heard it, if it is the one that it waits for
abbrev pub with_hearing : TerminalView → ℕ → TerminalView
with_hearing v word = record (with_look v word) {
  heard = if is_awaited v word then v.heard ++ word ∷ [] else v.heard;
}

-- the word's turn is above that of each ask that was taken
abbrev pub is_new_word : ClerkView → ℕ → Bool
is_new_word v word = nat_lt (turn_of (last_of v.taken)) (turn_of word)

-- the clerk has looked at an ask and taken it, if it is new
abbrev pub with_taking : ClerkView → ℕ → ClerkView
with_taking v word = record v {
  taken = if is_new_word v word then v.taken ++ word ∷ [] else v.taken;
  looks = suc v.looks;
  last = word;
}

-- the terminal was told that these words were answered
abbrev pub with_told_answers : TerminalView → List ℕ → TerminalView
with_told_answers v words = record v { told = words }

-- the clerk was told that these words were asked
abbrev pub with_told_asks : ClerkView → List ℕ → ClerkView
with_told_asks v words = record v { told = words }

-- what the terminal asked and heard, and what the clerk took and answered of it
abbrev pub lists_of : TerminalView → ClerkView → Lists
lists_of t c = record { asked = t.asked; taken = c.taken; answered = c.answered; heard = t.heard }

abbrev pub at_terminal : View → TerminalView → View
at_terminal v terminal = record v { terminal = terminal }

abbrev pub at_clerk : View → ClerkView → View
at_clerk v clerk = record v { clerk = clerk }

abbrev pub Asked : Step (Unit {0}) → Seated → ℕ → Seated → Type 0
Asked step before found after =
    after ≡ (at_terminal before.0 (with_ask before.0.terminal step.first), before.1)

abbrev pub AnswersPlace : Step (Unit {0}) → Seated → ℕ → Seated → Type 0
AnswersPlace step before found after =
    after ≡ (at_clerk before.0 (with_answer before.0.clerk step.first), before.1)

-- it is the ask word that is loaded; an ask that is taken is spelled, and all before it was
-- answered; then all that the clerk was told of is taken; an ask that a note says is found, where
-- it is new; what is loaded is the last ask of all, which is taken then
abbrev pub Looked : Step (Unit {0}) → Seated → ℕ → Seated → Type 0
Looked step before found after =
    (step.word ≡ 0)
    × (after ≡ (at_clerk before.0 (with_taking before.0.clerk found), before.1))
    × (is_new_word before.0.clerk found ≡ true
    → IsAskWord found × (turn_of found ≡ suc (length before.0.clerk.taken))
    × (length before.0.clerk.answered ≡ length before.0.clerk.taken))
    × IsPrefix before.0.clerk.told (with_taking before.0.clerk found).taken
    × (is_new_word before.0.clerk before.0.noted ≡ true → found ≡ before.0.noted)
    × (found ≡ last_of (with_taking before.0.clerk found).taken)

-- it is the ask word that is loaded; an ask that is taken ahead of the answers is spelled; its turn
-- is no earlier than that of the last ask which the seat was told of, and that ask is the only one
-- with its turn; what is loaded is the last ask of all, which is taken then
abbrev pub LookedAhead : Step (Unit {0}) → Seated → ℕ → Seated → Type 0
LookedAhead step before found after =
    (step.word ≡ 0)
    × (after ≡ (at_clerk before.0 (with_taking before.0.clerk found), before.1))
    × (is_new_word before.0.clerk found ≡ true → IsAskWord found)
    × (length before.0.clerk.told ≤ turn_of found)
    × (turn_of found ≡ length before.0.clerk.told → found ≡ last_of before.0.clerk.told)
    × (found ≡ last_of (with_taking before.0.clerk found).taken)

-- it is the answer word that is loaded; an answer that is heard is spelled, with the turn and the
-- number of the last ask; then all that the terminal was told of is heard; what is loaded is the
-- last answer of all, which is heard then
abbrev pub Heard : Step (Unit {0}) → Seated → ℕ → Seated → Type 0
Heard step before found after =
    (step.word ≡ 1)
    × (after ≡ (at_terminal before.0 (with_hearing before.0.terminal found), before.1))
    × (is_awaited before.0.terminal found ≡ true
    → IsReplyWord found × (turn_of found ≡ length before.0.terminal.asked)
    × (number_of found ≡ number_of (last_of before.0.terminal.asked)))
    × IsPrefix before.0.terminal.told (with_hearing before.0.terminal found).heard
    × (found ≡ last_of (with_hearing before.0.terminal found).heard)

-- a seat with both rights loads the answer word, which is the last that was answered; what was
-- answered begins with what was heard
abbrev pub Met : Step (Unit {0}) → Seated → ℕ → Seated → Type 0
Met step before found after =
    (step.word ≡ 1)
    × (after ≡ (at_terminal before.0 (with_look before.0.terminal found), before.1))
    × (found ≡ last_of before.0.clerk.answered)
    × IsPrefix before.0.terminal.heard before.0.clerk.answered

-- nothing changes, and the words of a seat with both rights are in order
abbrev pub Compared : Step (Unit {0}) → Seated → ℕ → Seated → Type 0
Compared step before found after =
    (after ≡ before) × IsInOrder (lists_of before.0.terminal before.0.clerk)

-- nothing changes, and what a seat took ahead was asked by the terminal whose rights it has too
abbrev pub ComparedAhead : Step (Unit {0}) → Seated → ℕ → Seated → Type 0
ComparedAhead step before found after =
    (after ≡ before) × IsAhead before.0.terminal.asked before.0.clerk.taken
