-- The rule of one terminal's table: its two words, what the terminal knows, and what the clerk
-- knows.
use Rattle.std.specs.Prelude.{◌≡◌, ◌≢◌, ℕ, suc, ◌+◌, ◌≤◌, Bool, true, false, List, [], ◌∷◌, map}
use Rattle.std.specs.Prelude.{length, All, Contains}
use Rattle.std.specs.List.Sorted.{IsStrictlyIncreasing}
use mathlib.Core.List.{IsPrefix}
use mathlib.Core.Option.{some}
use lib.ListN.{get_elem?}
use Rattle.atomic_table.specs.Table.{State}
use Rattle.lift_desk.specs.declared.view.TerminalView.{TerminalView}
use Rattle.lift_desk.specs.declared.view.ClerkView.{ClerkView}
use Rattle.lift_desk.specs.declared.view.View.{View}
use Rattle.lift_desk.specs.Words.{turn_of, number_of, last_of, IsAskWord, IsReplyWord}

-- no word yet
abbrev pub no_asks : TerminalView
no_asks = record { asked = []; heard = []; looks = 0; last = 0; told = [] }

abbrev pub no_answers : ClerkView
no_answers = record { taken = []; answered = []; looks = 0; last = 0; told = [] }

-- a seat that may do nothing
abbrev pub blank : View
blank = record {
  asks = false;
  answers = false;
  looks_ahead = false;
  lends = false;
  terminal = no_asks;
  clerk = no_answers;
  noted = 0;
}

abbrev pub terminal_view : View
terminal_view = record blank { asks = true }

abbrev pub clerk_view : View
clerk_view = record blank { answers = true }

-- the first seat, before it is split into the terminal's and the clerk's
abbrev pub opening_view : View
opening_view = record blank { asks = true; answers = true }

-- the clerk has counted so many looks more
abbrev pub with_more_looks : ClerkView → ℕ → ClerkView
with_more_looks v more = record v { looks = v.looks + more }

-- the clerk's seat while another one looks ahead of it, and when that one was joined in again, whose
-- looks it then counts too
abbrev pub lending : View → View
lending v = record v { lends = true }

abbrev pub having_back : View → View → View
having_back v ahead =
    record v { lends = false; clerk = with_more_looks v.clerk ahead.clerk.looks }

-- what a seat that looks ahead of the clerk begins with: what the clerk took and was told of
abbrev pub taken_only : ClerkView → ClerkView
taken_only v = record no_answers { taken = v.taken; told = v.told }

abbrev pub ahead_of : View → View
ahead_of v = record blank { looks_ahead = true; clerk = taken_only v.clerk }

-- a note of the last ask that was taken ahead of the clerk
abbrev pub ahead_note_of : View → View
ahead_note_of v = record blank { noted = last_of v.clerk.taken }

-- the view of a seat that has read a note of this ask
abbrev pub with_note : View → ℕ → View
with_note v word = record v { noted = word }

abbrev pub noted_by : View → View → View
noted_by v note = with_note v note.noted

-- a seat with the rights of both
abbrev pub united : View → View → View
united v c = record c { asks = v.asks; terminal = v.terminal; noted = 0 }

-- the terminal's part of it, which is told that these words were answered
abbrev pub terminal_part : View → List ℕ → View
terminal_part v words = record terminal_view { terminal = record v.terminal { told = words } }

-- the clerk's part of it, which is told that these words were asked
abbrev pub clerk_part : View → List ℕ → View
clerk_part v words =
    record clerk_view { lends = v.lends; clerk = record v.clerk { told = words } }

-- the part of it that looks ahead of the clerk, which is told what the terminal has asked
abbrev pub ahead_part : View → View
ahead_part v = record blank {
  looks_ahead = true;
  clerk = record v.clerk { told = v.terminal.asked };
}

-- the turn and the number of a word
abbrev pub stamp_of : ℕ → ℕ × ℕ
stamp_of word = (turn_of word, number_of word)

-- the words' turns are first, first + 1 and so on
abbrev pub CountTurns : ℕ → List ℕ → Type 0
CountTurns first [] = Unit {0}
CountTurns first (word ∷ words) = (turn_of word ≡ first) × CountTurns (suc first) words

-- all words of one terminal so far
pub record Lists : Type 0 where
  pub asked : List ℕ
  pub taken : List ℕ
  pub answered : List ℕ
  pub heard : List ℕ

-- Asks are taken, answered and heard in order, and each waits until the one before it was heard
pub record IsInOrder (l : Lists) : Type 0 where
  pub turns : CountTurns 1 l.asked
  pub taken : IsPrefix l.taken l.asked
  pub answered : IsPrefix (map stamp_of l.answered) (map stamp_of l.taken)
  pub heard : IsPrefix l.heard l.answered
  pub one_open : length l.asked ≤ suc (length l.heard)
  pub asks_spelled : All IsAskWord l.asked
  pub answers_spelled : All IsReplyWord l.answered

-- looked at ahead: each word was asked, and the turns rise
pub record IsAhead (asked taken : List ℕ) : Type 0 where
  pub asked_all : All (Contains asked) taken
  pub rise : IsStrictlyIncreasing (map turn_of taken)

-- Which seats these are, by their numbers: the terminal's, the clerk's, and the one that looks ahead
-- of the clerk while the clerk has lent it that right.
pub record Holders : Type 0 where
  pub terminal : ℕ
  pub clerk : ℕ
  pub ahead : ℕ
  pub lent : Bool

-- One seat at most stores asks and one answers, and what these know is all that there is. One at
-- most looks ahead, and only while the clerk's knows that it lends. What a seat was told began all
-- of it, and still does. What it read in a note was asked
pub record ViewFits (who : Holders) (l : Lists) (seat : ℕ) (v : View) : Type 0 where
  pub asks : v.asks ≡ true → (seat ≡ who.terminal) × (v.terminal.asked ≡ l.asked)
      × (v.terminal.heard ≡ l.heard)
  pub answers : v.answers ≡ true → (seat ≡ who.clerk) × (v.clerk.taken ≡ l.taken)
      × (v.clerk.answered ≡ l.answered) × (v.lends ≡ who.lent)
  pub looks_ahead : v.looks_ahead ≡ true
      → (who.lent ≡ true) × (seat ≡ who.ahead) × IsAhead l.asked v.clerk.taken
  pub told_answers : IsPrefix v.terminal.told l.answered
  pub told_asks : IsPrefix v.clerk.told l.asked
  pub noted : v.noted ≢ 0 → Contains l.asked v.noted

-- the two words are the last ask and the last answer
pub record AreLastWords (s : State (Unit {0}) View) : Type 0 where
  pub holders : Holders
  pub lists : Lists
  pub words : s.words ≡ last_of lists.asked ∷ last_of lists.answered ∷ []
  pub in_order : IsInOrder lists
  pub views : (seat : ℕ) (v : View) → get_elem? s.views seat ≡ some v
      → ViewFits holders lists seat v
