-- Seats and desks as contracts see them.
use Rattle.std.specs.Prelude.{◌≡◌, ℕ, suc, ◌<◌, Bool, true, false, List, [], ◌∷◌, ◌++◌, map, length}
use Rattle.std.specs.Prelude.{slice_get, slice_index_or, slice_set, Option, Some, None, All, IsSome}
use Rattle.std.specs.Prelude.{IfSome}
use mathlib.Core.List.{IsPrefix}
use Rattle.atomic_table.specs.Seated.{TableId}
use Rattle.lift_base.specs.declared.command.Body.{Body}
use Rattle.lift_base.specs.declared.command.Reply.{Reply}
use Rattle.lift_desk.specs.declared.view.TerminalView.{TerminalView}
use Rattle.lift_desk.specs.declared.view.ClerkView.{ClerkView}
use Rattle.lift_desk.specs.declared.words.Ask.{Ask}
use Rattle.lift_desk.specs.Words.{turn_of, number_of, last_of, ask_word, reply_word, IsReply}
use Rattle.lift_desk.specs.Looker.{LookerState}
use Rattle.lift_desk.specs.Rule.{no_asks, no_answers, taken_only, with_more_looks}
use Rattle.lift_desk.specs.Spelled.{IsAsk}
use Rattle.lift_desk.specs.Steps.{is_awaited, is_new_word, with_ask, with_taking}

-- a terminal's seat: its table, its terminal, and what it knows
pub record TerminalSeat : Type 0 where
  pub table : TableId
  pub terminal : ℕ
  pub view : TerminalView

-- the clerk's seat at one table; where it is not seated, it stands in for one
pub record ClerkPlace : Type 0 where
  pub seated : Bool
  pub table : TableId
  pub view : ClerkView

abbrev pub no_table : TableId
no_table = record {
  words = 0;
  slots = 0;
  views_name = 0;
  atom = 0;
  block = 0;
  offset = 0;
  slot_names = [];
}

abbrev pub no_place : ClerkPlace
no_place = record { seated = false; table = no_table; view = no_answers }

-- a seat stands at each place
abbrev pub AllSeated : List ClerkPlace → Type 0
AllSeated places =
    (k : ℕ) → k < length places → (slice_index_or places k no_place).seated ≡ true

-- what the clerk knows of a terminal's words
abbrev pub view_at : List ClerkPlace → ℕ → ClerkView
view_at clerk terminal = (slice_index_or clerk terminal no_place).view

abbrev pub placed_at : TableId → ClerkView → ClerkPlace
placed_at table view = record { seated = true; table = table; view = view }

-- the seat is at the table of its terminal
abbrev pub IsSeatOf : List TableId → TerminalSeat → Type 0
IsSeatOf desk seat = slice_get desk seat.terminal ≡ Some seat.table

-- each of these seats is at the table of its terminal
abbrev pub AreSeatsOf : List TableId → List TerminalSeat → Type 0
AreSeatsOf desk seats = All (IsSeatOf desk) seats

-- the clerk has a seat at each table
abbrev pub IsClerkOf : List TableId → List ClerkPlace → Type 0
IsClerkOf desk clerk = map (λ (p : ClerkPlace). p.table) clerk ≡ desk

-- the seat with another view
abbrev pub seat_with : TerminalSeat → TerminalView → TerminalSeat
seat_with seat view = record seat { view = view }

-- the clerk's seats, with another view of one terminal's words
abbrev pub clerk_with : List ClerkPlace → ℕ → ClerkView → List ClerkPlace
clerk_with clerk terminal view =
    slice_set clerk terminal (placed_at (slice_index_or clerk terminal no_place).table view)

-- the terminal's last ask has not been heard
abbrev pub Waits : TerminalView → Type 0
Waits v = length v.heard < length v.asked

-- the clerk took an ask that it has not answered
abbrev pub Owes : ClerkView → Type 0
Owes v = length v.answered < length v.taken

-- the clerk has answered every ask that it took, of every terminal
abbrev pub OwesNothing : List ClerkPlace → Type 0
OwesNothing clerk = All (λ (p : ClerkPlace). ¬ Owes p.view) clerk

-- the seat has stored this ask with its next turn, and waits for the answer to it
pub record StoresAsk (old : TerminalSeat) (number : ℕ) (body : Body) (new : TerminalSeat)
    : Type 0 where
  pub stored : new ≡ seat_with old
      (with_ask old.view (ask_word (suc (length old.view.asked)) number body))
  pub waits : Waits new.view
  pub last : number_of (last_of new.view.asked) ≡ number
  pub in_range : IsAsk (record { number = number; body = body })

-- what the terminal hears of the word loaded
abbrev pub HearsOf : TerminalView → ℕ → Option Reply → Type 0
HearsOf v word None = is_awaited v word ≡ false
HearsOf v word (Some reply) = (is_awaited v word ≡ true)
    × (word ≡ reply_word (length v.asked) (number_of (last_of v.asked)) reply)

-- what the clerk takes of the word loaded
abbrev pub TakesOf : ClerkView → ℕ → Option Ask → Type 0
TakesOf v word None = is_new_word v word ≡ false
TakesOf v word (Some ask) =
    (is_new_word v word ≡ true) × (word ≡ ask_word (suc (length v.taken)) ask.number ask.body)

-- the terminal was told of this answer to its last ask, and has not heard it
abbrev pub IsToldAnswer : TerminalView → Reply → Type 0
IsToldAnswer v reply = IsReply reply
    × (v.told ≡ v.heard ++ reply_word (length v.asked) (number_of (last_of v.asked)) reply ∷ [])

-- the clerk was told of this ask, and has not taken it
abbrev pub IsToldAsk : ClerkView → Ask → Type 0
IsToldAsk v ask = IsAsk ask
    × (v.told ≡ v.taken ++ ask_word (suc (length v.taken)) ask.number ask.body ∷ [])

-- what one look of the clerk shows, from what it knew to what it knows then
pub record LookTells (before after : ClerkView) (found : Option Ask) : Type 0 where
  pub even : IsSome found → length before.answered ≡ length before.taken
  pub owes : IfSome found (λ ask. Owes after × (number_of (last_of after.taken) ≡ ask.number))
  -- the word loaded is the last that is taken then, 0 for none; by the desk's rule it is the last
  -- that was asked, so all of these are taken then
  pub last_word : after.last ≡ last_of after.taken
  -- all asks that the clerk was told of are taken then
  pub known : IsPrefix before.told after.taken
  pub finds : (ask : Ask) → IsToldAsk before ask → found ≡ Some ask
  -- so the word has no other reading
  pub in_range : IfSome found IsAsk

-- the seats after one look at a terminal's ask word, and what they take of the word loaded
abbrev pub LooksOnce : (ClerkView → ℕ → Option Ask → Type 0) → List ClerkPlace → ℕ
    → List ClerkPlace → Option Ask → Type 0
LooksOnce Takes old terminal new found = (word : ℕ)
    × (new ≡ clerk_with old terminal (with_taking (view_at old terminal) word))
    × Takes (view_at old terminal) word found

-- the last ask that a seat ahead was told of is this one, which is later than all that it has taken
abbrev pub IsToldAhead : ClerkView → Ask → Type 0
IsToldAhead v ask = IsAsk ask × (turn_of (last_of v.taken) < length v.told)
    × (last_of v.told ≡ ask_word (length v.told) ask.number ask.body)

-- the terminals' seats at the start
abbrev pub seats_from : ℕ → List TableId → List TerminalSeat
seats_from first [] = []
seats_from first (table ∷ tables) =
    record { table = table; terminal = first; view = no_asks } ∷ seats_from (suc first) tables

-- the clerk's seats at the start
abbrev pub clerk_of : List TableId → List ClerkPlace
clerk_of desk = map (λ (table : TableId). placed_at table no_answers) desk

-- what is taken ahead of the answers, of the word loaded
abbrev pub TakesAheadOf : ClerkView → ℕ → Option Ask → Type 0
TakesAheadOf v word None = is_new_word v word ≡ false
TakesAheadOf v word (Some ask) =
    (is_new_word v word ≡ true) × (word ≡ ask_word (turn_of word) ask.number ask.body)

-- what is seen of a place by its seat
abbrev pub place_of : LookerState → ClerkPlace
place_of l = record { seated = l.seated; table = l.table; view = l.view.clerk }

-- a seat ahead of each of the clerk's
abbrev pub ahead_from : List ClerkPlace → List ClerkPlace
ahead_from clerk = map (λ (p : ClerkPlace). placed_at p.table (taken_only p.view)) clerk

-- the clerk's seats, each with the looks of the seat ahead of it, and nothing else of that one
abbrev pub with_looks_of : List ClerkPlace → List ClerkPlace → List ClerkPlace
with_looks_of ahead [] = []
with_looks_of [] (place ∷ places) = place ∷ places
with_looks_of (seat ∷ ahead) (place ∷ places) =
    record place { view = with_more_looks place.view seat.view.looks }
    ∷ with_looks_of ahead places

-- a note of an ask that was taken ahead: its table, and its word; where it is not seated, it stands
-- in for one
pub record NoteState : Type 0 where
  pub seated : Bool
  pub table : TableId
  pub word : ℕ

-- what is seen of a note by its seat
abbrev pub note_of : LookerState → NoteState
note_of l = record { seated = l.seated; table = l.table; word = l.view.noted }

-- the note is of this terminal's table
abbrev pub IsNoteOf : List TableId → ℕ → NoteState → Type 0
IsNoteOf desk terminal note =
    (note.seated ≡ true) × (slice_index_or desk terminal no_table ≡ note.table)

-- the word says this ask, and it is later than all that was taken
abbrev pub Says : ClerkView → ℕ → Ask → Type 0
Says v word ask = IsAsk ask × TakesAheadOf v word (Some ask)
