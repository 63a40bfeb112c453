-- The seats of a desk's terminals, what they ask, and what they hear.
use Rattle.std.specs.Prelude.{ℕ, suc, ◌≡◌, ◌<◌, ◌⊎◌, List, [], ◌∷◌, ◌++◌, length}
use Rattle.std.specs.Prelude.{slice_index_or, Bool, nat_lt, count_by, Option, Some, None}
use Rattle.atomic_table.specs.Seated.{TableId}
use Rattle.lift_base.specs.declared.command.Body.{Body}
use Rattle.lift_base.specs.declared.command.Reply.{Reply}
use Rattle.lift_desk.specs.Words.{ask_word, number_of, last_of}
use Rattle.lift_desk.specs.declared.view.ClerkView.{ClerkView}
use Rattle.lift_desk.specs.Rule.{no_asks, IsInOrder}
use Rattle.lift_desk.specs.Steps.{with_ask, with_hearing, with_told_answers, with_told_asks}
use Rattle.lift_desk.specs.Steps.{lists_of}
use Rattle.lift_desk.specs.Seats.{TerminalSeat, ClerkPlace, AreSeatsOf, Waits, HearsOf}
use Rattle.lift_desk.specs.Seats.{IsToldAnswer, seat_with, no_table, view_at}
use Rattle.lift_replay.specs.Report.{heard_text}

-- what stands in for the seat of a terminal that the desk lacks
abbrev pub no_seat : TerminalSeat
no_seat = record { table = no_table; terminal = 0; view = no_asks }

abbrev pub seat_at : List TerminalSeat → ℕ → TerminalSeat
seat_at seats terminal = slice_index_or seats terminal no_seat

-- each terminal of the desk has its seat, in order
pub record AreTerminalsOf (desk : List TableId) (seats : List TerminalSeat) : Type 0 where
  pub count : length seats ≡ length desk
  pub seated : AreSeatsOf desk seats
  pub own : (i : ℕ) → i < length seats → (seat_at seats i).terminal ≡ i

-- the terminal's seat once it has asked this, with its next turn
abbrev pub having_asked : TerminalSeat → ℕ → Body → TerminalSeat
having_asked seat number body =
    seat_with seat (with_ask seat.view (ask_word (suc (length seat.view.asked)) number body))

-- the terminal's seat once it was told what the clerk has answered there
abbrev pub told_seat : TerminalSeat → ClerkView → TerminalSeat
told_seat seat view = seat_with seat (with_told_answers seat.view view.answered)

-- The clerk was told what a terminal asked, and the terminal what was answered there; what they have
-- stored fits together.
pub record BothTold (seat told : TerminalSeat) (place known : ClerkView) : Type 0 where
  pub hears : told ≡ told_seat seat place
  pub knows : known ≡ with_told_asks place seat.view.asked
  pub in_order : IsInOrder (lists_of seat.view place)

-- A terminal that doesn't wait is told nothing, and the clerk nothing of it.
pub record NeitherTold (seat told : TerminalSeat) (place known : ClerkView) : Type 0 where
  pub rests : ¬ Waits seat.view
  pub seat_same : told ≡ seat
  pub place_same : known ≡ place

-- its last ask has not been heard
abbrev pub has_unheard : TerminalSeat → Bool
has_unheard seat = nat_lt (length seat.view.heard) (length seat.view.asked)

-- how many terminals wait
abbrev pub waiting_count : List TerminalSeat → ℕ
waiting_count seats = count_by has_unheard seats

-- A terminal is told, or it doesn't wait, and the turn took as many asks as terminals do.
abbrev pub ToldOrRests : (taken : Option ℕ) → List TerminalSeat → (seat told : TerminalSeat)
    → (place known : ClerkView) → Type 0
ToldOrRests taken seats seat told place known = BothTold seat told place known
    ⊎ ((taken ≡ Some (waiting_count seats)) × NeitherTold seat told place known)

-- terminals are told after a turn that took so many asks, where that is known
pub record AreTold (taken : Option ℕ) (seats told : List TerminalSeat)
    (places known : List ClerkPlace) : Type 0 where
  pub count : length told ≡ length seats
  pub place_count : length known ≡ length places
  pub each : (i : ℕ) → i < length seats → ToldOrRests taken seats
      (seat_at seats i) (seat_at told i) (view_at places i) (view_at known i)

-- what the report shows of what a terminal hears
abbrev pub heard_line : TerminalSeat → Option Reply → List ℕ
heard_line seat None = []
heard_line seat (Some reply) = heard_text seat.terminal (number_of (last_of seat.view.asked)) reply

-- A terminal that waits has looked once for its answer, and the report shows what it heard: what it
-- was told of, if that was an answer.
pub record HasHeard (old new : TerminalSeat) (line : List ℕ) : Type 0 where
  pub word : ℕ
  pub reply : Option Reply
  pub waited : Waits old.view
  pub looked : new ≡ seat_with old (with_hearing old.view word)
  pub hears : HearsOf old.view word reply
  pub shown : line ≡ heard_line old reply
  pub finds : (answer : Reply) → IsToldAnswer old.view answer → reply ≡ Some answer

-- what a terminal does when all hear: one that doesn't wait rests
abbrev pub Hears : (old new : TerminalSeat) (line : List ℕ) → Type 0
Hears old new line = (¬ Waits old.view × (new ≡ old) × (line ≡ [])) ⊎ HasHeard old new line

-- all of these terminals hear, in their order
abbrev pub AllHear : (olds news : List TerminalSeat) (lines : List ℕ) → Type 0
AllHear [] [] lines = lines ≡ []
AllHear [] (new ∷ news) lines = ⊥
AllHear (old ∷ olds) [] lines = ⊥
AllHear (old ∷ olds) (new ∷ news) lines =
    (line : List ℕ) × (others : List ℕ) × Hears old new line × AllHear olds news others
    × (lines ≡ line ++ others)
