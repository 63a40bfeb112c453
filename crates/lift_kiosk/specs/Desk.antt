-- A terminal's seat at the desk as a port: its words read as asks and answers.
use Rattle.std.specs.Prelude.{ℕ, List, map, length, Option, Some, None, nat_lt, ◌==◌}
use Rattle.std.specs.Prelude.{if◌then◌else◌}
use Rattle.atomic_table.specs.Seated.{TableId}
use Rattle.lift_desk.specs.declared.view.TerminalView.{TerminalView}
use Rattle.lift_desk.specs.Seats.{TerminalSeat}
use Rattle.lift_desk.specs.Words.{number_of, last_of, ask_of, reply_of}
use Rattle.lift_kiosk.specs.Port.{PortPlace, PortView}

-- the number of the ask whose answer was not heard
abbrev pub pending_of : TerminalView → Option ℕ
pending_of v = if nat_lt (length v.heard) (length v.asked) then Some
    (number_of (last_of v.asked)) else None

-- what a port at the desk knows: its asks and answers are the words asked and heard, its looks are
-- those of its seat, and it is spent when all turns of a word were used
abbrev pub port_view : TerminalView → (rests : ℕ) → PortView
port_view v rests = record {
  pending = pending_of v;
  spent = length v.asked == 1048575;
  asked = map ask_of v.asked;
  heard = map reply_of v.heard;
  looks = v.looks;
  rests = rests;
}

-- a port at the desk: the desk's tables, the seat of its terminal, and how often it rested
pub record DeskPortState : Type 0 where
  pub desk : List TableId
  pub seat : TerminalSeat
  pub rests : ℕ

-- how many asks were stored at a seat
abbrev pub asks_at : TerminalSeat → ℕ
asks_at seat = length seat.view.asked

abbrev pub place_of : DeskPortState → PortPlace
place_of port = record { desk = port.desk; table = port.seat.table; terminal = port.seat.terminal }
