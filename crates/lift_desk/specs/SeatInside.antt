-- What a terminal's seat keeps beside what it knows.
use Rattle.std.specs.Prelude.{◌≡◌, suc, ◌≤◌, true, false, length}
use Rattle.lift_desk.specs.declared.seat.Seat.TheInside.{Inside}
use Rattle.lift_desk.specs.Words.{number_of, last_of}
use Rattle.lift_desk.specs.Seats.{TerminalSeat}

abbrev pub seen : Inside → TerminalSeat
seen s =
    record { table = s.looker.table; terminal = s.terminal; view = s.looker.view.terminal }

pub record IsSeated (s : Inside) : Type 0 where
  pub seated : s.looker.seated ≡ true
  pub asks : s.looker.view.asks ≡ true
  pub no_asks_read : s.looker.view.clerk.looks ≡ 0
  pub turn : s.turn ≡ length s.looker.view.terminal.asked
  pub in_range : s.turn ≤ 1048575
  pub number : s.number ≡ number_of (last_of s.looker.view.terminal.asked)
  pub waits : s.waits ≡ true
      → length s.looker.view.terminal.asked ≡ suc (length s.looker.view.terminal.heard)
  pub rests : s.waits ≡ false
      → length s.looker.view.terminal.asked ≡ length s.looker.view.terminal.heard
