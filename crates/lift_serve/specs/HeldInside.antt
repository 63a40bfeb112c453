-- What is seen of a terminal's place, and what is known of it wherever there is one.
use Rattle.std.specs.Prelude.{◌≡◌}
use Rattle.lift_serve.specs.Visits.{HeldState, IsServedSeat}
use Rattle.lift_serve.specs.declared.prepared.seating.held.HeldSeat.TheInside.{Inside}

abbrev pub seen : Inside → HeldState
seen h = record { desk = h.desk.now; seat = h.seat; last = h.last; found = h.found }

-- it was served, and its pager is that of its seat's terminal
abbrev pub IsHeldSeat : Inside → Type 0
IsHeldSeat h = IsServedSeat (seen h) × (h.pager.now ≡ h.seat.terminal)
