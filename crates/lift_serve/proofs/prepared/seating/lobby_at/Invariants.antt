use Rattle.std.proofs.Common.{◌≡◌, ◌++◌}
use Rattle.std.specs.Vec.Iter.{into_iter_items}
use Rattle.lift_desk.specs.Seats.{seats_from}
use Rattle.lift_serve.specs.Lobby.{found_seats}
use Rattle.lift_serve.proofs.prepared.seating.lobby_at.Given as goal

abbrev pub invariant-loop-seat : goal.invariant-loop-seat
invariant-loop-seat l = record {
  all : l.places.items ≡ found_seats l.register l.desk l.yielded;
  split : l.yielded ++ into_iter_items l.seat-iterator ≡ seats_from 0 l.desk;
}
