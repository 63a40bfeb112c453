use Rattle.std.proofs.Common.{◌≡◌, ◌≤◌, take}
use Rattle.lift_replay.specs.Terminals.{waiting_count}
use Rattle.lift_replay.proofs.terminals.Terminals.count_waiting.Given as goal

abbrev pub invariant-loop-seat : goal.invariant-loop-seat
invariant-loop-seat l = record {
  few : l.waiting ≤ l.seat-index;
  counts : l.waiting ≡ waiting_count (take l.seat-index l.self.seats.items);
}
