use Rattle.std.proofs.Common.{◌≡◌, ◌≤◌, ◌++◌, ℕ, List, length, take, string_bytes}
use Rattle.lift_replay.specs.Terminals.{AllHear, seat_at}
use Rattle.lift_replay.proofs.terminals.Terminals.push_all_heard.Given as goal

abbrev pub invariant-loop-index : goal.invariant-loop-index
invariant-loop-index l = record {
  desk : l.self.desk ≡ l.fn.self.desk;
  count : length l.self.seats.items ≡ length l.fn.self.seats.items;
  heard : (lines : List ℕ) × AllHear (take l.index l.fn.self.seats.items) (take l.index l.self.seats.items) lines
      × (string_bytes l.report ≡ string_bytes l.fn.report ++ lines);
  rest : (i : ℕ) → l.index ≤ i → seat_at l.self.seats.items i ≡ seat_at l.fn.self.seats.items i;
}
