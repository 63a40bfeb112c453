use Rattle.std.proofs.Common.{◌≡◌, ◌++◌, ℕ, List, string_bytes}
use Rattle.lift_replay.proofs.Telling.{AreToldTo}
use Rattle.lift_replay.proofs.terminals.Terminals.push_all_told.Given as goal

abbrev pub invariant-loop-terminal : goal.invariant-loop-terminal
invariant-loop-terminal l = record {
  desk : l.self.desk ≡ l.fn.self.desk;
  rest : l.clerk ≡ record l.fn.clerk { seat = l.clerk.seat };
  told : (lines : List ℕ) × AreToldTo l.fn.taken l.terminal l.fn.self.seats.items l.self.seats.items l.fn.clerk.seat l.clerk.seat lines
      × (string_bytes l.report ≡ string_bytes l.fn.report ++ lines);
}
