use Rattle.std.specs.Prelude.{◌≡◌, ◌≤◌, true, length}
use Rattle.atomic_table.specs.Seated.{TableId}
use Rattle.crossbeam_queue.specs.Passes.{view, IsPassOf}
use Rattle.lift_relay.specs.declared.line.ReceiveEnd.TheInside.{Inside}
use Rattle.lift_relay.specs.declared.line.EndView.{EndView}
use Rattle.lift_parts.specs.Line.{most_batches, ReceiveState, Tries}

abbrev pub receiver_of : TableId → EndView → Tries → ReceiveState
receiver_of line v tries = record {
  line = line;
  received = v.received;
  known = v.known;
  building = v.building;
  desk = v.desk;
  state = v.behind;
  turns = v.next_turns;
  tries = tries;
}

abbrev pub seen : Inside → ReceiveState
seen s = receiver_of s.side.pass.table_id (view s.side.pass) s.side.tries

pub record IsReceiveEnd (s : Inside) : Type 0 where
  pub of_line : IsPassOf s.side.line s.side.pass
  pub begun : (view s.side.pass).begun ≡ true
  pub receives : (view s.side.pass).receives ≡ true
  pub few : length (view s.side.pass).received ≤ most_batches
  pub count : s.count ≡ length (view s.side.pass).received
