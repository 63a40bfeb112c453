use Rattle.std.specs.Prelude.{◌≡◌, true, length}
use Rattle.atomic_table.specs.Seated.{TableId}
use Rattle.crossbeam_queue.specs.Passes.{view, IsPassOf, ruled_capacity}
use Rattle.lift_base.specs.declared.limits.TheConstants.{MOST_BATCHES}
use Rattle.lift_relay.specs.declared.line.SendEnd.TheInside.{Inside}
use Rattle.lift_relay.specs.declared.line.EndView.{EndView}
use Rattle.lift_parts.specs.Line.{SendState, Tries}

abbrev pub sender_of : TableId → EndView → Tries → SendState
sender_of line v tries = record {
  line = line;
  sent = v.sent;
  gone = v.gone;
  building = v.building;
  desk = v.desk;
  state = v.ahead;
  turns = v.turns_ahead;
  tries = tries;
}

abbrev pub seen : Inside → SendState
seen s = sender_of s.side.pass.table_id (view s.side.pass) s.side.tries

pub record IsSendEnd (s : Inside) : Type 0 where
  pub of_line : IsPassOf s.side.line s.side.pass
  pub capacity : ruled_capacity s.side.line ≡ MOST_BATCHES
  pub begun : (view s.side.pass).begun ≡ true
  pub sends : (view s.side.pass).sends ≡ true
  pub count : s.count ≡ length (view s.side.pass).sent
