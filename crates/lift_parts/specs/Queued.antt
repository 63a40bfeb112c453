-- What the line holds, of both its ends held together.
use Rattle.std.specs.Prelude.{◌≡◌, ◌≤◌, List, ◌++◌, length}
use Rattle.lift_base.specs.declared.limits.TheConstants.{MOST_BATCHES}
use Rattle.lift_parts.specs.Batch.{BatchState}
use Rattle.lift_parts.specs.Line.{SendState, ReceiveState}
use Rattle.lift_parts.specs.Line.{BatchesGoOn}

-- What was received, and then what the line holds, at most four batches, is what was sent. Each of
-- these goes on from the one before it, the first from what was received.
pub record Queued (sender : SendState) (receiver : ReceiveState) : Type 0 where
  pub items : List BatchState
  pub in_order : sender.sent ≡ receiver.received ++ items
  pub goes_on : BatchesGoOn sender.building sender.desk receiver.state receiver.turns items
      sender.state sender.turns
  pub four : length items ≤ MOST_BATCHES
