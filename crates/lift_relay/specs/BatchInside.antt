-- What is seen of a batch.
use Rattle.std.specs.Prelude.{List}
use Rattle.atomic_table.specs.Seated.{TableId}
use Rattle.lift_base.specs.declared.history.Entry.{Entry}
use Rattle.lift_building.specs.Plan.{Plan}
use Rattle.lift_desk.specs.Seats.{ClerkPlace}
use Rattle.lift_policy.specs.Step.{State}
use Rattle.lift_parts.specs.declared.taken.NotedCommand.{NotedCommand}
use Rattle.lift_parts.specs.Batch.{BatchState, turns_of}
use Rattle.lift_relay.specs.declared.batch.Batch.TheInside.{Inside}

-- these commands and entries, decided in this building from one state to another, of what these
-- seats of this desk took next
abbrev pub batch_taken : List NotedCommand → List Entry → Plan → State → State → List TableId
    → List ClerkPlace → BatchState
batch_taken commands entries building before after desk seats = record {
  commands = commands;
  entries = entries;
  building = building;
  before = before;
  after = after;
  desk = desk;
  turns = turns_of seats;
}

abbrev pub seen : Inside → BatchState
seen b =
    batch_taken b.commands.items b.entries.items b.building.value b.before b.after b.desk.value b.seats.value
