-- What is known of the machine of events, whatever runs it, and of registers.
use Rattle.std.specs.Prelude.{ℕ, List}
use Rattle.lift_building.specs.Plan.{Plan, IsBuilding}
use Rattle.lift_register.specs.Joins.{RegistersJoin}
use Rattle.lift_register.specs.Register.{RegisterState}
use Rattle.lift_policy.specs.Eligible.{Choice}
use Rattle.lift_policy.specs.Step.{State}
use Rattle.lift_policy.specs.declared.command.Command.{Command}
use Rattle.lift_world.specs.declared.event.Event.{Event}
use Rattle.lift_world.specs.World.{World, start}
use Rattle.lift_world.specs.Next.{run}
use Rattle.lift_world.specs.Among.{LooksFindAsks}
use Rattle.lift_world.specs.Asking.{AsksStand}
use Rattle.lift_world.specs.Beside.{GoesAreRuns, EventsJoin}
use Rattle.lift_world.specs.Headline.{HearsInOrder, AllAskOneByOne, RecoversAcknowledged}
use Rattle.lift_world.specs.Headline.{RecoversLetters}
use Rattle.lift_world.specs.Possible.{ReopensAfterCut, PullsInTurn, CallsInOrder}
use Rattle.lift_world.specs.Relay.{IsQueueInOrder, AllocationsAreEvents, FlushesAreEvents}
use Rattle.lift_world.specs.Relay.{FailedFlushesAreEvents, BrokenFlushesAreEvents, PartsMeet}
use Rattle.lift_world.specs.Turns.{IsAtRest, HasRun, ReopeningsEndAtRest}
use Rattle.lift_world.specs.Turns.{RunningReopeningsEndAtRest, FailedReopeningsEndAtRest}
use Rattle.lift_world.specs.Turns.{CutsEndAtRest}
use Rattle.lift_world.specs.Headline.{IsOfBuilding}
use Rattle.lift_clerk.specs.Machine.{TurnsAreTurns, FailuresAreFailures, BrokenTurnsAreBroken}
use Rattle.lift_clerk.specs.Machine.{TerminalsPreserveTie}

pub record Laws : Type 0 where
  pub asks : (w : World) → AsksStand w
  pub looks : (w : World) (t : ℕ) (c : Command) → LooksFindAsks w t c
  pub allocations : (w : World) → AllocationsAreEvents w
  pub flushes : (w : World) → FlushesAreEvents w
  pub failed_flushes : (w : World) → FailedFlushesAreEvents w
  pub broken_flushes : (w : World) → BrokenFlushesAreEvents w
  pub parts : (w : World) → PartsMeet w
  pub in_order : (building : Plan) (base : RegisterState) (events : List Event)
      → IsQueueInOrder (run events (start building base))
  pub decided : (building : Plan) (state : State) (commands : List Command)
      → HasRun building state commands
  pub hears : (building : Plan) (base : RegisterState) (events : List Event) → HearsInOrder (run events (start building base))
  pub one_by_one : (building : Plan) (base : RegisterState) (events : List Event)
      → AllAskOneByOne (run events (start building base))
  pub starts : (building : Plan) (base : RegisterState) → IsAtRest (start building base)
  pub running_reopenings : (w : World) → RunningReopeningsEndAtRest w
  pub failed_reopenings : (w : World) → FailedReopeningsEndAtRest w
  pub reopenings : (w : World) → ReopeningsEndAtRest w
  pub cuts : (w : World) → CutsEndAtRest w
  pub after_cut : (w : World) → ReopensAfterCut w
  pub pulls : (w : World) → PullsInTurn w
  pub calls : (w : World) → CallsInOrder w
  pub acknowledged : (building : Plan) (base : RegisterState) (events : List Event)
      → IsBuilding building → IsOfBuilding building base
      → RecoversAcknowledged (run events (start building base))
  pub letters : (building : Plan) (base : RegisterState) (events : List Event)
      → IsBuilding building → IsOfBuilding building base
      → RecoversLetters (run events (start building base))
  pub possible : (w : World) → GoesAreRuns w
  pub joined : (w : World) → EventsJoin w
  pub registers : RegistersJoin

-- A clerk's group is in some world of the machine between any two calls. Each turn is a list of
-- possible events from there to the group's next world, and what terminals do between leads to such
-- a world too.
pub record TurnsAreTheMachines (D P : Type 0) (chooses : P → Choice) : Type 0 where
  pub turns : (policy : P) → TurnsAreTurns D P (chooses policy)
  pub failures : (policy : P) → FailuresAreFailures D P (chooses policy)
  pub broken : BrokenTurnsAreBroken D P
  pub terminals : TerminalsPreserveTie D P
