-- The machine's laws, as the theorem hands them up.
use Rattle.lift_world.specs.World.{World}
use Rattle.lift_world.specs.Headline.{HearsInOrder, SealsAccepted, StoresGiven, QueuesFew}
use Rattle.lift_world.specs.Headline.{HoldsNothingWhileOff, AllAskOneByOne, FliesNothingWhileIdle}
use Rattle.lift_world.specs.Headline.{ReopensInPlace}
use Rattle.lift_world.specs.Possible.{CutsToSafe, CutsWithBatch, CutsGive, ReopensAfterCut}
use Rattle.lift_world.specs.Possible.{OnlyReopensAfterCut, ReopensAfterFault, ReopeningsGive}
use Rattle.lift_world.specs.Possible.{ReopensWhileQuiet, AsksOnceHeard, HearsTheNext}
use Rattle.lift_world.specs.Possible.{TakesNeedLooks, Seals, PullsInTurn, CallsInOrder, AnswersDue}
use Rattle.lift_world.specs.Possible.{AnswersOnlyDue, GivenStays, AcknowledgesReplies}
use Rattle.lift_world.specs.Possible.{StoresTheReply, ReopeningsUnplace}
use Rattle.lift_world.specs.Tie.{TakesAreSteps, StepsAreTakes, LooksAreTakes}
use Rattle.lift_world.specs.Turns.{RunsAreTakes, TurnsAreRuns, FailuresAreRuns, BrokenTurnsAreRuns}
use Rattle.lift_world.specs.Turns.{BrokenTurnsChangeNothing, TurnsEndAtRest, FailuresEndAtRest}
use Rattle.lift_world.specs.Turns.{BrokenTurnsEndAtRest, ReopeningsEndAtRest, CutsEndAtRest}
use Rattle.lift_world.specs.Turns.{RunningReopeningsEndAtRest, FailedReopeningsEndAtRest}
use Rattle.lift_world.specs.Asking.{AsksStand}
use Rattle.lift_world.specs.Due.{DueOnceSafe}
use Rattle.lift_world.specs.Faults.{FaultsLeaveDoubt, OnlyFaultsBreak, UnknownAfterFault}
use Rattle.lift_world.specs.Faults.{UnknownOverReopening}
use Rattle.lift_world.specs.Outcomes.{OutcomesStay, GatesOfferBatches, SyncsKeepBatches}
use Rattle.lift_world.specs.Outcomes.{ReopeningsKeepOne}
use Rattle.lift_world.specs.Beside.{GoesAreRuns, EventsJoin, TerminalsPass, TerminalsStandBeside}
use Rattle.lift_world.specs.Relay.{IsQueueInOrder, AllocationsAreEvents, FullQueueWaits}
use Rattle.lift_world.specs.Relay.{FlushesAreEvents, FailedFlushesAreEvents}
use Rattle.lift_world.specs.Relay.{BrokenFlushesAreEvents, TurnsMeet, PartsMeet}
use Rattle.lift_world.specs.Relay.{FlusherPassesScans, FlusherComesFirst, FlusherPassesSeals}
use Rattle.lift_world.specs.Among.{FlusherMightComeFirst, FlusherGoesAmong, PossibleStandAmong}
use Rattle.lift_world.specs.Among.{AsksStandAtOnce, AsksStandOn, SealsAloneQueue, ScansGoAmong}
use Rattle.lift_world.specs.Among.{AllocationsGoAmong}
use Rattle.lift_world.specs.Stays.{StaysBetweenScans, StaysBetweenFlushes, StaysBrokenBetween}
use Rattle.lift_world.specs.Stays.{StaysInOrder, HearsOnInOrder, AsksOnOneByOne, RestsInOrder}

-- What every run keeps, over whatever building: what terminals ask, are answered and hear, and
-- what waits in the queue, in flight and while the power is off.
pub record IsOrderly (w : World) : Type 0 where
  pub heard : HearsInOrder w
  pub sealed : SealsAccepted w
  pub shown : StoresGiven w
  pub in_order : IsQueueInOrder w
  pub queued : QueuesFew w
  pub off : HoldsNothingWhileOff w
  pub asked : AllAskOneByOne w
  pub idle : FliesNothingWhileIdle w
  pub in_place : ReopensInPlace w

-- Which events are possible in a world, and what they leave.
pub record EventsArePossible (w : World) : Type 0 where
  pub cut : CutsToSafe w
  pub cut_with_batch : CutsWithBatch w
  pub cut_leaves : CutsGive w
  pub reopening : ReopensAfterCut w
  pub nothing_else : OnlyReopensAfterCut w
  pub reopening_after_fault : ReopensAfterFault w
  pub recovered : ReopeningsGive w
  pub reopening_while_quiet : ReopensWhileQuiet w
  pub asks : AsksOnceHeard w
  pub hears : HearsTheNext w
  pub takes : LooksAreTakes w
  pub looks : TakesNeedLooks w
  pub seals : Seals w
  pub pulls : PullsInTurn w
  pub calls : CallsInOrder w
  pub answers : AnswersDue w
  pub nothing_early : AnswersOnlyDue w
  pub given : GivenStays w
  pub stored : StoresTheReply w
  pub unplaces : ReopeningsUnplace w
  pub acknowledges : AcknowledgesReplies w

-- A take is one decision of the rules, a scan is a list of takes, and a turn, one that answers Ok,
-- one that fails and one while broken, is a list of events.
pub record TurnsAreEvents (w : World) : Type 0 where
  pub steps : TakesAreSteps w
  pub takes : StepsAreTakes w
  pub scans : RunsAreTakes w
  pub turns : TurnsAreRuns w
  pub failures : FailuresAreRuns w
  pub broken : BrokenTurnsAreRuns w
  pub broken_changes : BrokenTurnsChangeNothing w
  pub asks : AsksStand w

-- Where a turn, a reopening or a recovery ends, the next turn begins.
pub record AllEndAtRest (w : World) : Type 0 where
  pub turns : TurnsEndAtRest w
  pub failures : FailuresEndAtRest w
  pub broken_turns : BrokenTurnsEndAtRest w
  pub reopenings : ReopeningsEndAtRest w
  pub cuts : CutsEndAtRest w
  pub running_reopenings : RunningReopeningsEndAtRest w
  pub failed_reopenings : FailedReopeningsEndAtRest w

-- When a command is due, and that after a fault Unknown alone is told of what wasn't.
pub record RepliesAreSafe (w : World) : Type 0 where
  pub due : DueOnceSafe w
  pub faults : FaultsLeaveDoubt w
  pub breaks : OnlyFaultsBreak w
  pub unknown : UnknownAfterFault w
  pub reopening : UnknownOverReopening w

-- What a power cut or a reopening could recover moves with three events alone.
pub record OutcomesMove (w : World) : Type 0 where
  pub kept : OutcomesStay w
  pub gate : GatesOfferBatches w
  pub second_sync : SyncsKeepBatches w
  pub reopening : ReopeningsKeepOne w

-- The turns of an allocator and of a flusher, with batches queued between them, are lists of
-- events.
pub record RelaysAreEvents (w : World) : Type 0 where
  pub allocations : AllocationsAreEvents w
  pub full : FullQueueWaits w
  pub flushes : FlushesAreEvents w
  pub failures : FailedFlushesAreEvents w
  pub broken : BrokenFlushesAreEvents w
  pub ends : TurnsMeet w
  pub parts : PartsMeet w
  pub beside : FlusherPassesScans w
  pub first : FlusherComesFirst w
  pub seals : FlusherPassesSeals w

-- The events of terminals, of the allocator and of the flusher go on among one another's.
pub record PartsInterleave (w : World) : Type 0 where
  pub first : FlusherMightComeFirst w
  pub flushes : FlusherGoesAmong w
  pub among : PossibleStandAmong w
  pub asked : AsksStandAtOnce w
  pub stands : AsksStandOn w
  pub queue : SealsAloneQueue w
  pub scans : ScansGoAmong w
  pub allocations : AllocationsGoAmong w

-- Each part is left where it is by what the others do.
pub record PartsStay (w : World) : Type 0 where
  pub scans : StaysBetweenScans w
  pub flushes : StaysBetweenFlushes w
  pub broken : StaysBrokenBetween w
  pub in_order : StaysInOrder w
  pub heard : HearsOnInOrder w
  pub asked : AsksOnOneByOne w
  pub rest : RestsInOrder w

-- A list of possible events is a run, and what terminals do among the controller's events passes
-- through.
pub record TerminalsPassThrough (w : World) : Type 0 where
  pub possible : GoesAreRuns w
  pub joined : EventsJoin w
  pub beside : TerminalsPass w
  pub stand : TerminalsStandBeside w
