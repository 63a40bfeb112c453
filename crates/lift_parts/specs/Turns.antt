-- Any number of turns of each part.
use Rattle.std.specs.Prelude.{◌≡◌, ◌⊎◌, ◌++◌, [], length, Option, Some, None, Result, Err}
use Rattle.lift_disk.specs.Disk.{DiskState}
use Rattle.lift_policy.specs.Eligible.{Choice}
use Rattle.lift_keeper.specs.Commits.{Commits}
use Rattle.lift_keeper.specs.Calls.{CommitCalls}
use Rattle.lift_keeper.specs.declared.fault.KeeperFault.{KeeperFault}
use Rattle.lift_clerk.specs.declared.counts.Counts.{Counts}
use Rattle.lift_parts.specs.declared.counts.FlushCounts.{FlushCounts}
use Rattle.lift_parts.specs.Batch.{BatchState}
use Rattle.lift_parts.specs.Allocator.{AllocatorState, IsAllocation}
use Rattle.lift_parts.specs.Flusher.{FlusherState, IsFlusher, IsEmptyTurn, IsBatchTurn}
use Rattle.lift_parts.specs.Flusher.{entries_received}

-- The batch in hand, if there is one, was sent after all that was sent before, and nothing else
-- changes.
pub record IsSending {P : Type 0} (old new : AllocatorState P) : Type 0 where
  pub sent : new.end.sent ≡ old.end.sent ++ old.hand
  pub line : new.end.line ≡ old.end.line
  pub same : new ≡ record old { end = new.end; hand = [] }

-- Each part was told where the other stands, and nothing else changes.
pub record IsTelling {D P : Type 0} (a b : AllocatorState P) (f g : FlusherState D) : Type 0 where
  pub allocator : b ≡ record a { end = record a.end { gone = f.end.received } }
  pub flusher : g ≡ record f { end = record f.end { known = a.end.sent } }

-- any number of an allocator's turns and of sendings of what was in hand, in any order
pub data AllocatorTurns {P : Type 0} (choice : Choice) : AllocatorState P → AllocatorState P
    → Type 0 where
  NoMore : {a : AllocatorState P} → AllocatorTurns choice a a
  OneMore : {a b c : AllocatorState P} {counts : Counts} → AllocatorTurns choice a b
      → IsAllocation choice b c counts → AllocatorTurns choice a c
  HandSent : {a b c : AllocatorState P} → AllocatorTurns choice a b → IsSending b c
      → AllocatorTurns choice a c

-- One turn of a flusher: which batch it received and what it answered, what its commit did, and which
-- calls of the device it made.
pub record IsFlush {D : Type 0} (state : D
    → DiskState) (old new : FlusherState D) (answer : Result FlushCounts KeeperFault) : Type 0 where
  pub before : IsFlusher old
  pub turns : IsEmptyTurn old new answer ⊎ ((batch : BatchState) × IsBatchTurn old new batch answer)
  -- it commits just what it received
  pub commits : Commits state old.writer (entries_received old.end new.end) new.writer answer
  -- and makes the calls of the device that this takes, and no others
  pub calls : CommitCalls state old.writer (length (entries_received old.end new.end)) new.writer
      answer
  pub same : (new.desk ≡ old.desk) × (new.end.line ≡ old.end.line)

-- the first fault of all turns, once one more has answered this
abbrev pub first_of : Option KeeperFault → Result FlushCounts KeeperFault → Option KeeperFault
first_of None (Err fault) = Some fault
first_of first _ = first

-- Any number of a flusher's turns, one after another. The first fault is the one that was there
-- before, or that of the first turn that had one.
pub data FlusherTurns {D : Type 0} (state : D → DiskState) : FlusherState D → Option KeeperFault
    → FlusherState D → Option KeeperFault → Type 0 where
  NoFlush : {f : FlusherState D} {first : Option KeeperFault} → FlusherTurns state f first f first
  OneFlush : {f g h : FlusherState D} {before first last : Option KeeperFault}
      {answer : Result FlushCounts KeeperFault} → FlusherTurns state f before g first
      → IsFlush state g h answer → last ≡ first_of first answer → FlusherTurns state f before h last

-- a run leaves where an allocator is, what it works for and what its decisions began on
pub record IsSameAllocator {P : Type 0} (old new : AllocatorState P) : Type 0 where
  pub line : new.end.line ≡ old.end.line
  pub desk : new.desk ≡ old.desk
  pub plan : new.plan ≡ old.plan
  pub policy : new.policy ≡ old.policy
  pub start : new.start ≡ old.start

-- a run leaves where a flusher is, and what it works for
pub record IsSameFlusher {D : Type 0} (old new : FlusherState D) : Type 0 where
  pub line : new.end.line ≡ old.end.line
  pub desk : new.desk ≡ old.desk
  pub plan : new.writer.plan ≡ old.writer.plan
  pub half : new.writer.half ≡ old.writer.half
  pub failures_at_opening : new.writer.failures_at_opening ≡ old.writer.failures_at_opening
