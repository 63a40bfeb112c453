-- What a flusher's turns keep, over power cuts, of all that was answered.
use Rattle.std.specs.Prelude.{List, ◌++◌, Option, Result}
use Rattle.lift_base.specs.declared.history.Entry.{Entry}
use Rattle.lift_disk.specs.Disk.{DiskState, LeavesNow, LeavesOnly}
use Rattle.lift_register.specs.Register.{RegisterState}
use Rattle.lift_world.specs.declared.event.Taken.{Taken}
use Rattle.lift_keeper.specs.declared.fault.KeeperFault.{KeeperFault}
use Rattle.lift_clerk.specs.History.{History}
use Rattle.lift_clerk.specs.Keeping.{KeepsAll, KeepsEither, LeavesSafe}
use Rattle.lift_parts.specs.declared.counts.FlushCounts.{FlushCounts}
use Rattle.lift_parts.specs.Flusher.{FlusherState}
use Rattle.lift_parts.specs.Turns.{FlusherTurns, IsFlush}
use Rattle.lift_parts.specs.History.{FlushStands, group_after}

-- Turns of a flusher, one after another, from these safe entries and answers to those, which lose
-- nothing until the device is the last one.
pub data KeepingTurns {D : Type 0} (state : D → DiskState) (base : RegisterState) (last : DiskState)
    (f : FlusherState D) (safe : List Entry) (given : List Taken)
    : FlusherState D → List Entry → List Taken → Type 0 where
  NoneYet : KeepingTurns state base last f safe given f safe given
  -- At each moment of one more turn all is kept that was safe and given before it. From its
  -- beginning until the device is the last one, each image that a crash may leave keeps all that
  -- had been given by then: what the turns answer is never lost later on. What the turn makes safe
  -- and answers is added at its end.
  OneKept : {g h : FlusherState D} {mid : List Entry} {now : List Taken}
      {answer : Result FlushCounts KeeperFault}
      → KeepingTurns state base last f safe given g mid now → IsFlush state g h answer
      → (s : FlushStands g h base mid now (state g.writer.device) (state h.writer.device))
      → LeavesOnly (state g.writer.device) last (KeepsAll D g.writer.plan base now)
      → KeepingTurns state base last f safe given h (mid ++ s.goes_on.more) (now ++ s.goes_on.replied)

-- The turns have come to this flusher. Just these entries are safe now and just these commands were
-- answered: that is the history of its group. A crash now leaves what keeps them, where one before
-- the first turn left what was safe or in doubt.
pub record HaveKept {D : Type 0} (state : D → DiskState) (base : RegisterState)
    (f g : FlusherState D) (safe : List Entry) (given : List Taken) : Type 0 where
  pub now_safe : List Entry
  pub now_given : List Taken
  pub turns : KeepingTurns state base (state g.writer.device) f safe given g now_safe now_given
  pub history : History base (group_after g) now_safe now_given
  pub kept : LeavesSafe f.writer (state f.writer.device) → LeavesNow (state g.writer.device)
      (KeepsEither D g.writer.plan base now_safe g.writer.doubt now_given)

-- So it is of all turns that a flusher may have made by any moment, whether or not they end, and
-- whatever the allocator took and sent meanwhile.
abbrev pub TurnsKeep : (D : Type 0) → (D → DiskState) → Type 0
TurnsKeep D state = (f g : FlusherState D) (first last : Option KeeperFault) (base : RegisterState)
    (safe : List Entry) (given : List Taken) → History base (group_after f) safe given → FlusherTurns state f first g last
    → HaveKept state base f g safe given
