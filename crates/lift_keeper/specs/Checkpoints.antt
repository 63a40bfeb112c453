-- What a checkpoint leaves of a register.
use Rattle.std.specs.Prelude.{Result}
use Rattle.lift_building.specs.Plan.{Plan}
use Rattle.lift_disk.specs.Disk.{DiskState, LeavesOnly, RunsOn}
use Rattle.lift_register.specs.Prelude.{RegisterState}
use Rattle.lift_register.specs.Base.{base_records}
use Rattle.lift_journal.specs.declared.fault.JournalFault.{JournalFault}
use Rattle.lift_journal.specs.Becomes.{PutsCheckpoint}
use Rattle.lift_journal.specs.Journal.{JournalView}
use Rattle.lift_keeper.specs.Images.{IsImageOf}
use Rattle.lift_keeper.specs.Writer.{Guards}

-- A journal whose images read as this register puts the register's checkpoint in the place of its
-- batches, in the other half: then a crash at any moment of that leaves an image of this one register.
abbrev pub CheckpointsKeep : {D : Type 0} → (D → DiskState) → Type 0
CheckpointsKeep {D} state = (plan : Plan) (register : RegisterState) (old new : JournalView D)
    (result : Result (Unit {0}) JournalFault)
    → Guards plan old.shape old.is_in_second_half old.used register (state old.device)
    → RunsOn (state old.device) (state new.device)
    → PutsCheckpoint state old (base_records register) new result
    → LeavesOnly (state old.device) (state new.device) (IsImageOf plan register)
