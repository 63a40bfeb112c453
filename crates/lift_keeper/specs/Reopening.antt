-- What an opening of a writer does to its device, whatever it answers: it writes nothing.
use Rattle.std.specs.Prelude.{◌≡◌, ◌≢◌, ◌⊎◌, ℕ, Bool, false, List, []}
use Rattle.lift_base.specs.declared.history.Shape.{Shape}
use Rattle.lift_building.specs.Plan.{Plan, shape_of}
use Rattle.lift_disk.specs.Disk.{DiskState, MayLeave, IsSynced, LeavesNow, LeavesOnly}
use Rattle.lift_register.specs.Register.{RegisterState}
use Rattle.lift_journal.specs.declared.fault.JournalFault.TheVariants.{Disk}
use Rattle.lift_journal.specs.Layout.{Batch, records_of, Holds}
use Rattle.lift_journal.specs.Opening.{RefusedFor as JournalRefusedFor, FixesImage}
use Rattle.lift_keeper.specs.declared.fault.KeeperFault.{KeeperFault}
use Rattle.lift_keeper.specs.declared.fault.KeeperFault.TheVariants.{Journal, OtherBuilding}
use Rattle.lift_keeper.specs.declared.fault.KeeperFault.TheVariants.{BadEntry}
use Rattle.lift_keeper.specs.Images.{IsImageOf, IsImageIn}
use Rattle.lift_keeper.specs.Recovery.{IsFirstMisfit}
use Rattle.lift_keeper.specs.Writer.{WriterView}

-- It has opened: this is the register, in a half of this many sectors; this half is picked, and
-- this many of its sectors are used.
pub record Reopens (plan : Plan) (old new : DiskState) (register : RegisterState) (half : ℕ)
    (is_in_second_half : Bool) (taken : ℕ) : Type 0 where
  -- a crash at any moment leaves what one before it might have left
  pub moments : LeavesOnly old new (MayLeave old)
  pub writes : new.writes ≡ old.writes
  pub failures : new.failures ≡ old.failures
  -- at the end every crash leaves one and the same of these images, which reads as the register and
  -- as no other
  pub synced : old.is_honest → IsSynced new
  pub seen : old.is_honest → MayLeave old new.image
  pub safe : LeavesNow new (IsImageOf plan register)
  pub only : old.is_honest → (other : RegisterState) → IsImageOf plan other new.image
      → other ≡ register
  -- where it stands
  pub placed : LeavesNow new (IsImageIn plan half is_in_second_half taken register)

-- A writer is open over a device that was so before: whole, and with nothing in doubt.
pub record WriterOpens {D : Type 0} (state : D → DiskState) (building : Plan) (old : DiskState)
    (writer : WriterView D) : Type 0 where
  pub reopens : Reopens building old (state writer.device) writer.register writer.half
      writer.is_in_second_half writer.used
  pub plan : writer.plan ≡ building
  pub whole : (writer.is_broken ≡ false) × (writer.doubt ≡ [])
  pub failures_at_opening : writer.failures_at_opening ≡ (state writer.device).failures

-- what is read now, which a crash might have left, and which is safe, holds these batches
pub record ReadsNow (old new : DiskState) (shape : Shape) (batches : List Batch) : Type 0 where
  pub synced : IsSynced new
  pub seen : MayLeave old new.image
  pub holds : Holds shape batches new.image

-- the cause of a refusal: that of the journal, or a journal of another building, or a record that
-- doesn't fit
abbrev pub RefusedFor : KeeperFault → Plan → DiskState → DiskState → Type 0
RefusedFor (Journal fault) plan old new = JournalRefusedFor fault old new
RefusedFor OtherBuilding plan old new = (new.failures ≡ old.failures)
    × (old.is_honest → (shape : Shape) × (batches : List Batch) × ReadsNow old new shape batches
    × (shape ≢ shape_of plan shape.half))
RefusedFor (BadEntry place) plan old new = (new.failures ≡ old.failures)
    × (old.is_honest → (half : ℕ) × (batches : List Batch)
    × ReadsNow old new (shape_of plan half) batches
    × IsFirstMisfit plan (records_of batches) place)

-- it was refused
pub record RefusesReopening (plan : Plan) (old new : DiskState) (fault : KeeperFault) : Type 0 where
  pub moments : LeavesOnly old new (MayLeave old)
  pub writes : new.writes ≡ old.writes
  pub cause : RefusedFor fault plan old new
  -- its sync failed, so that no call succeeded; or no crash gives another image any more
  pub fixed : (new.trace ≡ old.trace) ⊎ (old.is_honest → FixesImage old new)
  -- an image of a register of the building is refused for a failed call alone
  pub good : old.is_honest → (register : RegisterState) → IsImageOf plan register new.image
      → fault ≡ Journal Disk
