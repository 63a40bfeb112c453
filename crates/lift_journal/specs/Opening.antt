-- What an opening does to a device, whatever it answers: an opening writes nothing.
use Rattle.std.specs.Prelude.{◌≡◌, ◌⊎◌, ◌<◌, ◌+◌, ◌++◌, ℕ, List}
use Rattle.lift_base.specs.declared.history.Record.{Record}
use Rattle.lift_base.specs.declared.history.Shape.{Shape}
use Rattle.lift_disk.specs.Disk.{DiskState, MayLeave, IsSynced, ReadsAsBefore, LeavesNow, LeavesOnly}
use Rattle.lift_disk.specs.Disk.{RunsOn}
use Rattle.lift_journal.specs.declared.fault.JournalFault.{JournalFault}
use Rattle.lift_journal.specs.declared.fault.JournalFault.TheVariants.{Disk, NotFormatted, Damaged}
use Rattle.lift_journal.specs.Layout.{Batch, records_of, Holds, IsStamped, start_of, used}
use Rattle.lift_journal.specs.Walk.{IsDamagedAt}
use Rattle.lift_journal.specs.Steps.{SavesAsRead}
use Rattle.lift_journal.specs.Armed.{NoneFails, FailsBy}
use Rattle.lift_journal.specs.Journal.{StandsFor}

-- It has opened: this is the shape, and this many sectors of the picked half are used.
pub record Opens (old new : DiskState) (shape : Shape) (taken : ℕ) : Type 0 where
  -- a crash at any moment leaves what one before it might have left
  pub moments : LeavesOnly old new (MayLeave old)
  pub runs : RunsOn old new
  pub writes : new.writes ≡ old.writes
  pub failures : new.failures ≡ old.failures
  pub armed : NoneFails old new
  -- at the end every crash leaves one and the same of these images
  pub synced : old.is_honest → IsSynced new
  pub image : ReadsAsBefore old new
  pub saved : SavesAsRead old new
  pub seen : old.is_honest → MayLeave old new.image
  pub holds : old.is_honest → (batches : List Batch) × LeavesNow new (Holds shape batches)
      × (taken ≡ used batches)
  -- what the image is known to hold is what was found
  pub found : old.is_honest → (other : Shape) (batches : List Batch) → Holds other batches new.image
      → (other ≡ shape) × (taken ≡ used batches)
  -- these are the checkpoint and the entries that it reads as
  pub stands : old.is_honest → (base entries : List Record) × StandsFor shape base entries new
  -- which are the records of the batches, one after another
  pub joined : old.is_honest → (batches : List Batch) (base entries : List Record)
      → LeavesNow new (Holds shape batches)
      → StandsFor shape base entries new → records_of batches ≡ base ++ entries

-- the cause of a refusal: a call that failed, or what is read now, which a crash might have left
-- and which is safe
abbrev pub RefusedFor : JournalFault → DiskState → DiskState → Type 0
RefusedFor Disk old new = old.failures < new.failures
RefusedFor NotFormatted old new = (new.failures ≡ old.failures)
    × (old.is_honest → IsSynced new × MayLeave old new.image
    × ((shape : Shape) → ¬ IsStamped shape new.image))
RefusedFor (Damaged sector) old new = (new.failures ≡ old.failures)
    × (old.is_honest → IsSynced new × MayLeave old new.image × (shape : Shape)
    × IsStamped shape new.image
    × IsDamagedAt new.image (start_of shape.half new.image)
    (start_of shape.half new.image + shape.half) sector)
RefusedFor _ old new = ⊥

-- Nothing is in doubt any more: from now on every crash leaves what is read, and that is what one
-- before might have left.
pub record FixesImage (old new : DiskState) : Type 0 where
  pub none_loose : (i : ℕ) → ¬ new.is_loose i
  pub seen : MayLeave old new.image

-- it was refused
pub record Refuses (old new : DiskState) (fault : JournalFault) : Type 0 where
  pub moments : LeavesOnly old new (MayLeave old)
  pub runs : RunsOn old new
  pub writes : new.writes ≡ old.writes
  pub image : ReadsAsBefore old new
  pub saved : SavesAsRead old new
  pub cause : RefusedFor fault old new
  -- its sync failed, so that no call succeeded; or no crash gives another image any more
  pub fixed : (new.trace ≡ old.trace) ⊎ (old.is_honest → FixesImage old new)
  pub armed : FailsBy fault old new
  -- an image that holds batches is refused for a failed call alone
  pub good : old.is_honest → (shape : Shape) (batches : List Batch) → Holds shape batches new.image
      → fault ≡ Disk
