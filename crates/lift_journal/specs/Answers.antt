-- What the calls of a journal answer, and what they leave of it.
use Rattle.std.specs.Prelude.{◌≡◌, ◌<◌, ◌⊎◌, ◌↔◌, ◌++◌, true, false}
use Rattle.std.specs.Prelude.{Result, OnOk, OnErr, IfErr, IsErrOf}
use Rattle.lift_disk.specs.Disk.{DiskState, LeavesNow}
use Rattle.lift_journal.specs.declared.fault.JournalFault.{JournalFault}
use Rattle.lift_journal.specs.declared.fault.JournalFault.TheVariants.{Disk, Broken}
use Rattle.lift_journal.specs.Layout.{Picks}
use Rattle.lift_journal.specs.Journal.{JournalView}
use Rattle.lift_journal.specs.Calls.{opening_of}
use Rattle.lift_journal.specs.Opening.{Opens, Refuses}
use Rattle.lift_journal.specs.RefusedOpening.{RefusedAfter}

-- A device that was so has been opened as this journal.
pub record OpensAs {D : Type 0} (state : D → DiskState) (old : DiskState)
    (journal : JournalView D) : Type 0 where
  pub opens : Opens old (state journal.device) journal.shape journal.used
  pub whole : journal.is_broken ≡ false
  pub failures_at_opening : journal.failures_at_opening ≡ (state journal.device).failures
  pub half : LeavesNow (state journal.device) (Picks journal.is_in_second_half)
  -- a sync, the stamp, the pick, and the picked half up to its closing gate, sector by sector
  pub calls : (state journal.device).trace
      ≡ old.trace ++ opening_of journal.shape.half journal.is_in_second_half journal.used

-- It was refused for this fault, and read up to the sector that refuses it.
pub record RefusesAt (old new : DiskState) (fault : JournalFault) : Type 0 where
  pub refused : Refuses old new fault
  pub behind : RefusedAfter fault old new

-- A journal is open again; or it was refused, and stands where it stood, but that a failed call
-- leaves it broken.
pub record JournalReopens {D T : Type 0} (state : D → DiskState) (old new : JournalView D)
    (result : Result T JournalFault) : Type 0 where
  pub opens : OnOk result (OpensAs state (state old.device) new)
  pub refused : IfErr result (λ fault. RefusesAt (state old.device) (state new.device) fault)
  pub breaks : IsErrOf result Disk → new.is_broken ≡ true
  pub stays : IfErr result (λ fault. (fault ≡ Disk) ⊎ (new.is_broken ≡ old.is_broken))
  pub same : OnErr result ((new.shape ≡ old.shape) × (new.used ≡ old.used)
      × (new.failures_at_opening ≡ old.failures_at_opening))
  pub second : OnErr result (new.is_in_second_half ≡ old.is_in_second_half)
  pub number : OnErr result (new.number ≡ old.number)

-- A call of a journal breaks it just where a call of the device fails. A broken one makes no call
-- and stays as it is.
pub record BreaksByFault {D T : Type 0} (state : D → DiskState) (old new : JournalView D)
    (result : Result T JournalFault) : Type 0 where
  pub failed : IsErrOf result Disk → (state old.device).failures < (state new.device).failures
  pub breaks : IsErrOf result Disk → new.is_broken ≡ true
  pub whole : OnOk result ((state new.device).failures ≡ (state old.device).failures)
  pub stays : OnOk result (new.is_broken ≡ false)
  pub broken : IsErrOf result Broken ↔ (old.is_broken ≡ true)
  pub rests : IsErrOf result Broken → new ≡ old
  pub shape : new.shape ≡ old.shape
  pub failures_at_opening : new.failures_at_opening ≡ old.failures_at_opening
