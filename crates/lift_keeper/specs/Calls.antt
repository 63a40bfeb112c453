-- How many calls of the device a commit makes, which an opening makes, and what a failed one leaves.
-- Nothing of this is needed to know which register is safe.
use Rattle.std.specs.Prelude.{◌≡◌, ◌≢◌, ◌++◌, ℕ, Bool, List, Result, Err, IfErr, OnOk}
use Rattle.lift_base.specs.declared.history.Shape.{Shape}
use Rattle.lift_building.specs.Plan.{Plan}
use Rattle.lift_disk.specs.Disk.{DiskState, ReadsAsBefore, RunsOn}
use Rattle.lift_register.specs.Register.{RegisterState}
use Rattle.lift_journal.specs.declared.fault.JournalFault.TheVariants.{Disk}
use Rattle.lift_journal.specs.RefusedOpening.{RefusedAfter}
use Rattle.lift_journal.specs.Calls.{opening_of}
use Rattle.lift_journal.specs.Layout.{Batch, Holds, Picks, used}
use Rattle.lift_journal.specs.Steps.{Makes, SavesAsRead}
use Rattle.lift_journal.specs.Armed.{NoneFails, LastFails, FailsBy as JournalFailsBy}
use Rattle.lift_keeper.specs.declared.fault.KeeperFault.{KeeperFault}
use Rattle.lift_keeper.specs.declared.fault.KeeperFault.TheVariants.{Journal}
use Rattle.lift_keeper.specs.Images.{IsImageIn}
use Rattle.lift_keeper.specs.Writer.{WriterView, IsFailedCommit, commit_call_count}
use Rattle.lift_keeper.specs.Writer.{commit_write_count}
use Rattle.lift_keeper.specs.Writer.{commit_used, commit_second}

-- A journal was opened and read to its end, with no other call: a half of this many sectors, which
-- of the two it is, and how many of its sectors are used.
pub record ReadsAll (old new : DiskState) : Type 0 where
  pub half : ℕ
  pub is_in_second_half : Bool
  pub taken : ℕ
  pub made : new.trace ≡ old.trace ++ opening_of half is_in_second_half taken
  -- which is the journal that is read now
  pub picks : old.is_honest → Picks is_in_second_half new.image
  pub found : old.is_honest → (shape : Shape) (batches : List Batch) → Holds shape batches new.image
      → (half ≡ shape.half) × (taken ≡ used batches)

-- Which calls a refused opening has made: those of the journal's opening, up to the sector that
-- refused it; where the journal itself is good, all of them.
abbrev pub ReadsUntilRefused : KeeperFault → DiskState → DiskState → Type 0
ReadsUntilRefused (Journal fault) old new = RefusedAfter fault old new
ReadsUntilRefused _ old new = ReadsAll old new

-- which call has failed: the last, just where the fault is of the device
abbrev pub FailsBy : KeeperFault → DiskState → DiskState → Type 0
FailsBy (Journal fault) old new = JournalFailsBy fault old new
FailsBy _ old new = NoneFails old new

-- A commit of this many entries: it makes no call for none, else as many as an append, and as many
-- more as a checkpoint where there is no room.
pub record CommitCalls {D T : Type 0} (state : D → DiskState) (old : WriterView D) (count : ℕ)
    (new : WriterView D) (result : Result T KeeperFault) : Type 0 where
  pub runs : RunsOn (state old.device) (state new.device)
  pub made : Makes result (commit_call_count old.register old.used old.half count)
      (commit_write_count old.register old.used old.half count) (state old.device) (state new.device)
  pub used : OnOk result (new.used ≡ commit_used old.register old.used old.half count)
  pub second : OnOk result (new.is_in_second_half
      ≡ commit_second old.is_in_second_half old.used old.half count)
  pub none_fails : result ≢ Err (Journal Disk) → NoneFails (state old.device) (state new.device)
  pub last_fails : result ≡ Err (Journal Disk) → LastFails (state old.device) (state new.device)
  -- where a device failed it that changes no byte in a failed call, the number of calls says what
  -- each cut leaves
  pub fails : result ≡ Err (Journal Disk) → (state old.device).is_honest
      → (state old.device).is_inert
      → IsFailedCommit old.plan old.half old.is_in_second_half old.used old.register new.doubt
      (state old.device) (state new.device)

-- An opening that found a half of this many sectors, which of the two it is, and how many of its
-- sectors are used: it makes the calls of its journal's opening, and no other.
pub record OpeningCalls (plan : Plan) (old new : DiskState) (half : ℕ) (is_in_second_half : Bool)
    (taken : ℕ) : Type 0 where
  pub runs : RunsOn old new
  pub made : new.trace ≡ old.trace ++ opening_of half is_in_second_half taken
  pub armed : NoneFails old new
  -- an inert device reads as before, and what its last sync saved is what was saved before, or what
  -- is read
  pub image : ReadsAsBefore old new
  pub saved : SavesAsRead old new
  -- no register is anywhere else in the image that is read
  pub found : old.is_honest → (length : ℕ) (second : Bool) (count : ℕ) (register : RegisterState)
      → IsImageIn plan length second count register new.image
      → (length ≡ half) × (second ≡ is_in_second_half) × (count ≡ taken)

-- one that was refused for this fault: it makes as many of these calls as that took
pub record RefusedCalls (old new : DiskState) (fault : KeeperFault) : Type 0 where
  pub runs : RunsOn old new
  pub made : ReadsUntilRefused fault old new
  pub armed : FailsBy fault old new
  pub image : ReadsAsBefore old new
  pub saved : SavesAsRead old new

-- an opening of a writer
abbrev pub OpensByCalls : {D : Type 0} → (D → DiskState) → DiskState → WriterView D → Type 0
OpensByCalls state old writer =
    OpeningCalls writer.plan old
    (state writer.device) writer.half writer.is_in_second_half writer.used

-- a reopening, whatever it answers
pub record ReopeningCalls {D T : Type 0} (state : D → DiskState) (old new : WriterView D)
    (result : Result T KeeperFault) : Type 0 where
  pub opens : OnOk result (OpensByCalls state (state old.device) new)
  pub refused : IfErr result (λ fault. RefusedCalls (state old.device) (state new.device) fault)
