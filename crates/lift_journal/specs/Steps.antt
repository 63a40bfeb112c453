-- What the steps of a call do to a device, and what they leave of its image.
use Rattle.std.specs.Prelude.{◌≡◌, ◌⊎◌, ◌<◌, ◌≤◌, ◌+◌, ℕ, List, [], ◌∷◌, ◌++◌, length, take, drop}
use Rattle.std.specs.Prelude.{Result, OnOk, OnErr, IfErr}
use Rattle.lift_base.specs.declared.history.Shape.{Shape}
use Rattle.lift_disk.specs.Disk.{DiskState, Image, IsSynced, ReadsAsBefore, RunsOn, TouchesOnly}
use Rattle.lift_journal.specs.declared.fault.JournalFault.{JournalFault}
use Rattle.lift_journal.specs.declared.fault.JournalFault.TheVariants.{Disk}
use Rattle.lift_journal.specs.Layout.{Batch, filled, Holds, IsBody, size_of, used, start_of}
use Rattle.lift_journal.specs.Layout.{IsSound}
use Rattle.lift_journal.specs.Armed.{NoneFails, LastFails}

-- these sectors stand in a row from the first one on, and the others are as they were
abbrev pub overwritten : Image → ℕ → Image → Image
overwritten image first sectors = take first image ++ sectors ++ drop (first + length sectors) image

abbrev pub IsInRange : ℕ → ℕ → ℕ → Type 0
IsInRange low high i = (low ≤ i) × (i < high)

-- the pick, the stamp and the first gate, and what was in doubt before
abbrev pub IsFormatted : DiskState → ℕ → Type 0
IsFormatted disk i = (i < 3) ⊎ disk.is_loose i

-- an open gate, or the pick of the second half
abbrev pub marked : List ℕ
marked = filled 1 (165 ∷ [])

-- a closed gate, or the pick of the first half
abbrev pub unmarked : List ℕ
unmarked = filled 1 []

-- this is read, and a crash leaves just that
pub record IsSyncedAt (image : Image) (disk : DiskState) : Type 0 where
  pub synced : IsSynced disk
  pub same : disk.image ≡ image

-- A run of this many calls, this many of them writes, that stops at the first that fails.
pub record Makes {T E : Type 0} (result : Result T E) (made written : ℕ)
    (old new : DiskState) : Type 0 where
  pub calls : OnOk result (new.calls ≡ old.calls + made)
  pub writes : OnOk result (new.writes ≡ old.writes + written)
  pub most_calls : new.calls ≤ old.calls + made
  pub most_writes : new.writes ≤ old.writes + written

-- What a cut that loses would leave of an inert device: what it would have left before, or what is
-- read.
abbrev pub SavesAsRead : DiskState → DiskState → Type 0
SavesAsRead old new = old.is_honest → old.is_inert → (new.synced ≡ old.synced)
    ⊎ (new.synced ≡ new.image)

-- calls that wrote nothing
pub record ReadsOnly (old new : DiskState) : Type 0 where
  pub runs : RunsOn old new
  pub writes : new.writes ≡ old.writes
  pub image : ReadsAsBefore old new
  pub saved : SavesAsRead old new
  pub touched : TouchesOnly old.is_loose old new

-- and none of them failed, so that what was safe is read as it was
pub record ReadsWell (old new : DiskState) : Type 0 where
  pub failures : new.failures ≡ old.failures
  pub armed : NoneFails old new
  pub kept : old.is_honest → IsSynced old → IsSyncedAt old.image new

-- the last of the calls failed
pub record HasFailed (old new : DiskState) : Type 0 where
  pub failures : old.failures < new.failures
  pub armed : LastFails old new

-- calls that write nothing and stop at the first that fails
pub record Looks {T E : Type 0} (result : Result T E) (old new : DiskState) : Type 0 where
  pub only : ReadsOnly old new
  pub ok : OnOk result (ReadsWell old new)
  pub err : OnErr result (HasFailed old new)

-- the cause of a fault: a call that failed, and without one nothing has changed
abbrev pub HasItsCause : JournalFault → DiskState → DiskState → Type 0
HasItsCause Disk old new = HasFailed old new
HasItsCause _ old new = ReadsWell old new

-- calls that write nothing, and what they have found
pub record Examines {T : Type 0} (result : Result T JournalFault)
    (old new : DiskState) : Type 0 where
  pub only : ReadsOnly old new
  pub ok : OnOk result (ReadsWell old new)
  pub err : IfErr result (λ fault. HasItsCause fault old new)

-- The image holds these batches, nothing is in doubt, and there is room after the closed gate for
-- the body of one more.
pub record IsReady (shape : Shape) (batches : List Batch) (batch : Batch) (gate : ℕ) (body : Image)
    (disk : DiskState) : Type 0 where
  pub synced : IsSynced disk
  pub holds : Holds shape batches disk.image
  pub at : gate ≡ start_of shape.half disk.image + used batches
  pub room : used batches + length body + 2 ≤ shape.half
  pub spelled : IsBody (1 + length batches) batch body
  pub size : length body ≡ size_of batch
  pub sound : IsSound (batches ++ batch ∷ [])

-- The image holds these batches, and a crash leaves just that.
pub record HoldsSafely (shape : Shape) (batches : List Batch) (start : ℕ)
    (disk : DiskState) : Type 0 where
  pub synced : IsSynced disk
  pub holds : Holds shape batches disk.image
  pub from : start_of shape.half disk.image ≡ start
