-- Where an append or a checkpoint has failed, and what a cut then leaves.
use Rattle.std.specs.Prelude.{◌≡◌, ◌≢◌, ◌⊎◌, ◌<◌, ◌≤◌, ◌+◌, ◌++◌, ℕ, Bool, true, false, not}
use Rattle.std.specs.Prelude.{if◌then◌else◌, List, [], ◌∷◌, slice_set}
use Rattle.lift_base.specs.declared.history.Shape.{Shape}
use Rattle.lift_disk.specs.Disk.{DiskState, Image, IsFilled, LeavesNow}
use Rattle.lift_journal.specs.Layout.{Batch, Holds, HoldsIn}

-- The sector's write failed, or it was written and its sync failed.
pub record Misses (sector : ℕ) (bytes : List ℕ) (old new : DiskState) : Type 0 where
  pub made : (new.calls ≡ old.calls + 1) × (new.image ≡ old.image) ⊎ (new.calls ≡ old.calls + 2)
      × (new.image ≡ slice_set old.image sector bytes)
  pub synced : new.synced ≡ old.synced
  pub loose : new.is_loose sector

-- This many calls were made before the gate's write, and this write or its sync has failed.
pub record FailsAtGate (shape : Shape) (batches : List Batch) (batch : Batch) (made : ℕ)
    (old new : DiskState) : Type 0 where
  -- a cut that keeps: the batches from before where the write failed, the new one too where the
  -- sync did
  pub keeps_old : new.calls ≡ old.calls + made + 1 → Holds shape batches new.image
  pub keeps_new : new.calls ≡ old.calls + made + 2 → Holds shape (batches ++ batch ∷ []) new.image
  -- a cut that loses: the batches from before
  pub loses : Holds shape batches new.synced
  -- a cut that fills: the new batch too just where the byte is the mark
  pub fills_old : (byte : ℕ) (left : Image) → byte ≢ 165 → IsFilled byte new left
      → Holds shape batches left
  pub fills_new : (left : Image) → IsFilled 165 new left → Holds shape (batches ++ batch ∷ []) left

-- An append of this many body sectors has failed: before the gate's write each cut leaves the
-- batches from before.
pub record IsFailedAppend (shape : Shape) (batches : List Batch) (batch : Batch) (bodies : ℕ)
    (old new : DiskState) : Type 0 where
  pub early : new.calls ≤ old.calls + (bodies + 2) → LeavesNow new (Holds shape batches)
  pub late : old.calls + (bodies + 2) < new.calls
      → FailsAtGate shape batches batch (bodies + 2) old new

-- This many calls of a checkpoint were made before the pick's write, and this write or its sync has
-- failed. Both halves are safe, and whatever is in the pick, an image holds one of them: no fill
-- makes damage.
pub record FailsAtPick (shape : Shape) (is_in_second_half : Bool) (batches checkpoint : List Batch)
    (made : ℕ) (old new : DiskState) : Type 0 where
  -- a cut that keeps: the other half where the pick was written
  pub keeps_old : new.calls ≡ old.calls + made + 1
      → HoldsIn shape is_in_second_half batches new.image
  pub keeps_new : new.calls ≡ old.calls + made + 2
      → HoldsIn shape (not is_in_second_half) checkpoint new.image
  -- a cut that loses: the half from before
  pub loses : HoldsIn shape is_in_second_half batches new.synced
  -- a cut that fills: the second half just where the byte is the mark, whichever of the two that is
  pub fills_second : (left : Image) → IsFilled 165 new left
      → HoldsIn shape true (if is_in_second_half then batches else checkpoint) left
  pub fills_first : (byte : ℕ) (left : Image) → byte ≢ 165 → IsFilled byte new left
      → HoldsIn shape false (if is_in_second_half then checkpoint else batches) left

-- A checkpoint of this many sectors before its closing gate has failed: before the pick's write
-- each cut leaves the batches from before, in their half.
pub record IsFailedCheckpoint (shape : Shape) (is_in_second_half : Bool)
    (batches checkpoint : List Batch)
    (sectors : ℕ) (old new : DiskState) : Type 0 where
  pub early : new.calls ≤ old.calls + (sectors + 2)
      → LeavesNow new (HoldsIn shape is_in_second_half batches)
  pub late : old.calls + (sectors + 2) < new.calls
      → FailsAtPick shape is_in_second_half batches checkpoint (sectors + 2) old new
