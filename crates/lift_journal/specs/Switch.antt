-- What the steps of a checkpoint leave of an image, by sectors. No public clause names these.
use Rattle.std.specs.Prelude.{◌≡◌, ◌≢◌, ◌⊎◌, ◌<◌, ◌≤◌, ◌+◌, ◌-◌, ℕ, List, take, drop, slice_get}
use Rattle.std.specs.Prelude.{slice_set}
use Rattle.lift_base.specs.declared.limits.TheConstants.{LEAST_HALF}
use Rattle.lift_disk.specs.Disk.{DiskState, Image, ChangesWithin, LeavesNow}
use Rattle.lift_journal.specs.Layout.{Batch, IsChain}
use Rattle.lift_journal.specs.Steps.{IsInRange, marked, unmarked}

-- beside the half that begins at start this one begins at other, and this in sector 0 picks it
abbrev pub IsOtherHalf : ℕ → ℕ → ℕ → List ℕ → Type 0
IsOtherHalf half start other pick =
    ((start ≡ 2) × (other ≡ half + 2) × (pick ≡ marked))
    ⊎ ((start ≢ 2) × (other ≡ 2) × (pick ≡ unmarked))

-- the half from start to end holds these batches, and beside the sectors of a least half nothing but the
-- pick has changed
pub record HasWritten (start end : ℕ) (batches : List Batch) (old new : Image) : Type 0 where
  pub within : ChangesWithin (λ i. IsInRange start (start + LEAST_HALF) i ⊎ (i ≡ 0)) old new
  pub chain : IsChain batches 1 (take (end - start) (drop start new))

-- With both halves safe as in this image, this many calls were made before the pick's write, and
-- this write or its sync has failed.
pub record MissesPick (earlier : ℕ) (pick : List ℕ) (safe : Image)
    (old new : DiskState) : Type 0 where
  pub made : (new.calls ≡ old.calls + earlier + 1) × (new.image ≡ safe)
      ⊎ (new.calls ≡ old.calls + earlier + 2) × (new.image ≡ slice_set safe 0 pick)
  pub synced : new.synced ≡ safe
  pub loose : new.is_loose 0
  pub others : (i : ℕ) → new.is_loose i → i ≡ 0

-- The closing gate was to be made safe, and then the pick; a call has failed. Before the pick's
-- write nothing but the sectors from low to high is in doubt.
pub record IsFailedSwitch (low high gate : ℕ) (pick : List ℕ) (old new : DiskState) : Type 0 where
  pub early : new.calls ≤ old.calls + 2
      → LeavesNow new (ChangesWithin (IsInRange low high) old.image)
  pub late : old.calls + 2 < new.calls
      → MissesPick 2 pick (slice_set old.image gate unmarked) old new

-- The same of all that a checkpoint writes.
pub record IsFailedWriting (start end : ℕ) (batches : List Batch) (sectors : ℕ) (pick : List ℕ)
    (old new : DiskState) : Type 0 where
  pub early : new.calls ≤ old.calls + (sectors + 2)
      → LeavesNow new (ChangesWithin (IsInRange start (start + LEAST_HALF)) old.image)
  pub late : old.calls + (sectors + 2) < new.calls
      → (safe : Image) × HasWritten start end batches old.image safe
      × (slice_get safe 0 ≡ slice_get old.image 0) × MissesPick (sectors + 2) pick safe old new
