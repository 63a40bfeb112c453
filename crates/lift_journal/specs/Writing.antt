-- What the writing of a batch does to an image, by sectors. No public clause names this.
use Rattle.std.specs.Prelude.{◌⊎◌, ◌+◌, ◌++◌, ℕ, List, [], ◌∷◌, length, Result, OnOk, OnErr}
use Rattle.lift_base.specs.declared.history.Shape.{Shape}
use Rattle.lift_disk.specs.Disk.{DiskState, Image, IsSynced, LeavesOnly, TouchesOnly}
use Rattle.lift_journal.specs.Layout.{Batch, Holds, start_of}
use Rattle.lift_journal.specs.Steps.{IsInRange, IsReady, HoldsSafely}
use Rattle.lift_journal.specs.Failed.{IsFailedAppend}
use Rattle.lift_journal.specs.Calls.{Performs, append_calls}

-- This body is written after a closed gate, and then the gate is opened. Where it is the next
-- batch's, a crash at any moment leaves the batches from before, or these and the new one.
pub record WritesBatch {T E : Type 0} (result : Result T E) (gate : ℕ) (body : Image)
    (old new : DiskState) : Type 0 where
  pub performs : Performs result (append_calls gate body) (length body + 4) (length body + 2) old new
  pub any_moment : (shape : Shape) (batches : List Batch) (batch : Batch)
      → (old.is_honest → IsReady shape batches batch gate body old)
      → LeavesOnly old new (λ left. Holds shape batches left ⊎ Holds shape (batches ++ batch ∷ []) left)
  pub touched : (old.is_honest → IsSynced old)
      → TouchesOnly (IsInRange gate (gate + length body + 2)) old new
  pub written : OnOk result ((shape : Shape) (batches : List Batch) (batch : Batch)
      → old.is_honest → IsReady shape batches batch gate body old
      → HoldsSafely shape (batches ++ batch ∷ []) (start_of shape.half old.image) new)
  pub fails : OnErr result ((shape : Shape) (batches : List Batch) (batch : Batch)
      → old.is_honest → old.is_inert → IsReady shape batches batch gate body old
      → IsFailedAppend shape batches batch (length body) old new)
