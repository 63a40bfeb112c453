-- What a refused opening has read: nothing after the sector that refuses it.
use Rattle.std.specs.Prelude.{◌≡◌, ◌⊎◌, ◌<◌, ◌≤◌, ◌+◌, ◌-◌, ◌*◌, ◌++◌, ℕ, List, [], ◌∷◌}
use Rattle.lift_base.specs.declared.history.Shape.{Shape}
use Rattle.lift_base.specs.History.{IsWithinLimits}
use Rattle.lift_disk.specs.Disk.{DiskState, Image}
use Rattle.lift_disk.specs.Trace.{Access}
use Rattle.lift_disk.specs.Trace.Access.{Read, Sync}
use Rattle.lift_journal.specs.declared.fault.JournalFault.{JournalFault}
use Rattle.lift_journal.specs.declared.fault.JournalFault.TheVariants.{Disk, NotFormatted, Damaged}
use Rattle.lift_journal.specs.Layout.{Batch}
use Rattle.lift_journal.specs.Walk.{Reaches, IsDamagedAt}
use Rattle.lift_journal.specs.Calls.{reads_from, MakesPrefix}

-- a half of a device of this many sectors, for some shape, from its first sector to its end
pub record IsHalfOf (size start end : ℕ) : Type 0 where
  pub shape : Shape
  pub within : IsWithinLimits shape
  pub inside : 2 * shape.half + 2 ≤ size
  pub starts : (start ≡ 2) ⊎ (start ≡ shape.half + 2)
  pub ends : end ≡ start + shape.half

-- After those calls a half was read in a row, up to a gate that batches reach, and two sectors
-- after it at most. The call for the next one failed.
pub record FailsInHalf (before : List Access) (start end : ℕ) (is_known : Type 0) (image : Image)
    (old new : DiskState) : Type 0 where
  pub gate : ℕ
  pub more : ℕ
  pub low : start ≤ gate
  pub few : more ≤ 2
  pub inside : gate + more ≤ end
  pub made : new.trace ≡ old.trace ++ (before ++ reads_from start (gate - start + more))
  pub reached : is_known → (batches : List Batch) × Reaches image start end gate batches

-- After those calls a half was read in a row, up to the sector that is damaged, and two after it
-- at most.
pub record FindsIn (sector : ℕ) (before : List Access) (start end : ℕ) (is_known : Type 0)
    (image : Image) (old new : DiskState) : Type 0 where
  pub more : ℕ
  pub low : start ≤ sector
  pub few : more ≤ 2
  pub inside : sector + more < end
  pub made : new.trace ≡ old.trace ++ (before ++ reads_from start (sector - start + (1 + more)))
  pub damaged : is_known → IsDamagedAt image start end sector

-- this has ended the reading of a half
abbrev pub EndsIn : JournalFault → List Access → ℕ → ℕ → Type 0 → Image → DiskState → DiskState
    → Type 0
EndsIn Disk before start end is_known image old new =
    FailsInHalf before start end is_known image old new
EndsIn (Damaged sector) before start end is_known image old new =
    FindsIn sector before start end is_known image old new
EndsIn _ before start end is_known image old new = ⊥

-- the same of one of the halves
abbrev pub EndsInHalf : JournalFault → List Access → Type 0 → Image → DiskState → DiskState → Type 0
EndsInHalf fault before is_known image old new = (start end : ℕ) × IsHalfOf old.size start end
    × EndsIn fault before start end is_known image old new

-- what was read of a stamp that was refused
abbrev pub StampAfter : JournalFault → DiskState → DiskState → Type 0
StampAfter Disk old new = new.trace ≡ old.trace
StampAfter NotFormatted old new = (old.size < 2) × (new.trace ≡ old.trace)
    ⊎ (2 ≤ old.size) × (new.trace ≡ old.trace ++ Read 1 ∷ [])
StampAfter _ old new = ⊥

-- Which calls an opening has made that was refused: the sync, the stamp and the pick, and then a
-- half up to the sector that refuses it, each of them as far as it came.
abbrev pub RefusedAfter : JournalFault → DiskState → DiskState → Type 0
RefusedAfter Disk old new = MakesPrefix (Sync ∷ Read 1 ∷ Read 0 ∷ []) old new
    ⊎ EndsInHalf Disk (Sync ∷ Read 1 ∷ Read 0 ∷ []) old.is_honest new.image old new
RefusedAfter NotFormatted old new =
    (old.size < 2) × (new.trace ≡ old.trace ++ Sync ∷ [])
    ⊎ (2 ≤ old.size) × (new.trace ≡ old.trace ++ Sync ∷ Read 1 ∷ [])
RefusedAfter (Damaged sector) old new =
    EndsInHalf (Damaged sector) (Sync ∷ Read 1 ∷ Read 0 ∷ []) old.is_honest new.image old new
RefusedAfter _ old new = ⊥
