-- The front of a chain, and where one is damaged.
use Rattle.std.specs.Prelude.{◌≡◌, ◌⊎◌, ◌<◌, ◌+◌, ◌-◌, ◌++◌, ℕ, List, [], ◌∷◌, length, take, drop}
use Rattle.std.specs.Prelude.{None}
use Rattle.lift_record.specs.declared.version.Version.{Version}
use Rattle.lift_record.specs.declared.version.Version.TheVariants.{One}
use Rattle.lift_disk.specs.Disk.{Image}
use Rattle.lift_journal.specs.Order.{IsInOrderAfter, MayEnd, last_record_after}
use Rattle.lift_journal.specs.Layout.{Batch, records_of, sector_at, IsOpen, IsClosed, size_of}
use Rattle.lift_journal.specs.Layout.{IsBody, IsChain, IsSound, NeverFall, used}

-- the batches from the first sector on, each after an open gate; what stands after them is left
-- open
abbrev pub AreFirstBatches : List Batch → ℕ → Image → Type 0
AreFirstBatches [] number sectors = Unit {0}
AreFirstBatches (batch ∷ batches) number [] = ⊥
AreFirstBatches (batch ∷ batches) number (gate ∷ rest) =
    IsOpen gate × IsBody number batch (take (size_of batch) rest)
    × AreFirstBatches batches (number + 1) (drop (size_of batch) rest)

-- after this gate stands this batch, with the place of the next gate below the end
pub record IsBatchAt (image : Image) (gate end number : ℕ) (batch : Batch) : Type 0 where
  pub body : IsBody number batch (take (size_of batch) (drop (gate + 1) image))
  pub next : gate + 1 + size_of batch < end

-- these batches may begin a chain
pub record MayBeginChain (batches : List Batch) : Type 0 where
  pub versions : NeverFall One batches
  pub ordered : IsInOrderAfter None (records_of batches)

-- the version of the last of these batches, or that one where there are none
abbrev pub version_after : Version → List Batch → Version
version_after version [] = version
version_after version (batch ∷ batches) = version_after batch.version batches

-- these batches stand from start to this gate
pub record Reaches (image : Image) (start end gate : ℕ) (batches : List Batch) : Type 0 where
  pub front : AreFirstBatches batches 1 (take (end - start) (drop start image))
  pub sound : MayBeginChain batches
  pub at : gate ≡ start + used batches

-- A gate below the end that batches reach is damaged: it is open, and no batch that may stand
-- after them is there, or it is closed, and they end within a checkpoint.
pub record IsDamagedAt (image : Image) (start end gate : ℕ) : Type 0 where
  pub batches : List Batch
  pub below : gate < end
  pub reached : Reaches image start end gate batches
  pub broken : (IsOpen (sector_at image gate)
      × ((batch : Batch) → IsBatchAt image gate end (1 + length batches) batch
      → ¬ MayBeginChain (batches ++ batch ∷ [])))
      ⊎ (IsClosed (sector_at image gate)
      × ¬ MayEnd (last_record_after None (records_of batches)))

-- the chain ends at this closed gate
pub record EndsAt (image : Image) (start end gate number : ℕ) : Type 0 where
  pub batches : List Batch
  pub chain : IsChain batches 1 (take (end - start) (drop start image))
  pub sound : IsSound batches
  pub at : gate ≡ start + used batches
  pub counts : number ≡ 1 + length batches
