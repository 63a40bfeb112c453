-- What an opening shows its visitor: the batches of the chain, one after another.
use Rattle.std.specs.Prelude.{◌≡◌, ◌⊎◌, ◌<◌, ◌≤◌, ◌+◌, ◌-◌, ◌++◌, ℕ, List, [], ◌∷◌, length, All}
use Rattle.lift_base.specs.declared.history.Record.{Record}
use Rattle.lift_base.specs.declared.history.Shape.{Shape}
use Rattle.lift_disk.specs.Disk.{DiskState, Image}
use Rattle.lift_disk.specs.Trace.{Access}
use Rattle.lift_disk.specs.Trace.Access.{Read, Sync}
use Rattle.lift_base.specs.declared.limits.TheConstants.{MOST_ENTRIES}
use Rattle.lift_journal.specs.declared.fault.JournalFault.{JournalFault}
use Rattle.lift_journal.specs.declared.fault.JournalFault.TheVariants.{Disk, NotFormatted, Damaged}
use Rattle.lift_journal.specs.Layout.{Batch, size_of, used, start_of, IsStamped}
use Rattle.lift_journal.specs.Walk.{MayBeginChain, IsBatchAt, Reaches}
use Rattle.lift_journal.specs.Calls.{reads_from, MakesPrefix}

-- Each of these batches has made of the visitor what its records may make of it, in this order.
abbrev pub TakesAll : {V : Type 0} → (V → List Record → V → Type 0) → V → List Batch → V → Type 0
TakesAll takes old [] new = new ≡ old
TakesAll {V} takes old (batch ∷ batches) new =
    (next : V) × takes old batch.records next × TakesAll takes next batches new

-- as many records as a batch may have
abbrev pub IsSized : Batch → Type 0
IsSized batch = (1 ≤ length batch.records) × (length batch.records ≤ MOST_ENTRIES)

-- The visitor was shown some batches that may begin a chain, whatever the device holds. They take
-- fewer sectors than this many.
pub record HasTaken {V : Type 0} (takes : V → List Record → V → Type 0) (sectors : ℕ)
    (old new : V) : Type 0 where
  pub batches : List Batch
  pub sound : MayBeginChain batches
  pub sized : All IsSized batches
  pub few : used batches < sectors
  pub taken : TakesAll takes old batches new

-- After those calls a half was read in a row, up to a gate and not all of the batch there, if one
-- is there. Just the batches before that gate were shown.
pub record TakesAllRead {V : Type 0} (takes : V → List Record → V → Type 0) (before : List Access)
    (start end : ℕ) (image : Image) (was is : DiskState) (old new : V) : Type 0 where
  pub gate : ℕ
  pub more : ℕ
  pub batches : List Batch
  pub reached : Reaches image start end gate batches
  pub made : is.trace ≡ was.trace ++ (before ++ reads_from start (gate - start + more))
  pub unfinished : (batch : Batch) → IsBatchAt image gate end (1 + length batches) batch
      → more ≤ size_of batch
  pub taken : TakesAll takes old batches new

-- a half was refused for this fault, and just the batches before that were shown
abbrev pub TakesBefore : {V : Type 0} → (V → List Record → V → Type 0) → JournalFault → List Access
    → ℕ → ℕ → Image → DiskState → DiskState → V → V → Type 0
TakesBefore takes Disk before start end image was is old new =
    TakesAllRead takes before start end image was is old new
TakesBefore takes (Damaged sector) before start end image was is old new =
    (batches : List Batch) × Reaches image start end sector batches
    × TakesAll takes old batches new
TakesBefore takes _ before start end image was is old new = ⊥

-- the same of the half that is picked
abbrev pub TakesInHalf : {V : Type 0} → (V → List Record → V → Type 0) → JournalFault → DiskState
    → DiskState → V → V → Type 0
TakesInHalf takes fault was is old new = was.is_honest → (shape : Shape) × IsStamped shape is.image
    × TakesBefore takes fault (Sync ∷ Read 1 ∷ Read 0 ∷ []) (start_of shape.half is.image)
    (start_of shape.half is.image + shape.half) is.image was is old new

-- What an opening that is refused for this fault has shown: of an honest device just the batches
-- before what refuses it, and none where it comes to no half.
abbrev pub ShownBefore : {V : Type 0} → (V → List Record → V → Type 0) → JournalFault → DiskState
    → DiskState → V → V → Type 0
ShownBefore takes Disk was is old new =
    MakesPrefix (Sync ∷ Read 1 ∷ Read 0 ∷ []) was is × (new ≡ old)
    ⊎ TakesInHalf takes Disk was is old new
ShownBefore takes NotFormatted was is old new = new ≡ old
ShownBefore takes (Damaged sector) was is old new =
    TakesInHalf takes (Damaged sector) was is old new
ShownBefore takes _ was is old new = ⊥
