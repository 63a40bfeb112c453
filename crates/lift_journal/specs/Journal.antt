-- A journal, as its callers see it.
use Rattle.std.specs.Prelude.{◌≡◌, ◌⊎◌, ◌<◌, ◌≤◌, ◌+◌, ◌-◌, ◌*◌, ℕ, Bool, true, false, List, ◌++◌}
use Rattle.std.specs.Prelude.{Option, Some, None, length, take, slice_get, All, nat_lt}
use Rattle.std.specs.Option.{option_map}
use Rattle.lift_base.specs.declared.history.Record.{Record}
use Rattle.lift_base.specs.declared.history.Shape.{Shape}
use Rattle.lift_base.specs.History.{IsWithinLimits}
use Rattle.lift_disk.specs.Disk.{DiskState, Image, IsSynced, LeavesNow}
use Rattle.lift_journal.specs.declared.place.Place.{Place}
use Rattle.lift_journal.specs.Order.{IsEntry, IsOfBase}
use Rattle.lift_journal.specs.Layout.{Batch, records_of, Holds, HoldsIn, start_of, used}

-- the image reads as this checkpoint, if it has one, and these entries after it
pub record ReadsAs (shape : Shape) (base entries : List Record) (image : Image) : Type 0 where
  pub batches : List Batch
  pub holds : Holds shape batches image
  pub joined : records_of batches ≡ base ++ entries
  pub is_base : All IsOfBase base
  pub are_entries : All IsEntry entries

-- every crash now leaves an image that reads as this
abbrev pub StandsFor : Shape → List Record → List Record → DiskState → Type 0
StandsFor shape base entries disk = LeavesNow disk (ReadsAs shape base entries)

-- what a caller sees of a journal over a device
pub record JournalView (D : Type 0) : Type 0 where
  pub device : D
  pub shape : Shape
  -- the second half is picked
  pub is_in_second_half : Bool
  -- the sectors of the picked half before its closing gate
  pub used : ℕ
  -- the number of the next batch
  pub number : ℕ
  -- how many calls of the device had failed when it was last opened
  pub failures_at_opening : ℕ
  -- a call of the device has failed, and no reopening has succeeded since
  pub is_broken : Bool

-- a journal over this device that stands at this place
abbrev pub view_from : {D : Type 0} → D → Place → Bool → ℕ → JournalView D
view_from device place is_broken failures_at_opening = record {
  device = device;
  shape = place.shape;
  is_in_second_half = nat_lt 2 place.start;
  used = place.gate - place.start;
  number = place.number;
  failures_at_opening = failures_at_opening;
  is_broken = is_broken;
}

-- The journal holds these batches: its device has them in the half that is picked, a crash leaves
-- just that, and the next batch goes after them.
pub record JournalHolds {D : Type 0} (state : D → DiskState) (journal : JournalView D)
    (batches : List Batch) : Type 0 where
  pub safe : IsSynced (state journal.device)
  pub holds : HoldsIn journal.shape journal.is_in_second_half batches (state journal.device).image
  pub taken : journal.used ≡ used batches
  pub next : journal.number ≡ 1 + length batches

-- where the next batch goes, whatever the device holds
pub record HasNextPlace (size : ℕ) (shape : Shape) (start gate number : ℕ) : Type 0 where
  pub within : IsWithinLimits shape
  pub inside : 2 * shape.half + 2 ≤ size
  pub halves : (start ≡ 2) ⊎ (start ≡ shape.half + 2)
  pub low : start ≤ gate
  pub below : gate < start + shape.half
  pub some : 1 ≤ number
  pub counts : number ≤ gate

-- the place is right for what the device holds
pub record StandsAt (shape : Shape) (start gate number : ℕ) (disk : DiskState) : Type 0 where
  pub batches : List Batch
  pub synced : IsSynced disk
  pub holds : Holds shape batches disk.image
  pub starts : start ≡ start_of shape.half disk.image
  pub at : gate ≡ start_of shape.half disk.image + used batches
  pub counts : number ≡ 1 + length batches

-- what is true of every journal: its place is right, until a call of its device fails
pub record IsJournal (at : Place) (is_broken : Bool) (failures_at_opening : ℕ) (disk : DiskState)
    : Type 0 where
  pub place : HasNextPlace disk.size at.shape at.start at.gate at.number
  pub counted : failures_at_opening ≤ disk.failures
  pub failed : is_broken ≡ true → failures_at_opening < disk.failures
  pub stands : is_broken ≡ false → disk.is_honest
      → StandsAt at.shape at.start at.gate at.number disk

-- what a caller sees of a cursor: the sectors of the half before its gate, and how many batches it
-- has given
pub record CursorView : Type 0 where
  pub skipped : ℕ
  pub given : ℕ

-- the cursor stands at a gate of these batches
pub record IsCursorIn (batches : List Batch) (cursor : CursorView) : Type 0 where
  pub inside : cursor.given ≤ length batches
  pub behind : cursor.skipped ≡ used (take cursor.given batches)

-- the next batch, and the cursor after it; at the end none
abbrev pub IsNext : List Batch → CursorView → CursorView → Option (List Record) → Type 0
IsNext batches old new None = (old.given ≡ length batches) × (new ≡ old)
IsNext batches old new (Some records) =
    (option_map (λ batch. batch.records) (slice_get batches old.given) ≡ Some records)
    × (new.given ≡ old.given + 1) × IsCursorIn batches new
