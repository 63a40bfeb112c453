-- What is said of the devices in memory.
use Rattle.std.specs.Prelude.{◌≡◌, ◌+◌, ◌↔◌, ℕ, Option, Some, None}
use Rattle.lift_disk.specs.Disk.{DiskState, Image, MayLeave, GoesOn, Touches, TouchesNothing}
use Rattle.lift_disk.specs.Disk.{StaysLoose, IsFilled}
use Rattle.lift_disk.specs.Memory.{memory_state}
use Rattle.lift_disk.specs.Places.{all_now, all_safe}
use Rattle.lift_disk.specs.declared.memory.MemDisk.{MemDisk}
use Rattle.lift_disk.specs.declared.outcome.Outcome.{Outcome}
use Rattle.lift_disk.specs.declared.outcome.Outcome.TheVariants.{Keep, Lose, Fill}

abbrev pub state_of : MemDisk → DiskState
state_of m = memory_state m.history.first m.history.calls (all_now m.sectors.places.items)
    (all_safe m.sectors.places.items) m.sectors.loose.items m.is_steady m.failures.count
    m.calls.count m.writes.count m.trace.calls

-- which sector a failed call makes loose
abbrev pub SpoilsSector : Option ℕ → DiskState → DiskState → Type 0
SpoilsSector (Some sector) old new = Touches sector old new × (new.writes ≡ old.writes + 1)
SpoilsSector None old new = TouchesNothing old new × StaysLoose old new × (new.writes ≡ old.writes)

-- as a failed call does: it counts, and leaves what is read
pub record SpoilsAt (sector : Option ℕ) (old new : DiskState) : Type 0 where
  pub goes_on : GoesOn old new
  pub counted : new.failures ≡ old.failures + 1
  pub unsteady : ¬ new.is_steady
  pub touched : SpoilsSector sector old new
  pub image : new.image ≡ old.image
  pub synced : new.synced ≡ old.synced
  pub trace : new.trace ≡ old.trace
  pub short : new.is_short ≡ old.is_short

-- what a cut leaves by its word: the loose sectors keep their bytes, lose them or are filled
abbrev pub IsLeftBy : Outcome → DiskState → Image → Type 0
IsLeftBy Keep old left = left ≡ old.image
IsLeftBy Lose old left = left ≡ old.synced
IsLeftBy (Fill byte) old left = IsFilled byte old left

-- The power was cut: a crash may have left what is read now, and all else that is said of the
-- device stays, but for its moments.
pub record IsCut (old new : DiskState) : Type 0 where
  pub left : MayLeave old new.image
  pub size : new.size ≡ old.size
  pub failures : new.failures ≡ old.failures
  pub calls : new.calls ≡ old.calls
  pub writes : new.writes ≡ old.writes
  pub trace : new.trace ≡ old.trace
  pub honest : new.is_honest ↔ old.is_honest
  pub inert : new.is_inert ↔ old.is_inert
  pub synced : new.synced ≡ old.synced
  pub loose : (i : ℕ) → new.is_loose i ↔ old.is_loose i
  pub steady : new.is_steady ↔ old.is_steady
  pub short : new.is_short ≡ old.is_short
  pub again : (left : Image) → MayLeave new left → MayLeave old left
  -- Time begins again: what a crash might have left before is no longer asked.
  pub moment : new.moment ≡ 0
  pub left_since : (t : ℕ) (left : Image) → new.left_since t left ↔ MayLeave new left
