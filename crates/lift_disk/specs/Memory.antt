-- A device in memory, by the calls that it has recorded.
use Rattle.std.specs.Prelude.{◌≡◌, ◌⊎◌, ◌≤◌, ◌<◌, ℕ, Bool, true, false, List, [], ◌∷◌, length, take}
use Rattle.std.specs.Prelude.{replicate, slice_get, slice_set, Some, zero, suc}
use Rattle.std.proofs.Common.{arith}
use mathlib.Core.Logic.{inl, inr}
use Rattle.lift_disk.specs.Disk.{DiskState, Image, ChangesWithin}
use Rattle.lift_disk.specs.declared.outcome.Outcome.{Outcome}
use Rattle.lift_disk.specs.declared.outcome.Outcome.TheVariants.{Keep, Lose, Fill}
use Rattle.lift_disk.specs.Trace.{Access}
use Rattle.lift_disk.specs.Calls.{Call}
use Rattle.lift_disk.specs.Calls.Call.{Write, Sync}

-- the image after these calls
abbrev pub image_after : List Call → Image → Image
image_after [] image = image
image_after (Write sector bytes ∷ calls) image = image_after calls (slice_set image sector bytes)
image_after (Sync loose ∷ calls) image = image_after calls image

abbrev pub IsFlagged : List Bool → ℕ → Type 0
IsFlagged flags i = slice_get flags i ≡ Some true

-- one of the sectors from that one on, below the end
abbrev pub IsWithin : ℕ → ℕ → ℕ → Type 0
IsWithin from end i = (from ≤ i) × (i < end)

-- A crash before the j-th call, a sync, might have left this: that sync has kept which sectors were
-- loose.
pub record WasLeft (first : Image) (calls : List Call) (since : ℕ) (left : Image) : Type 0 where
  pub at : ℕ
  pub loose : List Bool
  pub late : since ≤ at
  pub synced : slice_get calls at ≡ Some (Sync loose)
  pub within : ChangesWithin (IsFlagged loose) (image_after (take at calls) first) left

-- What is said of a device in memory that was never armed. Its calls by now are counted, and those
-- that change what a crash leaves are recorded.
abbrev pub memory_state : Image → List Call → Image → Image → List Bool → Bool → ℕ → ℕ → ℕ
    → List Access → DiskState
memory_state first history now synced loose steady failures calls writes trace = record {
  size = length now;
  failures = failures;
  calls = calls;
  writes = writes;
  trace = trace;
  is_honest = Unit {0};
  is_inert = Unit {0};
  image = now;
  synced = synced;
  is_loose = IsFlagged loose;
  is_steady = steady ≡ true;
  written = λ i bytes. slice_get now i ≡ Some bytes;
  is_short = false;
  fails_at = λ _. ⊥;
  moment = length history;
  left_since = λ since left. ChangesWithin (IsFlagged loose) now left
      ⊎ WasLeft first history since left;
}

-- what a cut by this word makes of the sectors
abbrev pub LeavesBy : Outcome → Image → Image → List Bool → Image → Type 0
LeavesBy Keep now synced loose left = left ≡ now
LeavesBy Lose now synced loose left = left ≡ synced
LeavesBy (Fill byte) now synced loose left = (i : ℕ) → IsFlagged loose i
    → slice_get left i ≡ Some (replicate 512 byte)

none_past : {X : Type 0} (xs : List X) (i : ℕ) (x : X) → length xs ≤ i → slice_get xs i ≡ Some x → ⊥
none_past [] i x late is = cc is
none_past (y ∷ xs) zero x late is = omega arith
none_past (y ∷ xs) (suc i) x late is = none_past xs i x (omega arith) is

-- since the last call there is no other moment
pub no_other : (first : Image) (calls : List Call) (now : Image) (loose : List Bool) (left : Image)
    → ChangesWithin (IsFlagged loose) now left ⊎ WasLeft first calls (length calls) left
    → ChangesWithin (IsFlagged loose) now left
no_other first calls now loose left (inl is) = is
no_other first calls now loose left (inr was) =
    absurd (none_past calls was.at (Sync was.loose) was.late was.synced)
