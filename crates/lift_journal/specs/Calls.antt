-- Which calls of the device a format, an append, a checkpoint and an opening make, in their order.
use Rattle.std.specs.Prelude.{◌≡◌, ◌≤◌, ◌<◌, ◌+◌, ◌++◌, ℕ, zero, suc, Bool, if◌then◌else◌, List, []}
use Rattle.std.specs.Prelude.{◌∷◌, length, take, drop, Result, OnOk, OnErr, IsErrOf}
use Rattle.lift_base.specs.declared.history.Shape.{Shape}
use Rattle.lift_disk.specs.Disk.{DiskState, Image, HasCause, RunsOn}
use Rattle.lift_disk.specs.Trace.{Access}
use Rattle.lift_disk.specs.Trace.Access.{Read, Write, Sync}
use Rattle.lift_journal.specs.declared.fault.JournalFault.{JournalFault}
use Rattle.lift_journal.specs.declared.fault.JournalFault.TheVariants.{Disk}
use Rattle.lift_journal.specs.Layout.{Batch, batch_bytes, size_of, used, filled, stamp_bytes}
use Rattle.lift_journal.specs.Steps.{Makes, marked, unmarked}
use Rattle.lift_journal.specs.Armed.{EndsAtFirstFailure, AnswersAsArmed}

-- the first sector of a half
abbrev pub half_start : Bool → ℕ → ℕ
half_start is_in_second_half half = if is_in_second_half then half + 2 else 2

-- these sectors are written in a row
abbrev pub writes_from : ℕ → Image → List Access
writes_from first [] = []
writes_from first (sector ∷ sectors) = Write first sector ∷ writes_from (first + 1) sectors

-- this many sectors are read in a row, each once
abbrev pub reads_from : ℕ → ℕ → List Access
reads_from first zero = []
reads_from first (suc count) = Read first ∷ reads_from (first + 1) count

-- A sector is written and made safe.
abbrev pub puts : ℕ → List ℕ → List Access
puts sector bytes = Write sector bytes ∷ Sync ∷ []

-- The first half is picked and its first gate is closed; once that is safe, the stamp is written.
abbrev pub format_calls : Shape → List Access
format_calls shape = (Write 0 unmarked ∷ Write 2 unmarked ∷ Sync ∷ [])
    ++ puts 1 (filled 1 (stamp_bytes shape))

-- After the closed gate the body is written and another closed gate; once that is safe, the gate
-- is opened.
abbrev pub append_calls : ℕ → Image → List Access
append_calls gate body =
    (writes_from (gate + 1) body ++ Write (gate + 1 + length body) unmarked ∷ Sync ∷ [])
    ++ puts gate marked

-- the sectors of a batch's body
abbrev pub batch_body : ℕ → Batch → Image
batch_body number batch = let text = filled 2 (batch_bytes number batch) in
    take (size_of batch) (take 512 text ∷ drop 512 text ∷ [])

-- Batches are written in a row, from this number on: each its body, and then its gate open.
abbrev pub draft_calls : (gate number : ℕ) → List Batch → List Access
draft_calls gate number [] = []
draft_calls gate number (batch ∷ batches) =
    (writes_from (gate + 1) (batch_body number batch) ++ Write gate marked ∷ [])
    ++ draft_calls (gate + (1 + size_of batch)) (number + 1) batches

-- what is written to pick a half
abbrev pub pick_of : Bool → List ℕ
pick_of is_in_second_half = if is_in_second_half then marked else unmarked

-- From this sector on the batches of a checkpoint are written, and after them a closed gate is
-- made safe; then the pick.
abbrev pub checkpoint_calls : ℕ → List ℕ → List Batch → List Access
checkpoint_calls start pick batches =
    draft_calls start 1 batches ++ (puts (start + used batches) unmarked ++ puts 0 pick)

-- Some of these calls were made, from the first on, and not all.
pub record MakesPrefix (calls : List Access) (old new : DiskState) : Type 0 where
  pub count : ℕ
  pub some_left : count < length calls
  pub made : new.trace ≡ old.trace ++ take count calls

-- These calls were made, one after another; where one failed, those before it.
pub record Follows {T E : Type 0} (result : Result T E) (calls : List Access)
    (old new : DiskState) : Type 0 where
  pub all : OnOk result (new.trace ≡ old.trace ++ calls)
  pub front : OnErr result (MakesPrefix calls old new)

-- A step of the journal: these calls, this many in all, this many of them writes. It stops at the
-- first that fails.
pub record Performs {T E : Type 0} (result : Result T E) (calls : List Access) (count writes : ℕ)
    (old new : DiskState) : Type 0 where
  pub runs : RunsOn old new
  pub cause : HasCause result old new
  pub armed : EndsAtFirstFailure result old new
  pub made : Makes result count writes old new
  pub follows : Follows result calls old new

-- A call of the journal that makes these calls, this many in all, this many of them writes. It
-- stops at the first that fails; for another cause it is refused before them.
pub record CallsDevice {T : Type 0} (result : Result T JournalFault) (calls : List Access)
    (count writes : ℕ) (old new : DiskState) : Type 0 where
  pub runs : RunsOn old new
  pub made : Makes result count writes old new
  pub all : OnOk result (new.trace ≡ old.trace ++ calls)
  pub front : IsErrOf result Disk → MakesPrefix calls old new
  -- which of them fails
  pub armed : AnswersAsArmed result old new

-- from this sector on some were read in a row, each once: this many at most, and none from the end
-- on
abbrev pub HasRead : (first most end : ℕ) → DiskState → DiskState → Type 0
HasRead first most end old new = (count : ℕ) × (count ≤ most) × (first + count ≤ end)
    × (new.trace ≡ old.trace ++ reads_from first count)

-- this sector was read, and two after it at most, in a row below the end
abbrev pub HasReadAt : (sector end : ℕ) → DiskState → DiskState → Type 0
HasReadAt sector end old new = (more : ℕ) × (more ≤ 2) × (sector + more < end)
    × (new.trace ≡ old.trace ++ reads_from sector (1 + more))

-- The opening of a device: a sync, the stamp, the pick, and this many sectors of the picked half in
-- a row.
abbrev pub opening_calls : ℕ → ℕ → List Access
opening_calls start count = Sync ∷ Read 1 ∷ Read 0 ∷ reads_from start count

-- the same by the size of a half, which one is picked, and how many of its sectors are used
abbrev pub opening_of : (half : ℕ) → Bool → (taken : ℕ) → List Access
opening_of half is_in_second_half taken = opening_calls (half_start is_in_second_half half)
    (taken + 1)
