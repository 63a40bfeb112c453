-- What a file holds, by its sectors, and what its calls do to that where it is honest.
use Rattle.std.specs.Prelude.{◌≡◌, ◌↔◌, ◌⊎◌, ◌≤◌, ◌<◌, ◌+◌, ◌*◌, ◌/◌, ℕ, List, [], length, false}
use Rattle.std.specs.Prelude.{if◌then◌else◌, nat_lt, Result, OnOk, OnErr}
use Rattle.lift_disk.specs.Disk.{DiskState, Elapses, Image, IsSteadyAt, WritesStay, SavesAll}
use Rattle.lift_disk.specs.Runs.{HoldsRun, IsInRun, Rests, RunIsWritten, with_run}
use Rattle.lift_disk.specs.Trace.{Access}

-- the whole sectors of this many bytes, as many of them as can be numbered
abbrev pub sectors_in : ℕ → ℕ
sectors_in bytes = if nat_lt (bytes / 512) 4294967295 then bytes / 512 else 4294967295

-- what is said of a file of which nothing is known: it isn't honest
abbrev pub nothing_known : DiskState
nothing_known = record {
  size = 0;
  failures = 0;
  calls = 0;
  writes = 0;
  trace = [];
  is_honest = ⊥;
  is_inert = ⊥;
  image = [];
  synced = [];
  is_loose = λ _. ⊥;
  is_steady = ⊥;
  written = λ _ _. ⊥;
  is_short = false;
  fails_at = λ _. ⊥;
  moment = 0;
  left_since = λ _ _. ⊥;
}

-- What is said of a device of this many sectors on a file that holds this, by its own counts and
-- calls: it is honest where the file is, and where these are the file's whole sectors.
abbrev pub on_file : DiskState → (sectors failures calls writes : ℕ) → List Access → DiskState
on_file held sectors failures calls writes trace = record {
  size = sectors;
  failures = failures;
  calls = calls;
  writes = writes;
  trace = trace;
  is_honest = held.is_honest × (held.size ≡ sectors);
  is_inert = ⊥;
  image = held.image;
  synced = held.synced;
  is_loose = held.is_loose;
  is_steady = held.is_steady;
  written = held.written;
  is_short = false;
  fails_at = λ _. ⊥;
  moment = held.moment;
  left_since = held.left_since;
}

-- The file is honest, and these are sectors of it: from this offset on, this many.
abbrev pub AtSectors : (offset count : ℕ) → DiskState → (ℕ → Type 0) → Type 0
AtSectors offset count held P =
    held.is_honest → (sector : ℕ) → offset ≡ sector * 512 → sector + count ≤ held.size → P sector

-- These sectors were read, from that one on.
pub record ReadsRun (sector : ℕ) (run : List (List ℕ)) (old new : DiskState) : Type 0 where
  pub rests : Rests old new
  pub keeps : WritesStay old new
  pub gives : HoldsRun sector (length run) run new.image

-- each of this many sectors from that one on was said to be written
abbrev pub WasAnnounced : (sector count : ℕ) → DiskState → Type 0
WasAnnounced sector count held = (i : ℕ) → ¬ held.is_loose i → ¬ IsInRun sector count i

-- These sectors were written, from that one on.
pub record WritesRun (sector : ℕ) (run : List (List ℕ)) (old new : DiskState) : Type 0 where
  pub rests : Rests old new
  pub written : RunIsWritten sector run old new
  pub steady : old.is_steady → IsSteadyAt (with_run sector run old.image) new

-- What was written was made safe: a crash leaves what is read.
pub record SyncMakesSafe (old new : DiskState) : Type 0 where
  pub time : Elapses old new
  pub saves : SavesAll old new

-- it has as many sectors as before, and is as honest
pub record IsSameFile (old new : DiskState) : Type 0 where
  pub size : new.size ≡ old.size
  pub honest : new.is_honest ↔ old.is_honest

-- It holds what the other one held: the same is read and was written, the same sectors are loose, and
-- a crash may leave the same, now and at each moment since any other.
pub record HoldsTheSame (old new : DiskState) : Type 0 where
  pub size : new.size ≡ old.size
  pub image : new.image ≡ old.image
  pub synced : new.synced ≡ old.synced
  pub loose : (i : ℕ) → new.is_loose i ↔ old.is_loose i
  pub steady : new.is_steady ↔ old.is_steady
  pub written : (i : ℕ) (bytes : List ℕ) → new.written i bytes ↔ old.written i bytes
  pub moment : new.moment ≡ old.moment
  pub left_since : (t : ℕ) (left : Image) → new.left_since t left ↔ old.left_since t left

-- A call that changes nothing of a file, whether it fails or not.
pub record IsUntouched (old new : DiskState) : Type 0 where
  pub same : IsSameFile old new
  pub held : old.is_honest → HoldsTheSame old new

-- A call that gave these sectors of a file. One that has failed changes nothing but loose sectors,
-- and leaves them loose.
pub record Reads {T E : Type 0} (result : Result T E) (offset : ℕ) (run : List (List ℕ))
    (old new : DiskState) : Type 0 where
  pub same : IsSameFile old new
  pub made : OnOk result (AtSectors offset (length run) old (λ sector. ReadsRun sector run old new))
  pub failed : OnErr result (old.is_honest → Rests old new)

-- A call that wrote these, each of which was announced.
pub record Writes {T E : Type 0} (result : Result T E) (offset : ℕ) (run : List (List ℕ))
    (old new : DiskState) : Type 0 where
  pub same : IsSameFile old new
  pub made : OnOk result (AtSectors offset (length run) old (λ sector.
      WasAnnounced sector (length run) old → WritesRun sector run old new))
  pub failed : OnErr result (AtSectors offset (length run) old (λ sector.
      WasAnnounced sector (length run) old → Rests old new))

-- no call has failed since the last successful sync, as far as is known
abbrev pub IsKnownSteady : DiskState → Type 0
IsKnownSteady held = ∥ held.is_steady ∥₁

-- A call that made safe what was written, where that could be relied on. One that has failed leaves
-- what is loose so.
pub record Syncs {T E : Type 0} (relied : Type 0) (result : Result T E)
    (old new : DiskState) : Type 0 where
  pub same : IsSameFile old new
  pub made : OnOk result (old.is_honest → relied → SyncMakesSafe old new)
  pub failed : OnErr result (old.is_honest → Rests old new)

-- A call that gave the disk what was written. Nothing is safer by it: where an earlier call has
-- failed, the system may have given up what it still gives to reads.
pub record WritesBack {T E : Type 0} (result : Result T E) (old new : DiskState) : Type 0 where
  pub same : IsSameFile old new
  pub rests : old.is_honest → Rests old new
  pub keeps : OnOk result (old.is_honest → WritesStay old new)

-- One sector more is loose, if it is one of the file. It is no call, and nothing else changes.
pub record OpensSector (sector : ℕ) (old new : DiskState) : Type 0 where
  pub same : IsSameFile old new
  pub image : new.image ≡ old.image
  pub synced : new.synced ≡ old.synced
  pub written : (i : ℕ) (bytes : List ℕ) → old.written i bytes → new.written i bytes
  pub steady : old.is_steady → new.is_steady
  pub loose : old.is_honest → sector < old.size → (i : ℕ)
      → new.is_loose i ↔ (old.is_loose i ⊎ (i ≡ sector))
  pub time : old.is_honest → sector < old.size → Elapses old new
