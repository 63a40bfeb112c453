-- What a file in memory holds.
use Rattle.std.specs.Prelude.{◌≡◌, ◌↔◌, ◌⊎◌, ℕ, List}
use Rattle.lift_disk.specs.Disk.{DiskState, Image, Elapses, MayLeave}
use Rattle.lift_disk.specs.Holding.{IsSameFile}
use Rattle.lift_disk.specs.Memory.{no_other}
use Rattle.lift_disk.specs.Outcomes.{state_of}
use Rattle.lift_disk.specs.Runs.{IsInRun}
use Rattle.lift_file_tests.specs.declared.memory_file.MemoryFile.{MemoryFile}

-- what its device has
abbrev pub held : MemoryFile → DiskState
held f = state_of f.disk

-- This many sectors from that one on are loose too. It is no call, and nothing else changes.
pub record OpensRun (from count : ℕ) (old new : DiskState) : Type 0 where
  pub same : IsSameFile old new
  pub image : new.image ≡ old.image
  pub synced : new.synced ≡ old.synced
  pub written : (i : ℕ) (bytes : List ℕ) → old.written i bytes → new.written i bytes
  pub steady : old.is_steady → new.is_steady
  pub loose : (i : ℕ) → new.is_loose i ↔ (old.is_loose i ⊎ IsInRun from count i)
  pub time : Elapses old new

pub last_moment : (f : MemoryFile) (left : Image) → (held f).left_since (held f).moment left
    → MayLeave (held f) left
last_moment f left since =
    no_other f.disk.history.first f.disk.history.calls (held f).image f.disk.sectors.loose.items left
    since

pub stays_kept : (f : MemoryFile) → MayLeave (held f) (held f).synced
stays_kept f = f.disk.sectors.kept
