-- What is known of a device over another one.
use Rattle.std.specs.Prelude.{ℕ, ◌≡◌, ◌⊎◌, ◌≤◌, ◌<◌, ◌+◌, ◌-◌, List, [], length, slice_get, Some}
use Rattle.std.specs.Prelude.{◌++◌, ◌∷◌, min, Result, OnOk, OnErr}
use Rattle.lift_disk.specs.Disk.{DiskState}
use Rattle.lift_disk.specs.Runs.{Announces, MakesCalls, buffered, run_calls, waiting}
use Rattle.lift_disk.specs.Trace.Access.{Read, Sync}
use Rattle.lift_disk.specs.declared.disk.DiskFault.{DiskFault}
use Rattle.lift_disk.specs.declared.disk.Disk.{Ghosts}
use Rattle.lift_disk.specs.declared.runs.RunDisk.{Ghosts as RunGhosts}
use Rattle.lift_disk.specs.declared.buffered.Buffered.{Buffered}

-- the other one
abbrev pub below : {R : Type 0} {runs : RunGhosts R} {disk : Ghosts R} → Buffered R runs disk → R
below d = d.device

-- the sectors that are still to be written to it
abbrev pub held_back : {R : Type 0} {runs : RunGhosts R} {disk : Ghosts R}
    → Buffered R runs disk → List (List ℕ)
held_back d = d.pending.items

-- the other one with what is still to be written to it, the device's own counts and its own calls
abbrev pub buffered_state_of : {R : Type 0} {runs : RunGhosts R} {disk : Ghosts R}
    → (R → DiskState) → Buffered R runs disk → DiskState
buffered_state_of state d = buffered (state d.device) d.from d.pending.items d.calls.count
    d.writes.count d.trace.calls

-- these bytes are still to be written to this sector
abbrev pub IsHeldBack : {R : Type 0} {runs : RunGhosts R} {disk : Ghosts R}
    → Buffered R runs disk → ℕ → List ℕ → Type 0
IsHeldBack d sector bytes = (d.from ≤ sector)
    × (slice_get d.pending.items (sector - d.from) ≡ Some bytes)

-- this sector is the next after those that are still to be written, which are fewer than 16
abbrev pub IsNextHeld : {R : Type 0} {runs : RunGhosts R} {disk : Ghosts R}
    → Buffered R runs disk → ℕ → Type 0
IsNextHeld d sector = (d.from + length d.pending.items ≡ sector) × (length d.pending.items < 16)

-- a write of this sector can wait with those that are still to be made, or none is
abbrev pub CanWait : {R : Type 0} {runs : RunGhosts R} {disk : Ghosts R}
    → Buffered R runs disk → ℕ → Type 0
CanWait d sector = (held_back d ≡ []) ⊎ IsNextHeld d sector

-- the same are still to be written to it, from the same sector on
pub record StaysHeldBack {R : Type 0} {runs : RunGhosts R} {disk : Ghosts R}
    (old new : Buffered R runs disk) : Type 0 where
  pub from : new.from ≡ old.from
  pub writes : held_back new ≡ held_back old

-- the other one, as if these were written
abbrev pub as_written : {R : Type 0} {runs : RunGhosts R} {disk : Ghosts R}
    → (R → DiskState) → Buffered R runs disk → DiskState
as_written state d = waiting (state d.device) d.from d.pending.items

-- One call of the other one: a read of 16 sectors from this one on, or of as many as there are. By
-- what that device says of it, it gave these.
pub record AsksAhead {R : Type 0} (state : R → DiskState)
    (read_run_gives : R → ℕ → List (List ℕ) → Result (Unit {0}) DiskFault → R → Type 0)
    (old : R) (sector : ℕ) (result : Result (Unit {0}) DiskFault) (new : R) : Type 0 where
  pub run : List (List ℕ)
  pub count : length run ≡ min ((state old).size - sector) 16
  pub asked : read_run_gives old sector run result new
  pub made : MakesCalls result (Read sector ∷ []) (state old) (state new)

-- These bytes are still to be written, or a call of the other one gave them. It has no call for
-- this read, or one. Also where that fails, the same writes are still to be made.
pub record GivesBelow {R : Type 0} {runs : RunGhosts R} {disk : Ghosts R} (state : R → DiskState)
    (has_read_bytes : R → ℕ → List ℕ → Type 0)
    (read_run_gives : R → ℕ → List (List ℕ) → Result (Unit {0}) DiskFault → R → Type 0)
    (old : Buffered R runs disk) (sector : ℕ) (bytes : List ℕ)
    (result : Result (Unit {0}) DiskFault) (new : Buffered R runs disk) : Type 0 where
  pub given : OnOk result (IsHeldBack old sector bytes
      ⊎ ∥ has_read_bytes (below new) sector bytes ∥₁)
  pub asked : (below new ≡ below old)
      ⊎ AsksAhead state read_run_gives (below old) sector result (below new)
  pub held : StaysHeldBack old new

-- A write of these bytes is held back. Where it can wait with those that are, the other one has no
-- call; else these are written first, as one. Where that fails, none is held back any more, nor is
-- this one.
pub record HoldsBack {R : Type 0} {runs : RunGhosts R} {disk : Ghosts R} (state : R → DiskState)
    (old : Buffered R runs disk) (sector : ℕ) (bytes : List ℕ)
    (result : Result (Unit {0}) DiskFault) (new : Buffered R runs disk) : Type 0 where
  pub waits : CanWait old sector → Announces sector (state (below old)) (state (below new))
  pub held : OnOk result (CanWait old sector → held_back new ≡ held_back old ++ bytes ∷ [])
  pub made : ¬ CanWait old sector → MakesCalls result (run_calls old.from (held_back old))
      (state (below old)) (state (below new))
  pub alone : OnOk result (¬ CanWait old sector → held_back new ≡ bytes ∷ [])
  pub failed : OnErr result (held_back new ≡ [])

-- What is held back is written as one, if any is, and then comes a sync. None is held back after it,
-- also where one of these fails.
pub record SyncsBelow {R : Type 0} {runs : RunGhosts R} {disk : Ghosts R} (state : R → DiskState)
    (old : Buffered R runs disk) (result : Result (Unit {0}) DiskFault)
    (new : Buffered R runs disk) : Type 0 where
  pub made : MakesCalls result (run_calls old.from (held_back old) ++ Sync ∷ [])
      (state (below old)) (state (below new))
  pub none_held : held_back new ≡ []
