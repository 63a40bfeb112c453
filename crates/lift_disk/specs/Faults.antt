-- When the devices that can be armed to fail do so. A number of calls left, if it was armed, and how
-- many calls were made.
use Rattle.std.specs.Prelude.{◌≡◌, ◌+◌, ◌-◌, ◌<◌, ◌↔◌, ℕ, Option, Some, None, Bool, IsTrue}
use Rattle.std.proofs.Common.{arith}
use Rattle.lift_disk.specs.Disk.{DiskState}
use Rattle.lift_disk.specs.Outcomes.{state_of}
use Rattle.lift_disk.specs.declared.failing.FailingDisk.{FailingDisk}
use Rattle.lift_disk.specs.declared.rule.Fuse.{Fuse}

-- every call after these
abbrev pub AllAfter : ℕ → ℕ → ℕ → Type 0
AllAfter calls made call = made + calls < call

-- the last one of these alone
abbrev pub OnlyLast : ℕ → ℕ → ℕ → Type 0
OnlyLast calls made call = call ≡ made + calls

-- one call on, with one fewer left if one was, the same later calls fail
abbrev pub CountsDown : (ℕ → ℕ → ℕ → Type 0) → Type 0
CountsDown fails = (left made call : ℕ) → made + 1 < call
    → fails (left - 1) (made + 1) call ↔ fails left made call

pub all_after_counts_down : CountsDown AllAfter
all_after_counts_down left made call later =
    (λ fails. omega (arith, fails, later), λ fails. omega (arith, fails, later))

pub only_last_counts_down : CountsDown OnlyLast
only_last_counts_down left made call later =
    (λ fails. omega (arith, fails, later), λ fails. omega (arith, fails, later))

-- what it was armed to, if it was
abbrev pub IfArmed : (ℕ → ℕ → ℕ → Type 0) → Option ℕ → ℕ → ℕ → Type 0
IfArmed fails None made call = ⊥
IfArmed fails (Some calls) made call = fails calls made call

-- whether the next call is one that fails
abbrev pub IsDue : (ℕ → ℕ → ℕ → Type 0) → Option ℕ → Bool → Type 0
IsDue fails left due = (made : ℕ) → IsTrue due ↔ IfArmed fails left made (made + 1)

-- one call on, the same later calls fail
abbrev pub StaysDue : (ℕ → ℕ → ℕ → Type 0) → Option ℕ → Option ℕ → Type 0
StaysDue fails old new = (made call : ℕ) → made + 1 < call
    → IfArmed fails new (made + 1) call ↔ IfArmed fails old made call

-- the device in memory, with those of its calls to come that fail by this rule
abbrev pub failing_state_of : {R : Type 0} → (ℕ → ℕ → ℕ → Type 0) → FailingDisk R → DiskState
failing_state_of fails d = record (state_of d.inner) {
  fails_at = IfArmed fails d.calls_left
      d.inner.calls.count;
}

-- a `FuseDisk`, because antt has no name for an alias
abbrev pub FusedDisk : Type 0
FusedDisk = FailingDisk Fuse

abbrev pub fuse_state_of : FusedDisk → DiskState
fuse_state_of d = failing_state_of AllAfter d
