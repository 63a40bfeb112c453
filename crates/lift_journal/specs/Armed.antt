-- Which calls of a run fail. An inert device fails those that it was armed to, and those for which
-- memory runs out.
use Rattle.std.specs.Prelude.{◌≡◌, ◌⊎◌, ◌<◌, ◌≤◌, ℕ, true, Result, OnOk, OnErr, IfErr}
use Rattle.lift_disk.specs.Disk.{DiskState}
use Rattle.lift_journal.specs.declared.fault.JournalFault.{JournalFault}
use Rattle.lift_journal.specs.declared.fault.JournalFault.TheVariants.{Disk}

-- no call of the run failed: none was armed to, and none ran out of memory
pub record NoneFails (old new : DiskState) : Type 0 where
  pub armed : old.is_inert → (call : ℕ) → old.calls < call → call ≤ new.calls → ¬ old.fails_at call
  pub short : new.is_short ≡ old.is_short

-- The last call of the run failed: it was armed to, or the device is short from it on. No call
-- before it was armed to.
pub record LastFails (old new : DiskState) : Type 0 where
  pub some : old.calls < new.calls
  pub before : old.is_inert → (call : ℕ) → old.calls < call → call < new.calls → ¬ old.fails_at call
  pub last : old.is_inert → old.fails_at new.calls × (new.is_short ≡ old.is_short)
      ⊎ ¬ old.fails_at new.calls × (new.is_short ≡ true)
  pub short : old.is_short ≡ true → new.is_short ≡ true

-- a run that stops at the first call that fails
pub record EndsAtFirstFailure {T E : Type 0} (result : Result T E) (old new : DiskState)
    : Type 0 where
  pub ok : OnOk result (NoneFails old new)
  pub err : OnErr result (LastFails old new)

-- the same by the fault that is answered: it is of the device just where a call failed
abbrev pub FailsBy : JournalFault → DiskState → DiskState → Type 0
FailsBy Disk old new = LastFails old new
FailsBy _ old new = NoneFails old new

-- a call of the journal, whose run stops at the first call of the device that fails
pub record AnswersAsArmed {T : Type 0} (result : Result T JournalFault)
    (old new : DiskState) : Type 0 where
  pub ok : OnOk result (NoneFails old new)
  pub err : IfErr result (λ fault. FailsBy fault old new)
