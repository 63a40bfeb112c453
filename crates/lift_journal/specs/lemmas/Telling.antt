-- Which calls of a run fail, run after run.
use Rattle.std.proofs.Common.{◌≡◌, ◌⊎◌, ◌<◌, ◌+◌, inl, inr, ⊎_elim, ℕ, true, refl, sym, ◌∙◌, subst}
use Rattle.std.proofs.Common.{arith, Result, Ok, Err}
use Rattle.std.specs.Prelude.{IsErrAnd}
use Rattle.std.proofs.lemmas.Result.{err_from_is_err_and}
use Rattle.std.proofs.lemmas.Bool.{cases_lt}
use Rattle.lift_disk.specs.Disk.{DiskState, GoesOn, RunsOn, FailsAsArmed, FailsAsArmedOrShort}
use Rattle.lift_disk.specs.Disk.{IsAccess}
use Rattle.lift_disk.specs.Trace.{Access}
use Rattle.lift_disk.specs.Trace.Access.{Read, Write, Sync}
use Rattle.lift_journal.specs.declared.fault.JournalFault.{JournalFault}
use Rattle.lift_journal.specs.declared.fault.JournalFault.TheVariants.{Disk, NotFormatted, Damaged}
use Rattle.lift_journal.specs.declared.fault.JournalFault.TheVariants.{Full, Broken}
use Rattle.lift_journal.specs.Armed.{NoneFails, LastFails, EndsAtFirstFailure, FailsBy}

-- no call was made
pub none_made : (disk : DiskState) → NoneFails disk disk
none_made disk = record {
  armed = λ _ call more few. absurd (omega (arith, more, few));
  short = refl;
}

-- one call
pub one_passes : (old new : DiskState) → GoesOn old new
    → (old.is_inert → ¬ old.fails_at (old.calls + 1)) → new.is_short ≡ old.is_short
    → NoneFails old new
one_passes old new goes_on armed short = record {
  armed = λ inert call more few.
      let same : old.calls + 1 ≡ call = omega (arith, goes_on.calls, more, few) in
      subst (λ n. ¬ old.fails_at n) same (armed inert);
  short = short;
}

pub one_fails : (old new : DiskState) → GoesOn old new
    → (old.is_inert → old.fails_at (old.calls + 1) × (new.is_short ≡ old.is_short)
    ⊎ ¬ old.fails_at (old.calls + 1) × (new.is_short ≡ true))
    → (old.is_short ≡ true → new.is_short ≡ true) → LastFails old new
one_fails old new goes_on last short = record {
  some = omega (arith, goes_on.calls);
  before = λ _ call more few. absurd (omega (arith, goes_on.calls, more, few));
  last = λ inert. subst (λ n. old.fails_at n × (new.is_short ≡ old.is_short)
      ⊎ ¬ old.fails_at n × (new.is_short ≡ true)) (sym goes_on.calls) (last inert);
  short = short;
}

-- a run after a run in which none failed
module _ (old mid new : DiskState) (runs : RunsOn old mid) (first : NoneFails old mid) where
  not_told : (call : ℕ) → old.is_inert → old.calls < call
      → (mid.is_inert → mid.calls < call → ¬ mid.fails_at call) → ¬ old.fails_at call
  not_told call inert more later fails =
      ⊎_elim (λ behind. later (runs.inert.1 inert) behind ((runs.armed call behind).1 fails))
      (λ early. first.armed inert call more early fails) (cases_lt mid.calls call)

  pub passes_then : NoneFails mid new → NoneFails old new
  passes_then second = record {
    armed = λ inert call more few.
        not_told call inert more (λ inert_mid behind. second.armed inert_mid call behind few);
    short = second.short ∙ first.short;
  }

  pub fails_then : LastFails mid new → LastFails old new
  fails_then second = record {
    some = omega (arith, runs.calls, second.some);
    before = λ inert call more few.
        not_told call inert more (λ inert_mid behind. second.before inert_mid call behind few);
    last = λ inert. ⊎_elim
        (λ armed. inl ((runs.armed new.calls second.some).0 armed.0, armed.1 ∙ first.short))
        (λ wants. inr ((λ fails. wants.0 ((runs.armed new.calls second.some).1 fails)), wants.1))
        (second.last (runs.inert.1 inert));
    short = λ was. second.short (first.short ∙ was);
  }

  pub ends_then : {T E : Type 0} (r : Result T E) → EndsAtFirstFailure r mid new
      → EndsAtFirstFailure r old new
  ends_then (Ok x) second = record { ok = passes_then second.ok; err = tt }
  ends_then (Err e) second = record { ok = tt; err = fails_then second.err }

  pub fault_then : (fault : JournalFault) → FailsBy fault mid new → FailsBy fault old new
  fault_then Disk second = fails_then second
  fault_then NotFormatted second = passes_then second
  fault_then (Damaged sector) second = passes_then second
  fault_then Full second = passes_then second
  fault_then Broken second = passes_then second

-- a write or a sync
call_ends : {T E : Type 0} (r : Result T E) (old new : DiskState) → GoesOn old new
    → FailsAsArmedOrShort r old new → EndsAtFirstFailure r old new
call_ends (Ok x) old new goes_on armed =
    record { ok = one_passes old new goes_on armed.ok armed.same; err = tt }
call_ends (Err e) old new goes_on armed =
    record { ok = tt; err = one_fails old new goes_on armed.err armed.short }

-- a read
read_ends : {T E : Type 0} (r : Result T E) (old new : DiskState) → GoesOn old new
    → FailsAsArmed r old new → EndsAtFirstFailure r old new
read_ends (Ok x) old new goes_on armed =
    record { ok = one_passes old new goes_on armed.ok armed.short; err = tt }
read_ends (Err e) old new goes_on armed =
    record {
      ok = tt;
      err = one_fails old new goes_on (λ inert.
          inl (armed.err inert, armed.short)) (λ was. armed.short ∙ was);
    }

-- one call
pub access_ends : {T E : Type 0} (r : Result T E) (call : Access) (old new : DiskState)
    → IsAccess r call old new → EndsAtFirstFailure r old new
access_ends r (Read sector) old new access = read_ends r old new access.goes_on access.armed
access_ends r (Write sector bytes) old new access =
    call_ends r old new access.goes_on access.armed
access_ends r Sync old new access = call_ends r old new access.goes_on access.armed

-- a call that failed, whose fault is answered
pub err_ends : {T E : Type 0} (Q : E → Type 0) (r : Result T E) (old new : DiskState)
    → IsErrAnd r Q → LastFails old new → EndsAtFirstFailure r old new
err_ends Q r old new is fails =
    let fault = err_from_is_err_and r is in
    record { ok = rw fault.1 tt; err = rw fault.1 fails }
