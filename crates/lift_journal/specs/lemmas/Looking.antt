-- Calls that write nothing, one after another.
use Rattle.std.proofs.Common.{◌≡◌, inl, inr, ⊎_elim, refl, sym, ◌∙◌, arith, Result, Ok, Err, OnOk}
use Rattle.std.proofs.Common.{OnErr}
use Rattle.std.specs.Prelude.{IfErr, true, false}
use Rattle.std.specs.Result.{is_err}
use Rattle.lift_disk.specs.Disk.{DiskState, HasCause, IsSynced, ReadsAsBefore, LeavesAsBefore, RunsOn}
use Rattle.lift_disk.specs.Disk.{LeavesNoOther, SavesAll}
use Rattle.lift_disk.specs.lemmas.Moments.{runs_none, runs_then, touches_none, touches_nothing_then}
use Rattle.lift_journal.specs.declared.fault.JournalFault.{JournalFault}
use Rattle.lift_journal.specs.declared.fault.JournalFault.TheVariants.{Disk, NotFormatted, Damaged}
use Rattle.lift_journal.specs.declared.fault.JournalFault.TheVariants.{Full, Broken}
use Rattle.lift_journal.specs.Steps.{IsSyncedAt, SavesAsRead, ReadsOnly, ReadsWell, HasFailed}
use Rattle.lift_journal.specs.Steps.{Looks, Examines, HasItsCause}
use Rattle.lift_journal.specs.Armed.{EndsAtFirstFailure, FailsBy}
use Rattle.lift_journal.specs.lemmas.Telling.{none_made, passes_then, fails_then}

pub keeps_then : (old mid new : DiskState) → RunsOn old mid → ReadsAsBefore old mid
    → ReadsAsBefore mid new → ReadsAsBefore old new
keeps_then old mid new runs first second honest inert =
    second (runs.honest.1 honest) (runs.inert.1 inert) ∙ first honest inert

pub saves_then : (old mid new : DiskState) → RunsOn old mid → ReadsAsBefore mid new
    → SavesAsRead old mid → SavesAsRead mid new → SavesAsRead old new
saves_then old mid new runs image first second honest inert =
    let honest_mid = runs.honest.1 honest in
    let inert_mid = runs.inert.1 inert in
    ⊎_elim (λ same. ⊎_elim (λ was. inl (same ∙ was)) (λ read.
    inr (same ∙ read ∙ sym (image honest_mid inert_mid))) (first honest inert))
    (λ read. inr read) (second honest_mid inert_mid)

-- a sync, also a failed one
pub saves_sync : {T E : Type 0} (r : Result T E) (old new : DiskState)
    → OnOk r (old.is_honest → SavesAll old new) → OnErr r (LeavesAsBefore old new)
    → SavesAsRead old new
saves_sync (Ok x) old new saves leaves honest inert = inr (saves honest).saved
saves_sync (Err e) old new saves leaves honest inert = inl (leaves.kept honest)

pub reads_none : (disk : DiskState) → LeavesNoOther disk → ReadsOnly disk disk
reads_none disk only_now = record {
  runs = runs_none disk;
  writes = refl;
  image = λ _ _. refl;
  saved = λ _ _. inl refl;
  touched = touches_none disk.is_loose disk (λ _ i is. is) only_now;
}

pub reads_then : (old mid new : DiskState) → ReadsOnly old mid → ReadsOnly mid new
    → ReadsOnly old new
reads_then old mid new first second = record {
  runs = runs_then old mid new first.runs second.runs;
  writes = second.writes ∙ first.writes;
  image = keeps_then old mid new first.runs first.image second.image;
  saved = saves_then old mid new first.runs second.image first.saved second.saved;
  touched = touches_nothing_then old mid new first.touched second.touched;
}

pub well_none : (disk : DiskState) → ReadsWell disk disk
well_none disk = record {
  failures = refl;
  armed = none_made disk;
  kept = λ honest synced.
      record { synced = synced; same = refl };
}

pub well_then : (old mid new : DiskState) → ReadsOnly old mid → ReadsWell old mid
    → ReadsWell mid new → ReadsWell old new
well_then old mid new only first second = record {
  failures = second.failures ∙ first.failures;
  armed = passes_then old mid new only.runs first.armed second.armed;
  kept = λ honest synced.
      let before = first.kept honest synced in
      let after = second.kept (only.runs.honest.1 honest) before.synced in
      record { synced = after.synced; same = after.same ∙ before.same };
}

pub failed_then : (old mid new : DiskState) → ReadsOnly old mid → ReadsWell old mid
    → HasFailed mid new → HasFailed old new
failed_then old mid new only well second = record {
  failures = omega (arith, second.failures, well.failures);
  armed = fails_then old mid new only.runs well.armed second.armed;
}

-- a clause of an answer, weakened
pub ok_weaker : {T E : Type 0} (r : Result T E) (P Q : Type 0) → (P → Q) → OnOk r P → OnOk r Q
ok_weaker (Ok x) P Q f p = f p
ok_weaker (Err e) P Q f p = tt

pub err_weaker : {T E : Type 0} (r : Result T E) (P Q : Type 0) → (P → Q) → OnErr r P → OnErr r Q
err_weaker (Ok x) P Q f p = tt
err_weaker (Err e) P Q f p = f p

-- one call, from what it says
pub looks_by : {T E : Type 0} (r : Result T E) (old new : DiskState) → ReadsOnly old new
    → HasCause r old new → EndsAtFirstFailure r old new
    → OnOk r (old.is_honest → IsSynced old → IsSyncedAt old.image new) → Looks r old new
looks_by (Ok x) old new only cause armed kept =
    record {
      only = only;
      ok = record { failures = cause.ok; armed = armed.ok; kept = kept };
      err = tt;
    }
looks_by (Err e) old new only cause armed kept =
    record { only = only; ok = tt; err = record { failures = cause.err; armed = armed.err } }

pub looks_then : {T E : Type 0} (r : Result T E) (old mid new : DiskState) → ReadsOnly old mid
    → ReadsWell old mid → Looks r mid new → Looks r old new
looks_then r old mid new only well looks = record {
  only = reads_then old mid new only looks.only;
  ok = ok_weaker r (ReadsWell mid new) (ReadsWell old new) (λ w.
      well_then old mid new only well w) looks.ok;
  err = err_weaker r (HasFailed mid new) (HasFailed old new) (λ failed.
      failed_then old mid new only well failed) looks.err;
}

pub cause_then : (fault : JournalFault) (old mid new : DiskState) → ReadsOnly old mid
    → ReadsWell old mid → HasItsCause fault mid new → HasItsCause fault old new
cause_then Disk old mid new only well cause = failed_then old mid new only well cause
cause_then NotFormatted old mid new only well cause = well_then old mid new only well cause
cause_then (Damaged sector) old mid new only well cause = well_then old mid new only well cause
cause_then Full old mid new only well cause = well_then old mid new only well cause
cause_then Broken old mid new only well cause = well_then old mid new only well cause

-- what was told has happened
pub cause_armed : (fault : JournalFault) (old new : DiskState) → HasItsCause fault old new
    → FailsBy fault old new
cause_armed Disk old new cause = cause.armed
cause_armed NotFormatted old new cause = cause.armed
cause_armed (Damaged sector) old new cause = cause.armed
cause_armed Full old new cause = cause.armed
cause_armed Broken old new cause = cause.armed

pub examines_then : {T : Type 0} (r : Result T JournalFault) (old mid new : DiskState)
    → ReadsOnly old mid → ReadsWell old mid → Examines r mid new → Examines r old new
examines_then (Ok x) old mid new only well next =
    record {
      only = reads_then old mid new only next.only;
      ok = well_then old mid new only well next.ok;
      err = tt;
    }
examines_then (Err fault) old mid new only well next =
    record {
      only = reads_then old mid new only next.only;
      ok = tt;
      err = cause_then fault old mid new only well next.err;
    }

-- a fault's clause, weakened
pub if_err_weaker : {T : Type 0} (r : Result T JournalFault) (P Q : JournalFault → Type 0)
    → ((fault : JournalFault) → r ≡ Err fault → P fault → Q fault) → IfErr r P → IfErr r Q
if_err_weaker (Ok x) P Q f p = tt
if_err_weaker (Err fault) P Q f p = f fault refl p

pub if_err_both : {T : Type 0} (r : Result T JournalFault) (P Q : JournalFault → Type 0) → IfErr r P
    → IfErr r Q → IfErr r (λ fault. P fault × Q fault)
if_err_both (Ok x) P Q p q = tt
if_err_both (Err fault) P Q p q = (p, q)

-- what stands under `Ok`, where the answer is no error
pub open_ok : {T E : Type 0} (r : Result T E) (P : Type 0) → is_err r ≡ false → OnOk r P → P
open_ok (Ok x) P is p = p
open_ok (Err e) P is p = absurd (cc is)

pub open_err : {T E : Type 0} (r : Result T E) (P : Type 0) → is_err r ≡ true → OnErr r P → P
open_err (Ok x) P is p = absurd (cc is)
open_err (Err e) P is p = p

pub err_any : {T E : Type 0} (r : Result T E) (P : Type 0) → P → OnErr r P
err_any (Ok x) P p = tt
err_any (Err e) P p = p

pub both_on_err : {T E : Type 0} (r : Result T E) (P Q : Type 0) → OnErr r P → OnErr r Q
    → OnErr r (P × Q)
both_on_err (Ok x) P Q p q = tt
both_on_err (Err e) P Q p q = (p, q)
