-- What an opening says of its device, from its steps.
use Rattle.std.proofs.Common.{◌≡◌, refl, sym, subst, ◌∙◌, arith}
use Rattle.lift_base.specs.declared.history.Shape.{Shape}
use Rattle.lift_disk.specs.Disk.{DiskState, Image, IsSynced, MayLeave}
use Rattle.lift_journal.specs.declared.fault.JournalFault.{JournalFault}
use Rattle.lift_journal.specs.declared.fault.JournalFault.TheVariants.{Disk, NotFormatted, Damaged, Full, Broken}
use Rattle.lift_journal.specs.ChainStep.{IsOfStamp}
use Rattle.lift_journal.specs.Layout.{IsStamped}
use Rattle.lift_journal.specs.Steps.{HasItsCause, ReadsOnly, ReadsWell, IsSyncedAt}
use Rattle.lift_journal.specs.Opening.{RefusedFor}

module _ (fault : JournalFault) (old mid new : DiskState) (only : ReadsOnly old mid) (failures : mid.failures ≡ old.failures) (synced : old.is_honest → IsSynced mid) (cause : HasItsCause fault mid new) where
  -- what is read at the end
  settled : ReadsWell mid new → old.is_honest → IsSyncedAt mid.image new
  settled well honest = well.kept (only.runs.honest.1 honest) (synced honest)

  seen : ReadsWell mid new → old.is_honest → MayLeave old new.image
  seen well honest = subst (λ (l : Image). MayLeave old l) (sym (settled well honest).same) (only.touched.within honest)

  -- it lacks a stamp
  pub refused_stamp : IsOfStamp fault → (fault ≡ NotFormatted → mid.is_honest → IsSynced mid → (shape : Shape) → IsStamped shape mid.image → ⊥) → RefusedFor fault old new
  refused_stamp is none = by_fault fault refl cause is
    where
      by_fault : (f : JournalFault) → fault ≡ f → HasItsCause f mid new → IsOfStamp f → RefusedFor f old new
      by_fault Disk same cause is = omega (arith, cause.failures, failures)
      by_fault NotFormatted same cause is = (cause.failures ∙ failures, λ honest. ((settled cause honest).synced, seen cause honest, λ shape stamped. none same (only.runs.honest.1 honest) (synced honest) shape (subst (λ (l : Image). IsStamped shape l) (settled cause honest).same stamped)))
      by_fault (Damaged sector) same cause is = absurd is
      by_fault Full same cause is = absurd is
      by_fault Broken same cause is = absurd is
