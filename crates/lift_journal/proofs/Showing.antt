-- What a refused opening has shown, from its steps.
use Rattle.std.proofs.Common.{◌≡◌, ◌⊎◌, inl, inr, ◌+◌, ◌++◌, [], ◌∷◌, ℕ, List, refl, ◌∙◌, subst, arith}
use Rattle.lift_base.specs.declared.history.Record.{Record}
use Rattle.lift_base.specs.declared.history.Shape.{Shape}
use Rattle.lift_disk.specs.Disk.{DiskState, Image, IsSynced}
use Rattle.lift_disk.specs.Trace.Access.{Read, Sync}
use Rattle.lift_journal.specs.declared.fault.JournalFault.{JournalFault}
use Rattle.lift_journal.specs.declared.fault.JournalFault.TheVariants.{Disk, NotFormatted, Damaged, Full, Broken}
use Rattle.lift_journal.specs.RefusedOpening.{StampAfter}
use Rattle.lift_journal.specs.ChainStep.{IsOfChain}
use Rattle.lift_journal.specs.Layout.{IsStamped, start_of}
use Rattle.lift_journal.specs.Steps.{ReadsOnly}
use Rattle.lift_journal.specs.Visits.{TakesBefore, TakesInHalf, ShownBefore}
use Rattle.lift_journal.proofs.Ending.{image_stays}
use Rattle.lift_journal.proofs.Visiting.{before_then}

module _ {V : Type 0} (takes : V → List Record → V → Type 0) where
  -- it came to no half
  pub stamp_shown : (fault : JournalFault) (old mid new : DiskState) (v : V) → mid.trace ≡ old.trace ++ Sync ∷ [] → StampAfter fault mid new → ShownBefore takes fault old new v v
  stamp_shown Disk old mid new v was behind = inl (record { count = 1; some_left = omega arith; made = behind ∙ was }, refl)
  stamp_shown NotFormatted old mid new v was behind = refl
  stamp_shown (Damaged sector) old mid new v was behind = absurd behind
  stamp_shown Full old mid new v was behind = absurd behind
  stamp_shown Broken old mid new v was behind = absurd behind

  in_half : (fault : JournalFault) (old mid new : DiskState) (shape : Shape) (v w : V) → mid.trace ≡ old.trace ++ Sync ∷ Read 1 ∷ [] → ReadsOnly mid new
      → (old.is_honest → mid.is_honest × IsSynced mid × IsStamped shape mid.image)
      → (mid.is_honest → IsSynced mid → TakesBefore takes fault (Read 0 ∷ []) (start_of shape.half mid.image) (start_of shape.half mid.image + shape.half) mid.image mid new v w)
      → TakesInHalf takes fault old new v w
  in_half fault old mid new shape v w was only known taken honest =
      let k = known honest in
      let start : ℕ = start_of shape.half mid.image in
      let same : mid.image ≡ new.image = image_stays mid new only k.0 k.1 in (
        shape,
        subst (λ (l : Image). IsStamped shape l) same k.2,
        subst (λ (l : Image). TakesBefore takes fault (Sync ∷ Read 1 ∷ Read 0 ∷ []) (start_of shape.half l) (start_of shape.half l + shape.half) l old new v w) same
            (before_then takes fault (Sync ∷ Read 1 ∷ []) (Read 0 ∷ []) start (start + shape.half) mid.image mid.image old mid new v w was refl (taken k.0 k.1)),
      )

  -- it came to the half, or not
  pub half_shown : (fault : JournalFault) (old mid new : DiskState) (shape : Shape) (v w : V) → IsOfChain fault → mid.trace ≡ old.trace ++ Sync ∷ Read 1 ∷ [] → ReadsOnly mid new
      → (old.is_honest → mid.is_honest × IsSynced mid × IsStamped shape mid.image)
      → (fault ≡ Disk) × (new.trace ≡ mid.trace) × (w ≡ v)
      ⊎ (mid.is_honest → IsSynced mid → TakesBefore takes fault (Read 0 ∷ []) (start_of shape.half mid.image) (start_of shape.half mid.image + shape.half) mid.image mid new v w)
      → ShownBefore takes fault old new v w
  half_shown Disk old mid new shape v w of was only known (inl none) = inl (record { count = 2; some_left = omega arith; made = none.1 ∙ was }, none.2)
  half_shown Disk old mid new shape v w of was only known (inr taken) = inr (in_half Disk old mid new shape v w was only known taken)
  half_shown (Damaged sector) old mid new shape v w of was only known (inl none) = absurd (cc none.0)
  half_shown (Damaged sector) old mid new shape v w of was only known (inr taken) = in_half (Damaged sector) old mid new shape v w was only known taken
  half_shown NotFormatted old mid new shape v w of was only known half = absurd of
  half_shown Full old mid new shape v w of was only known half = absurd of
  half_shown Broken old mid new shape v w of was only known half = absurd of
