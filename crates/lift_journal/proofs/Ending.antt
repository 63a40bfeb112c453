-- What a refused opening has read, from its steps.
use Rattle.std.proofs.Common.{◌≡◌, ◌⊎◌, inl, inr, ⊎_elim, ◌+◌, ◌-◌, ◌++◌, [], ◌∷◌, ℕ, List, sym, ◌∙◌, ap, subst, arith, append_assoc}
use Rattle.lift_disk.specs.Disk.{DiskState, Image, IsSynced}
use Rattle.lift_journal.specs.lemmas.Chains.{all_same}
use Rattle.lift_disk.specs.Trace.{Access}
use Rattle.lift_disk.specs.Trace.Access.{Read, Sync}
use Rattle.lift_journal.specs.declared.fault.JournalFault.{JournalFault}
use Rattle.lift_journal.specs.declared.fault.JournalFault.TheVariants.{Disk, NotFormatted, Damaged, Full, Broken}
use Rattle.lift_journal.specs.Walk.{Reaches, IsDamagedAt}
use Rattle.lift_journal.specs.Steps.{ReadsOnly}
use Rattle.lift_journal.specs.Calls.{reads_from}
use Rattle.lift_journal.specs.RefusedOpening.{IsHalfOf, EndsIn, EndsInHalf, StampAfter, RefusedAfter}

-- other calls stood before
made_then : (old mid new : DiskState) (first before behind : List Access) → mid.trace ≡ old.trace ++ first → new.trace ≡ mid.trace ++ (before ++ behind)
    → new.trace ≡ old.trace ++ ((first ++ before) ++ behind)
made_then old mid new first before behind was is =
    is ∙ ap (λ (l : List Access). l ++ (before ++ behind)) was ∙ append_assoc old.trace first (before ++ behind)
    ∙ ap (λ (l : List Access). old.trace ++ l) (sym (append_assoc first before behind))

pub ends_then : (fault : JournalFault) (first before : List Access) (start end : ℕ) (was is : Type 0) (mid_image image : Image) (old mid new : DiskState)
    → mid.trace ≡ old.trace ++ first → (is → was × (mid_image ≡ image))
    → EndsIn fault before start end was mid_image mid new → EndsIn fault (first ++ before) start end is image old new
ends_then Disk first before start end was is mid_image image old mid new made known ends = record {
  gate = ends.gate;
  more = ends.more;
  low = ends.low;
  few = ends.few;
  inside = ends.inside;
  made = made_then old mid new first before (reads_from start (ends.gate - start + ends.more)) made ends.made;
  reached = λ now.
      let k = known now in
      let there = ends.reached k.0 in
      (there.0, subst (λ (l : Image). Reaches l start end ends.gate there.0) k.1 there.1);
}
ends_then NotFormatted first before start end was is mid_image image old mid new made known ends = absurd ends
ends_then (Damaged sector) first before start end was is mid_image image old mid new made known ends = record {
  more = ends.more;
  low = ends.low;
  few = ends.few;
  inside = ends.inside;
  made = made_then old mid new first before (reads_from start (sector - start + (1 + ends.more))) made ends.made;
  damaged = λ now. (let k = known now in subst (λ (l : Image). IsDamagedAt l start end sector) k.1 (ends.damaged k.0));
}
ends_then Full first before start end was is mid_image image old mid new made known ends = absurd ends
ends_then Broken first before start end was is mid_image image old mid new made known ends = absurd ends

-- the stamp was refused
pub stamp_after : (fault : JournalFault) (old mid new : DiskState) → mid.trace ≡ old.trace ++ Sync ∷ [] → mid.size ≡ old.size → StampAfter fault mid new → RefusedAfter fault old new
stamp_after Disk old mid new was size behind = inl (record { count = 1; some_left = omega arith; made = behind ∙ was })
stamp_after NotFormatted old mid new was size behind =
    ⊎_elim (λ none. inl (omega (arith, none.0, size), none.1 ∙ was))
    (λ one. inr (omega (arith, one.0, size), one.1 ∙ ap (λ (l : List Access). l ++ Read 1 ∷ []) was ∙ append_assoc old.trace (Sync ∷ []) (Read 1 ∷ []))) behind
stamp_after (Damaged sector) old mid new was size behind = absurd behind
stamp_after Full old mid new was size behind = absurd behind
stamp_after Broken old mid new was size behind = absurd behind

-- Nothing was in doubt, so what is read is as it was.
pub image_stays : (old new : DiskState) → ReadsOnly old new → old.is_honest → IsSynced old → old.image ≡ new.image
image_stays old new only honest synced = sym (all_same old.is_loose old.image new.image synced.none_loose (only.touched.within honest))

half_before : (fault : JournalFault) (old mid new : DiskState) → mid.trace ≡ old.trace ++ Sync ∷ Read 1 ∷ [] → mid.size ≡ old.size → ReadsOnly mid new
    → (old.is_honest → mid.is_honest × IsSynced mid) → EndsInHalf fault (Read 0 ∷ []) (mid.is_honest × IsSynced mid) mid.image mid new
    → EndsInHalf fault (Sync ∷ Read 1 ∷ Read 0 ∷ []) old.is_honest new.image old new
half_before fault old mid new was size only known (start, end, half, ends) = (
  start,
  end,
  subst (λ n. IsHalfOf n start end) size half,
  ends_then fault (Sync ∷ Read 1 ∷ []) (Read 0 ∷ []) start end (mid.is_honest × IsSynced mid) old.is_honest mid.image new.image old mid new was
      (λ honest. (let k = known honest in (k, image_stays mid new only k.0 k.1))) ends,
)

-- the pick could not be read, or a half was refused
pub half_after : (fault : JournalFault) (old mid new : DiskState) → mid.trace ≡ old.trace ++ Sync ∷ Read 1 ∷ [] → mid.size ≡ old.size → ReadsOnly mid new
    → (old.is_honest → mid.is_honest × IsSynced mid)
    → (fault ≡ Disk) × (new.trace ≡ mid.trace) ⊎ EndsInHalf fault (Read 0 ∷ []) (mid.is_honest × IsSynced mid) mid.image mid new → RefusedAfter fault old new
half_after Disk old mid new was size only known (inl none) = inl (record { count = 2; some_left = omega arith; made = none.1 ∙ was })
half_after Disk old mid new was size only known (inr ends) = inr (half_before Disk old mid new was size only known ends)
half_after NotFormatted old mid new was size only known (inl none) = absurd (cc none.0)
half_after NotFormatted old mid new was size only known (inr ends) = absurd ends.3
half_after (Damaged sector) old mid new was size only known (inl none) = absurd (cc none.0)
half_after (Damaged sector) old mid new was size only known (inr ends) = half_before (Damaged sector) old mid new was size only known ends
half_after Full old mid new was size only known (inl none) = absurd (cc none.0)
half_after Full old mid new was size only known (inr ends) = absurd ends.3
half_after Broken old mid new was size only known (inl none) = absurd (cc none.0)
half_after Broken old mid new was size only known (inr ends) = absurd ends.3
