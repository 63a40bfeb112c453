-- How a run of device calls goes on.
use Rattle.std.proofs.Common.{◌≡◌, ◌↔◌, ◌<◌, inl, inr, ⊎_elim, ℕ, length, slice_get, refl, sym, ◌∙◌}
use Rattle.std.proofs.Common.{subst, ap, arith, Result, Ok, Err, OnOk, OnErr}
use Rattle.lift_disk.specs.Disk.{DiskState, Image, ChangesWithin, MayLeave, GoesOn, RunsOn}
use Rattle.lift_disk.specs.Disk.{CountsFault, HasCause, LeavesAsBefore, SavesAll}
use Rattle.lift_disk.specs.Disk.{IsFilled, IsUnchanged, Touches, TouchesNothing, LeavesOnly}
use Rattle.lift_disk.specs.Disk.{LeavesNow, LooseWithin, TouchesOnly, LeavesNoOther}

-- nothing has changed
pub changes_nothing : (changed : ℕ → Type 0) (image : Image) → ChangesWithin changed image image
changes_nothing changed image = record { size = refl; others = λ i _. refl }

-- a change within these sectors is one within more
pub changes_more : (changed more : ℕ → Type 0) (old new : Image) → ((i : ℕ) → changed i → more i)
    → ChangesWithin changed old new → ChangesWithin more old new
changes_more changed more old new each within =
    record { size = within.size; others = λ i other. within.others i (λ it. other (each i it)) }

-- a change after a change
pub changes_twice : (changed : ℕ → Type 0) (old mid new : Image) → ChangesWithin changed old mid
    → ChangesWithin changed mid new → ChangesWithin changed old new
changes_twice changed old mid new first second = record {
  size = second.size ∙ first.size;
  others = λ i other. second.others i other ∙ first.others i other;
}

-- two changes of the same differ within these sectors
pub changes_both : (changed : ℕ → Type 0) (old one other : Image) → ChangesWithin changed old one
    → ChangesWithin changed old other → ChangesWithin changed one other
changes_both changed old one other first second =
    record {
      size = second.size ∙ sym first.size;
      others = λ i not.
          second.others i not ∙ sym (first.others i not);
    }

-- no call was made
pub runs_none : (disk : DiskState) → RunsOn disk disk
runs_none disk = record {
  size = refl;
  calls = omega arith;
  failures = omega arith;
  honest = (λ h. h, λ h. h);
  inert = (λ h. h, λ h. h);
  armed = λ call later. (λ h. h, λ h. h);
}

-- one call
pub runs_call : (old new : DiskState) → GoesOn old new → RunsOn old new
runs_call old new goes_on = record {
  size = goes_on.size;
  calls = omega (arith, goes_on.calls);
  failures = goes_on.failures;
  honest = goes_on.honest;
  inert = goes_on.inert;
  armed = goes_on.armed;
}

-- a fault is answered exactly where one failure more is counted
pub cause_of : {T E : Type 0} (r : Result T E) (old new : DiskState) → CountsFault r old new
    → HasCause r old new
cause_of (Ok x) old new fault = record { ok = fault.ok; err = tt }
cause_of (Err e) old new fault = record { ok = tt; err = omega (arith, fault.err) }

-- a sync touches nothing, also a failed one
pub sync_touches : {T E : Type 0} (r : Result T E) (old new : DiskState)
    → OnOk r (old.is_honest → SavesAll old new) → OnErr r (LeavesAsBefore old new) → old.is_honest
    → TouchesNothing old new
sync_touches (Ok x) old new saves leaves honest = (saves honest).touched
sync_touches (Err e) old new saves leaves honest = leaves.touched honest

-- one run after another
pub runs_then : (old mid new : DiskState) → RunsOn old mid → RunsOn mid new → RunsOn old new
runs_then old mid new first second = record {
  size = second.size ∙ first.size;
  calls = omega (arith, first.calls, second.calls);
  failures = omega (arith, first.failures, second.failures);
  honest = (λ h. first.honest.0 (second.honest.0 h), λ h. second.honest.1 (first.honest.1 h));
  inert = (λ h. first.inert.0 (second.inert.0 h), λ h. second.inert.1 (first.inert.1 h));
  armed = λ call later.
      let early : mid.calls < call = omega (arith, second.calls, later) in (
        λ h. (first.armed call early).0 ((second.armed call later).0 h),
        λ h.
            (second.armed call later).1 ((first.armed call early).1 h),
      );
}

-- a filled image is one that a crash may leave
pub filled_left : (byte : ℕ) (disk : DiskState) (left : Image) → IsFilled byte disk left
    → MayLeave disk left
filled_left byte disk left filled = record { size = filled.size; others = filled.others }

-- what holds of all that a crash may leave of a device holds where nothing was changed
pub unchanged_leaves : (old new : DiskState) (P : Image → Type 0) → IsUnchanged old new
    → LeavesNow old P → LeavesNow new P
unchanged_leaves old new P same leaves honest left is = leaves (same.honest.0 honest) left (record {
  size = is.size ∙ ap length same.image;
  others = λ i not. is.others i (λ loose. not ((same.loose i).0 loose)) ∙ ap (λ (image : Image).
      slice_get image i) same.image;
})

-- more images have a weaker fact
pub leaves_weaker : (old new : DiskState) (P Q : Image → Type 0)
    → (old.is_honest → (left : Image) → P left → Q left) → LeavesOnly old new P
    → LeavesOnly old new Q
leaves_weaker old new P Q weaker leaves = record {
  honest = leaves.honest;
  later = leaves.later;
  each = λ honest left is. weaker honest left (leaves.each honest left is);
  before = λ honest t left le is.
      ⊎_elim (λ was. inl was) (λ has.
      inr (weaker honest left has)) (leaves.before honest t left le is);
}

-- one run after another
pub leaves_then : (old mid new : DiskState) (P : Image → Type 0) → LeavesOnly old mid P
    → LeavesOnly mid new P → LeavesOnly old new P
leaves_then old mid new P first second = record {
  honest = (λ h. first.honest.0 (second.honest.0 h), λ h. second.honest.1 (first.honest.1 h));
  later = λ honest. omega (arith, first.later honest, second.later (first.honest.1 honest));
  each = λ honest left is.
      ⊎_elim (first.each honest left) (λ has.
      has) (second.before (first.honest.1 honest) old.moment left (first.later honest) is);
  before = λ honest t left le is.
      ⊎_elim (first.before honest t left le) (λ has.
      inr has) (second.before (first.honest.1 honest) t left
      (omega (arith, first.later honest)) is);
}

-- one call
pub leaves_call : (old new : DiskState) (P : Image → Type 0) → GoesOn old new
    → (old.is_honest → (left : Image) → old.left_since old.moment left → P left)
    → (old.is_honest → (left : Image) → MayLeave new left → P left) → LeavesOnly old new P
leaves_call old new P goes_on before after = record {
  honest = goes_on.honest;
  later = λ honest. (goes_on.time honest).later;
  each = λ honest left is.
      ⊎_elim (before honest left) (after honest left)
      ((goes_on.time honest).nothing_else old.moment left (omega arith) is);
  before = λ honest t left le is.
      ⊎_elim (λ was. inl was) (λ now.
      inr (after honest left now)) ((goes_on.time honest).nothing_else t left le is);
}

module _ (changed : ℕ → Type 0) where
  -- what a crash after it may leave
  left_within : (old new : DiskState) (left : Image) → ((i : ℕ) → new.is_loose i → changed i)
      → ChangesWithin changed old.image new.image → MayLeave new left
      → ChangesWithin changed old.image left
  left_within old new left loose within now =
      changes_twice changed old.image new.image left within
      (changes_more new.is_loose changed new.image left loose now)

  -- a call that leaves no sector loose but these
  touches_call : (old new : DiskState) → GoesOn old new → LooseWithin changed old
      → LooseWithin changed new → (old.is_honest → ChangesWithin changed old.image new.image)
      → (old.is_honest → (left : Image) → old.left_since old.moment left → MayLeave old left)
      → TouchesOnly changed old new
  touches_call old new goes_on loose_before loose within only_now = record {
    size = goes_on.size;
    moments = leaves_call old new (ChangesWithin changed old.image) goes_on
        (λ honest left is. changes_more old.is_loose changed old.image left (loose_before honest)
        (only_now honest left is))
        (λ honest left now. left_within old new left (loose (goes_on.honest.1 honest))
        (within honest) now);
    loose = loose;
    within = within;
  }

  -- a write of one of them, also a failed one
  pub touches_write : (old new : DiskState) (sector : ℕ) → GoesOn old new
      → (old.is_honest → Touches sector old new) → changed sector → LooseWithin changed old
      → (old.is_honest → (left : Image) → old.left_since old.moment left → MayLeave old left)
      → TouchesOnly changed old new
  touches_write old new sector goes_on touched one loose only_now =
      let loose_now : LooseWithin changed new = λ honest i is.
      let was = goes_on.honest.0 honest in
      ⊎_elim (loose was i) (λ (same : i ≡ sector).
      subst changed (sym same) one) (((touched was).loose i).0 is) in
      touches_call old new goes_on loose loose_now
      (λ honest. changes_more new.is_loose changed old.image new.image
      (loose_now (goes_on.honest.1 honest)) (touched honest).within) only_now

  -- a sync or a read, also a failed one
  pub touches_rest : (old new : DiskState) → GoesOn old new
      → (old.is_honest → TouchesNothing old new) → LooseWithin changed old
      → (old.is_honest → (left : Image) → old.left_since old.moment left → MayLeave old left)
      → TouchesOnly changed old new
  touches_rest old new goes_on touched loose only_now =
      touches_call old new goes_on loose
      (λ honest i is. loose (goes_on.honest.0 honest) i
      ((touched (goes_on.honest.0 honest)).loose i is))
      (λ honest. changes_more old.is_loose changed old.image new.image (loose honest)
      (touched honest).within) only_now

  -- one run after another
  pub touches_then : (old mid new : DiskState) → TouchesOnly changed old mid
      → TouchesOnly changed mid new → TouchesOnly changed old new
  touches_then old mid new first second = record {
    size = second.size ∙ first.size;
    moments = leaves_then old mid new (ChangesWithin changed old.image) first.moments
        (leaves_weaker mid new (ChangesWithin changed mid.image) (ChangesWithin changed old.image)
        (λ honest left is. changes_twice changed old.image mid.image left
        (first.within (first.moments.honest.0 honest)) is) second.moments);
    loose = second.loose;
    within = λ honest. changes_twice changed old.image mid.image new.image (first.within honest)
        (second.within (first.moments.honest.1 honest));
  }

-- before the first call
pub touches_none : (changed : ℕ → Type 0) (disk : DiskState) → LooseWithin changed disk
    → (disk.is_honest → (left : Image) → disk.left_since disk.moment left → MayLeave disk left)
    → TouchesOnly changed disk disk
touches_none changed disk loose only_now = record {
  size = refl;
  moments = record {
    honest = (λ h. h, λ h. h);
    later = λ _. omega arith;
    each = λ honest left is.
        changes_more disk.is_loose changed disk.image left (loose honest) (only_now honest left is);
    before = λ honest t left le is. inl is;
  };
  loose = loose;
  within = λ _. changes_nothing changed disk.image;
}

-- no sector but these was touched, so no sector but more
pub touches_weaker : (changed more : ℕ → Type 0) (old new : DiskState)
    → ((i : ℕ) → changed i → more i) → TouchesOnly changed old new → TouchesOnly more old new
touches_weaker changed more old new each touched = record {
  size = touched.size;
  moments = leaves_weaker old new (ChangesWithin changed old.image) (ChangesWithin more old.image)
      (λ _ left is. changes_more changed more old.image left each is) touched.moments;
  loose = λ honest i is. each i (touched.loose honest i is);
  within = λ honest. changes_more changed more old.image new.image each (touched.within honest);
}

module _ (changed : ℕ → Type 0) (old mid new : DiskState) (so_far : TouchesOnly changed old mid)
    (only_now : LeavesNoOther mid) (goes_on : GoesOn mid new) where
  -- and a write of one of them, also a failed one
  pub touches_then_write : (sector : ℕ) → (mid.is_honest → Touches sector mid new) → changed sector
      → TouchesOnly changed old new
  touches_then_write sector touched one =
      touches_then changed old mid new so_far
      (touches_write changed mid new sector goes_on touched one so_far.loose only_now)

  -- and a sync or a read, also a failed one
  pub touches_then_rest : (mid.is_honest → TouchesNothing mid new) → TouchesOnly changed old new
  touches_then_rest touched =
      touches_then changed old mid new so_far
      (touches_rest changed mid new goes_on touched so_far.loose only_now)

-- It is enough to show it of an honest device.
pub leaves_if_honest : (old new : DiskState) (P : Image → Type 0) → (new.is_honest ↔ old.is_honest)
    → (old.is_honest → LeavesOnly old new P) → LeavesOnly old new P
leaves_if_honest old new P same leaves = record {
  honest = same;
  later = λ honest. (leaves honest).later honest;
  each = λ honest left is. (leaves honest).each honest left is;
  before = λ honest t left le is. (leaves honest).before honest t left le is;
}

-- no call was made
pub leaves_none : (disk : DiskState) (P : Image → Type 0) → LeavesNoOther disk → LeavesNow disk P
    → LeavesOnly disk disk P
leaves_none disk P only_now now = record {
  honest = (λ h. h, λ h. h);
  later = λ _. omega arith;
  each = λ honest left is. now honest left (only_now honest left is);
  before = λ honest t left le is. inl is;
}

-- the same, where it takes an honest device to see that more sectors are named
pub touches_weaker_honest : (changed more : ℕ → Type 0) (old new : DiskState)
    → (old.is_honest → (i : ℕ) → changed i → more i) → TouchesOnly changed old new
    → TouchesOnly more old new
touches_weaker_honest changed more old new each touched = record {
  size = touched.size;
  moments = leaves_weaker old new (ChangesWithin changed old.image) (ChangesWithin more old.image)
      (λ honest left is. changes_more changed more old.image left (each honest) is) touched.moments;
  loose = λ honest i is. each (touched.moments.honest.0 honest) i (touched.loose honest i is);
  within = λ honest. changes_more changed more old.image new.image (each honest)
      (touched.within honest);
}

-- runs that touch nothing, one after another
pub touches_nothing_then : (old mid new : DiskState) → TouchesOnly old.is_loose old mid
    → TouchesOnly mid.is_loose mid new → TouchesOnly old.is_loose old new
touches_nothing_then old mid new first second =
    touches_then old.is_loose old mid new first
    (touches_weaker_honest mid.is_loose old.is_loose mid new (λ honest i is.
    first.loose honest i is) second)
