-- Which half a checkpoint that fails leaves picked.
use Rattle.std.proofs.Common.{◌≡◌, ◌⊎◌, ◌<◌, ◌≤◌, ◌+◌, ◌==◌, inl, inr, ⊎_elim, refl, ℕ, Bool, true, false, not, cond, List, [], length, slice_get, slice_set, unwrap_or, sym, ◌∙◌, ap, subst, arith}
use Rattle.std.proofs.lemmas.List.{length-set}
use Rattle.lift_base.specs.declared.limits.TheConstants.{LEAST_HALF}
use Rattle.lift_base.specs.declared.history.Shape.{Shape}
use Rattle.lift_disk.specs.Disk.{DiskState, Image, ChangesWithin, IsFilled}
use Rattle.lift_disk.specs.lemmas.History.{set_other}
use Rattle.lift_disk.specs.lemmas.Moments.{changes_more, changes_nothing, changes_twice}
use Rattle.lift_journal.specs.Layout.{Batch, is_marked, sector_at, Picks, start_of, IsSound, Holds, HoldsIn}
use Rattle.lift_journal.specs.Failed.{FailsAtPick, IsFailedCheckpoint}
use Rattle.lift_journal.specs.Steps.{IsInRange}
use Rattle.lift_journal.specs.Switch.{HasWritten, MissesPick, IsFailedWriting}
use Rattle.lift_journal.proofs.Appends.{sector_set}
use Rattle.lift_journal.proofs.FailedAppends.{mark_of, not_mark}
use Rattle.lift_journal.proofs.Switching.{drafting_leaves, switched, unswitched, written_pick}

-- where the other half begins
other_start : (half start was now : ℕ) (c : Bool) → 1 ≤ half → ((was ≡ 2) × (start ≡ half + 2)) ⊎ ((was ≡ half + 2) × (start ≡ 2))
    → was ≡ cond c (half + 2) 2 → now ≡ cond (not c) (half + 2) 2 → now ≡ start
other_start half start was now true some halves old new = ⊎_elim (λ a. omega (arith, some, a.0, a.1, old, new)) (λ b. omega (arith, some, b.0, b.1, old, new)) halves
other_start half start was now false some halves old new = ⊎_elim (λ a. omega (arith, some, a.0, a.1, old, new)) (λ b. omega (arith, some, b.0, b.1, old, new)) halves

-- one of the halves is picked
either_half : (b c : Bool) → (b ≡ c) ⊎ (b ≡ not c)
either_half true true = inl refl
either_half true false = inr refl
either_half false true = inr refl
either_half false false = inl refl

-- by halves, of what is known by the half from before and the other one
module _ (shape : Shape) (X Y : List Batch) (left : Image) where
  in_second : (c : Bool) → (Picks c left → HoldsIn shape c X left) → (Picks (not c) left → HoldsIn shape (not c) Y left) → Picks true left → HoldsIn shape true (cond c X Y) left
  in_second true same other picks = same picks
  in_second false same other picks = other picks

  in_first : (c : Bool) → (Picks c left → HoldsIn shape c X left) → (Picks (not c) left → HoldsIn shape (not c) Y left) → Picks false left → HoldsIn shape false (cond c Y X) left
  in_first true same other picks = other picks
  in_first false same other picks = same picks

-- The image holds the first batches in its half, and the other half begins at start.
module _ (shape : Shape) (is_in_second_half : Bool) (first second : List Batch) (start : ℕ) (old : DiskState) (holds : Holds shape first old.image)
    (halves : ((start_of shape.half old.image ≡ 2) × (start ≡ shape.half + 2)) ⊎ ((start_of shape.half old.image ≡ shape.half + 2) × (start ≡ 2)))
    (sound : IsSound second) (was : Picks is_in_second_half old.image) where
  low : 2 ≤ start
  low = ⊎_elim (λ a. omega (arith, a.1)) (λ b. omega (arith, b.1)) halves

  some : 1 ≤ shape.half
  some = omega (arith, holds.stamped.within.half.0)

  -- while the other half is written
  drafting_in : (left : Image) → ChangesWithin (IsInRange start (start + LEAST_HALF)) old.image left → HoldsIn shape is_in_second_half first left
  drafting_in left within = record {
    holds = drafting_leaves shape first second start old.image holds halves left within;
    picks = ap (λ o. is_marked (unwrap_or o [])) (within.others 0 (λ is. omega (arith, is.0, low))) ∙ was;
  }

  module _ (left : Image) (written : HasWritten start (start + shape.half) second old.image left) where
    in_same : Picks is_in_second_half left → HoldsIn shape is_in_second_half first left
    in_same picks = record {
      holds = unswitched shape first second start old.image holds halves left sound written (ap (λ b. cond b (shape.half + 2) 2) (picks ∙ sym was));
      picks = picks;
    }

    in_other : Picks (not is_in_second_half) left → HoldsIn shape (not is_in_second_half) second left
    in_other picks = record {
      holds = switched shape first second start old.image holds halves left sound written
          (other_start shape.half start (start_of shape.half old.image) (start_of shape.half left) is_in_second_half some halves
          (ap (λ b. cond b (shape.half + 2) 2) was) (ap (λ b. cond b (shape.half + 2) 2) picks));
      picks = picks;
    }

  -- before both halves stand, and once they do, whatever is in the pick then
  pub checkpoint_in : (left : Image) → ChangesWithin (IsInRange start (start + LEAST_HALF)) old.image left ⊎ HasWritten start (start + shape.half) second old.image left
      → HoldsIn shape is_in_second_half first left ⊎ HoldsIn shape (not is_in_second_half) second left
  checkpoint_in left either =
      ⊎_elim (λ within. inl (drafting_in left within))
      (λ written. ⊎_elim (λ same. inl (in_same left written same)) (λ other. inr (in_other left written other)) (either_half (is_marked (sector_at left 0)) is_in_second_half)) either

  module _ (new : DiskState) (made : ℕ) (pick : List ℕ) (picked : is_marked pick ≡ not is_in_second_half) (safe : Image) (written : HasWritten start (start + shape.half) second old.image safe)
      (kept : slice_get safe 0 ≡ slice_get old.image 0) (missed : MissesPick made pick safe old new) where
    safe_picks : Picks is_in_second_half safe
    safe_picks = ap (λ o. is_marked (unwrap_or o [])) kept ∙ was

    inside : 0 < length safe
    inside = omega (arith, written.within.size, holds.stamped.size)

    pick_changes : ChangesWithin (λ i. i ≡ 0) safe (slice_set safe 0 pick)
    pick_changes = record { size = length-set safe 0 pick; others = λ i other. set_other safe 0 i pick other }

    new_changes : ChangesWithin (λ i. i ≡ 0) safe new.image
    new_changes =
        ⊎_elim (λ failed. subst (λ (l : Image). ChangesWithin (λ i. i ≡ 0) safe l) (sym failed.1) (changes_nothing (λ i. i ≡ 0) safe))
        (λ wrote. subst (λ (l : Image). ChangesWithin (λ i. i ≡ 0) safe l) (sym wrote.1) pick_changes) missed.made

    filled_written : (byte : ℕ) (left : Image) → IsFilled byte new left → HasWritten start (start + shape.half) second old.image left
    filled_written byte left filled =
        written_pick start (start + shape.half) second old.image safe left low written
        (changes_twice (λ i. i ≡ 0) safe new.image left new_changes
        (changes_more new.is_loose (λ i. i ≡ 0) new.image left missed.others (record { size = filled.size; others = filled.others })))

    filled_picks : (byte : ℕ) (left : Image) → IsFilled byte new left → is_marked (sector_at left 0) ≡ (byte == 165)
    filled_picks byte left filled =
        ap (λ o. is_marked (unwrap_or o [])) (filled.loose 0 (omega (arith, inside, new_changes.size)) missed.loose) ∙ mark_of byte

    fails_at_pick : FailsAtPick shape is_in_second_half first second made old new
    fails_at_pick = record {
      keeps_old = λ calls. ⊎_elim (λ failed. subst (HoldsIn shape is_in_second_half first) (sym failed.1) (in_same safe written safe_picks)) (λ wrote. absurd (omega (arith, calls, wrote.0))) missed.made;
      keeps_new = λ calls. ⊎_elim (λ failed. absurd (omega (arith, calls, failed.0)))
          (λ wrote. subst (HoldsIn shape (not is_in_second_half) second) (sym wrote.1)
          (in_other (slice_set safe 0 pick) (written_pick start (start + shape.half) second old.image safe (slice_set safe 0 pick) low written pick_changes)
          (ap is_marked (sector_set safe 0 pick inside) ∙ picked))) missed.made;
      loses = subst (HoldsIn shape is_in_second_half first) (sym missed.synced) (in_same safe written safe_picks);
      fills_second = λ left filled. in_second shape first second left is_in_second_half (in_same left (filled_written 165 left filled)) (in_other left (filled_written 165 left filled)) (filled_picks 165 left filled);
      fills_first = λ byte left other filled.
          in_first shape first second left is_in_second_half (in_same left (filled_written byte left filled)) (in_other left (filled_written byte left filled)) (filled_picks byte left filled ∙ not_mark byte other);
    }

  pub checkpoint_fails : (new : DiskState) (sectors : ℕ) (pick : List ℕ) → is_marked pick ≡ not is_in_second_half → IsFailedWriting start (start + shape.half) second sectors pick old new
      → IsFailedCheckpoint shape is_in_second_half first second sectors old new
  checkpoint_fails new sectors pick picked stops = record {
    early = λ few honest left leaves. drafting_in left (stops.early few honest left leaves);
    late = λ more.
        (let found = stops.late more in
        fails_at_pick new (sectors + 2) pick picked found.0 found.1 found.2 found.3);
  }
