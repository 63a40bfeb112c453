-- The half that isn't picked is written, and then picked.
use Rattle.std.proofs.Common.{◌≡◌, ◌⊎◌, ◌<◌, ◌≤◌, ◌+◌, ◌-◌, inl, inr, ⊎_elim, ℕ, List, length, take, drop, slice_set, sym, ◌∙◌, ap, subst, arith}
use Rattle.std.proofs.lemmas.List.{take-set-le, length-set}
use Rattle.lift_base.specs.declared.limits.TheConstants.{LEAST_HALF}
use Rattle.lift_base.specs.declared.history.Shape.{Shape}
use Rattle.lift_disk.specs.Disk.{DiskState, Image, ChangesWithin, LeavesOnly, TouchesOnly, IsWhole}
use Rattle.lift_disk.specs.lemmas.Moments.{leaves_weaker, leaves_then, changes_nothing, changes_twice, changes_more}
use Rattle.lift_disk.specs.lemmas.History.{set_other}
use Rattle.lift_journal.specs.Layout.{Batch, is_marked, IsClosed, IsChain, sector_at, start_of, IsStamped, IsSound, Holds}
use Rattle.lift_journal.specs.Steps.{IsInRange, unmarked}
use Rattle.lift_journal.specs.Walk.{Reaches}
use Rattle.lift_journal.specs.Switch.{HasWritten, IsFailedSwitch, IsFailedWriting}
use Rattle.lift_journal.proofs.Appends.{sector_set}
use Rattle.lift_journal.proofs.Checkpoints.{reaches_same}
use Rattle.lift_journal.proofs.Halves.{HalfHolds, half_same, stamped_else, holds_elsewhere}
use Rattle.lift_journal.proofs.Walks.{reaches_end}

-- the sectors that a checkpoint may change
abbrev pub IsWritten : ℕ → ℕ → Type 0
IsWritten start i = IsInRange start (start + LEAST_HALF) i ⊎ (i ≡ 0)

-- the closing gate is written
pub closes : (start end gate : ℕ) (batches : List Batch) (image : Image) → Reaches image start end gate batches → gate < end → end ≤ length image
    → IsChain batches 1 (take (end - start) (drop start (slice_set image gate unmarked)))
closes start end gate batches image reached below whole =
    let new = slice_set image gate unmarked in
    let again = reaches_same start end gate batches image new reached below (take-set-le gate image gate unmarked (omega arith)) in
    let closed : IsClosed (sector_at new gate) = ap is_marked (sector_set image gate unmarked (omega (arith, below, whole))) in
    reaches_end new start end gate batches again below (omega (arith, whole, length-set image gate unmarked)) closed

-- whatever is in the pick then
module _ (start end gate : ℕ) (batches : List Batch) (old mid left : Image) (low : 2 ≤ start) (high : start + LEAST_HALF ≤ end) (whole : end ≤ length mid) (below : gate < start + LEAST_HALF)
    (reached : Reaches mid start end gate batches) (before : ChangesWithin (IsInRange start (start + LEAST_HALF)) old mid) (after : ChangesWithin (λ i. i ≡ 0) (slice_set mid gate unmarked) left) where
  closed_changes : ChangesWithin (IsWritten start) mid (slice_set mid gate unmarked)
  closed_changes = record {
    size = length-set mid gate unmarked;
    others = λ i other. set_other mid gate i unmarked (λ same. other (inl (omega (arith, same, reached.at), omega (arith, same, below))));
  }

  pub written_left : HasWritten start end batches old left
  written_left = record {
    within = changes_twice (IsWritten start) old mid left (changes_more (IsInRange start (start + LEAST_HALF)) (IsWritten start) old mid (λ i is. inl is) before)
        (changes_twice (IsWritten start) mid (slice_set mid gate unmarked) left closed_changes (changes_more (λ i. i ≡ 0) (IsWritten start) (slice_set mid gate unmarked) left (λ i is. inr is) after));
    chain = half_same (end - start) start batches (λ i. i ≡ 0) (slice_set mid gate unmarked) left (λ i is range. omega (arith, is, range.0, low)) after
        (closes start end gate batches mid reached (omega (arith, below, high)) whole);
  }

-- at each moment
pub checkpoint_leaves : (old mid new : DiskState) (start end gate : ℕ) (batches : List Batch) → 2 ≤ start → start + LEAST_HALF ≤ end → end ≤ old.size → IsWhole mid → gate < start + LEAST_HALF
    → TouchesOnly (IsInRange start (start + LEAST_HALF)) old mid → (old.is_honest → Reaches mid.image start end gate batches)
    → LeavesOnly mid new (λ left. ChangesWithin (IsInRange start (start + LEAST_HALF)) mid.image left ⊎ ChangesWithin (λ i. i ≡ 0) (slice_set mid.image gate unmarked) left)
    → LeavesOnly old new (λ left. ChangesWithin (IsInRange start (start + LEAST_HALF)) old.image left ⊎ HasWritten start end batches old.image left)
checkpoint_leaves old mid new start end gate batches low high inside whole below touched reached switched =
    let P : Image → Type 0 = λ left. ChangesWithin (IsInRange start (start + LEAST_HALF)) old.image left ⊎ HasWritten start end batches old.image left in
    leaves_then old mid new P
    (leaves_weaker old mid (ChangesWithin (IsInRange start (start + LEAST_HALF)) old.image) P (λ _ left within. inl within) touched.moments)
    (leaves_weaker mid new (λ left. ChangesWithin (IsInRange start (start + LEAST_HALF)) mid.image left ⊎ ChangesWithin (λ i. i ≡ 0) (slice_set mid.image gate unmarked) left) P
    (λ honest_mid left either.
    let honest = touched.moments.honest.0 honest_mid in
    let before = touched.within honest in
    ⊎_elim
    (λ within. inl (changes_twice (IsInRange start (start + LEAST_HALF)) old.image mid.image left before within))
    (λ picked. inr (written_left start end gate batches old.image mid.image left low high (omega (arith, inside, touched.size, whole honest_mid)) below (reached honest) before picked))
    either) switched)

-- Another pick changes nothing else.
pub written_pick : (start end : ℕ) (batches : List Batch) (old mid left : Image) → 2 ≤ start → HasWritten start end batches old mid → ChangesWithin (λ i. i ≡ 0) mid left → HasWritten start end batches old left
written_pick start end batches old mid left low written change = record {
  within = changes_twice (IsWritten start) old mid left written.within (changes_more (λ i. i ≡ 0) (IsWritten start) mid left (λ i is. inr is) change);
  chain = half_same (end - start) start batches (λ i. i ≡ 0) mid left (λ i is range. omega (arith, is, range.0, low)) change written.chain;
}

-- a switch that failed after the batches
pub writing_fails : (old mid new : DiskState) (start end gate sectors : ℕ) (batches : List Batch) (pick : List ℕ) → 2 ≤ start → start + LEAST_HALF ≤ end → end ≤ length mid.image → gate < start + LEAST_HALF
    → ChangesWithin (IsInRange start (start + LEAST_HALF)) old.image mid.image → Reaches mid.image start end gate batches → mid.calls ≡ old.calls + sectors
    → IsFailedSwitch start (start + LEAST_HALF) gate pick mid new → IsFailedWriting start end batches sectors pick old new
writing_fails old mid new start end gate sectors batches pick low high whole below before reached calls stops = record {
  early = λ few honest left leaves.
      changes_twice (IsInRange start (start + LEAST_HALF)) old.image mid.image left before (stops.early (omega (arith, few, calls)) honest left leaves);
  late = λ more.
      (let missed = stops.late (omega (arith, more, calls)) in
      let safe = slice_set mid.image gate unmarked in (
        safe,
        written_left start end gate batches old.image mid.image safe low high whole below reached before (changes_nothing (λ i. i ≡ 0) safe),
        set_other mid.image gate 0 unmarked (λ is. omega (arith, is, reached.at, low)) ∙ before.others 0 (λ is. omega (arith, is.0, low)),
        record {
          made = ⊎_elim (λ failed. inl (omega (arith, failed.0, calls), failed.1)) (λ written. inr (omega (arith, written.0, calls), written.1)) missed.made;
          synced = missed.synced;
          loose = missed.loose;
          others = missed.others;
        },
      ));
}

-- The image holds the first batches, and the other half begins at start.
module _ (shape : Shape) (first second : List Batch) (start : ℕ) (old : Image) (holds : Holds shape first old)
    (halves : ((start_of shape.half old ≡ 2) × (start ≡ shape.half + 2)) ⊎ ((start_of shape.half old ≡ shape.half + 2) × (start ≡ 2))) where
  low : 2 ≤ start
  low = ⊎_elim (λ a. omega (arith, a.1)) (λ b. omega (arith, b.1)) halves

  apart : (i : ℕ) → IsInRange start (start + LEAST_HALF) i → IsInRange (start_of shape.half old) (start_of shape.half old + shape.half) i → ⊥
  apart i is was =
      let half = holds.stamped.within.half.0 in
      ⊎_elim (λ a. omega (arith, half, a.0, a.1, is.0, is.1, was.0, was.1)) (λ b. omega (arith, half, b.0, b.1, is.0, is.1, was.0, was.1)) halves

  -- while the other half is written
  pub drafting_leaves : (left : Image) → ChangesWithin (IsInRange start (start + LEAST_HALF)) old left → Holds shape first left
  drafting_leaves left within =
      holds_elsewhere shape first (IsInRange start (start + LEAST_HALF)) old left (λ is. omega (arith, is.0, low)) (λ is. omega (arith, is.0, low)) apart within holds

  module _ (left : Image) (sound : IsSound second) (written : HasWritten start (start + shape.half) second old left) where
    stamped_left : IsStamped shape left
    stamped_left = stamped_else shape (IsWritten start) old left (λ is. ⊎_elim (λ range. omega (arith, range.0, low)) (λ zero. omega (arith, zero)) is) written.within holds.stamped

    first_left : HalfHolds shape.half (start_of shape.half old) first left
    first_left =
        half_same shape.half (start_of shape.half old) first (IsWritten start) old left
        (λ i is was. ⊎_elim (λ range. apart i range was) (λ zero. ⊎_elim (λ a. omega (arith, zero, was.0, a.0)) (λ b. omega (arith, zero, was.0, b.0)) halves) is) written.within holds.chain

    second_left : HalfHolds shape.half start second left
    second_left = subst (λ n. IsChain second 1 (take n (drop start left))) (let same : start + shape.half - start ≡ shape.half = omega arith in same) written.chain

    -- once both halves stand and the one from before is still picked
    pub unswitched : start_of shape.half left ≡ start_of shape.half old → Holds shape first left
    unswitched same = record {
      stamped = stamped_left;
      chain = subst (λ s. HalfHolds shape.half s first left) (sym same) first_left;
      sound = holds.sound;
    }

    -- or the other one is picked
    pub switched : start_of shape.half left ≡ start → Holds shape second left
    switched picked = record {
      stamped = stamped_left;
      chain = subst (λ s. HalfHolds shape.half s second left) (sym picked) second_left;
      sound = sound;
    }
