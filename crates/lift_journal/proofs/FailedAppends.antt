-- What an append that fails leaves.
use Rattle.std.proofs.Common.{◌≡◌, ◌≢◌, ◌<◌, ◌≤◌, ◌+◌, ◌==◌, ⊎_elim, ℕ, false, List, [], length, replicate, unwrap_or, refl, sym, ◌∙◌, ap, subst, arith}
use Rattle.lift_base.specs.declared.history.Shape.{Shape}
use Rattle.lift_disk.specs.Disk.{DiskState, Image, ChangesWithin, IsFilled, MayLeave, IsSynced}
use Rattle.lift_disk.specs.lemmas.Moments.{changes_more, changes_twice}
use Rattle.lift_journal.specs.Layout.{Batch, Holds, IsPrepared, is_marked, sector_at}
use Rattle.lift_journal.specs.Steps.{marked}
use Rattle.lift_journal.specs.Failed.{Misses, FailsAtGate}
use Rattle.lift_journal.specs.lemmas.Chains.{all_same, holds_closed, holds_opened}
use Rattle.lift_journal.proofs.Appends.{gate_opens}

-- what is safe is what is read
pub synced_image : (disk : DiskState) → IsSynced disk → MayLeave disk disk.synced → disk.synced ≡ disk.image
synced_image disk synced lose = all_same disk.is_loose disk.image disk.synced synced.none_loose lose

-- a sector of one byte is marked just where it is the mark
pub mark_of : (byte : ℕ) → is_marked (replicate 512 byte) ≡ (byte == 165)
mark_of byte = refl

pub not_mark : (byte : ℕ) → byte ≢ 165 → (byte == 165) ≡ false
not_mark byte other = grind (arith, other)

module _ (shape : Shape) (batches : List Batch) (batch : Batch) (gate made : ℕ) (old mid new : DiskState) (prepared : IsPrepared shape batches batch gate mid.image)
    (before : mid.calls ≡ old.calls + made) (safe : mid.synced ≡ mid.image) (misses : Misses gate marked mid new)
    (within : ChangesWithin (λ i. i ≡ gate) mid.image new.image) (loose : (i : ℕ) → new.is_loose i → i ≡ gate) (inside : gate < length mid.image) where
  filled_within : (byte : ℕ) (left : Image) → IsFilled byte new left → ChangesWithin (λ i. i ≡ gate) mid.image left
  filled_within byte left filled =
      changes_twice (λ i. i ≡ gate) mid.image new.image left within
      (changes_more new.is_loose (λ i. i ≡ gate) new.image left loose (record { size = filled.size; others = filled.others }))

  filled_gate : (byte : ℕ) (left : Image) → IsFilled byte new left → is_marked (sector_at left gate) ≡ (byte == 165)
  filled_gate byte left filled =
      ap (λ o. is_marked (unwrap_or o [])) (filled.loose gate (omega (arith, inside, within.size)) misses.loose) ∙ mark_of byte

  from_gate_on : (left : Image) → ChangesWithin (λ i. i ≡ gate) mid.image left → ChangesWithin (λ i. gate ≤ i) mid.image left
  from_gate_on left changed = changes_more (λ i. i ≡ gate) (λ i. gate ≤ i) mid.image left (λ i is. omega (arith, is)) changed

  pub fails_at_gate : FailsAtGate shape batches batch made old new
  fails_at_gate = record {
    keeps_old = λ calls. ⊎_elim (λ failed. subst (Holds shape batches) (sym failed.1) prepared.holds) (λ written. absurd (omega (arith, calls, before, written.0))) misses.made;
    keeps_new = λ calls. ⊎_elim (λ failed. absurd (omega (arith, calls, before, failed.0)))
        (λ written. gate_opens shape batches batch gate mid.image new.image prepared within inside written.1) misses.made;
    loses = subst (Holds shape batches) (sym (misses.synced ∙ safe)) prepared.holds;
    fills_old = λ byte left other filled.
        holds_closed shape batches mid.image left gate prepared.holds prepared.at (from_gate_on left (filled_within byte left filled))
        (filled_gate byte left filled ∙ not_mark byte other);
    fills_new = λ left filled. holds_opened shape batches batch mid.image left gate prepared (filled_within 165 left filled) (filled_gate 165 left filled);
  }
