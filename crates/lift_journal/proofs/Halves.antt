-- Two halves and a pick.
use Rattle.std.proofs.Common.{◌≡◌, ◌≤◌, ◌+◌, ◌*◌, ℕ, cond, List, [], take, drop, unwrap_or, sym, ◌∙◌, ap, subst}
use Rattle.lift_disk.specs.Disk.{Image, ChangesWithin}
use Rattle.lift_journal.specs.Layout.{Batch, is_marked, IsChain, start_of, IsStamped, Holds}
use Rattle.lift_journal.specs.Steps.{IsInRange}
use Rattle.lift_base.specs.declared.history.Shape.{Shape}
use Rattle.lift_journal.specs.lemmas.Chains.{window_same}

-- the half at this place holds these batches
abbrev pub HalfHolds : ℕ → ℕ → List Batch → Image → Type 0
HalfHolds half start batches image = IsChain batches 1 (take half (drop start image))

-- sectors outside a half may change
pub half_same : (half start : ℕ) (batches : List Batch) (changed : ℕ → Type 0) (old new : Image) → ((i : ℕ) → changed i → IsInRange start (start + half) i → ⊥)
    → ChangesWithin changed old new → HalfHolds half start batches old → HalfHolds half start batches new
half_same half start batches changed old new outside within holds =
    subst (IsChain batches 1) (sym (window_same start half old new within.size (λ i low high. within.others i (λ is. outside i is (low, high))))) holds

pub stamped_else : (shape : Shape) (changed : ℕ → Type 0) (old new : Image) → ¬ changed 1 → ChangesWithin changed old new → IsStamped shape old → IsStamped shape new
stamped_else shape changed old new other within stamped = record {
  within = stamped.within;
  size = subst (λ n. 2 * shape.half + 2 ≤ n) (sym within.size) stamped.size;
  stamp = ap (λ o. unwrap_or o []) (within.others 1 other) ∙ stamped.stamp;
}

-- While the half that isn't picked is written, the image holds what it held.
pub holds_elsewhere : (shape : Shape) (batches : List Batch) (changed : ℕ → Type 0) (old new : Image) → ¬ changed 0 → ¬ changed 1
    → ((i : ℕ) → changed i → IsInRange (start_of shape.half old) (start_of shape.half old + shape.half) i → ⊥)
    → ChangesWithin changed old new → Holds shape batches old → Holds shape batches new
holds_elsewhere shape batches changed old new pick stamp outside within holds =
    let start_same : start_of shape.half new ≡ start_of shape.half old = ap (λ o. cond (is_marked (unwrap_or o [])) (shape.half + 2) 2) (within.others 0 pick) in
    record {
      stamped = stamped_else shape changed old new stamp within holds.stamped;
      chain = subst (λ s. HalfHolds shape.half s batches new) (sym start_same) (half_same shape.half (start_of shape.half old) batches changed old new outside within holds.chain);
      sound = holds.sound;
    }
