-- An empty journal.
use Rattle.std.proofs.Common.{◌≡◌, ◌≤◌, ◌+◌, ◌*◌, ℕ, false, cond, List, [], length, take, drop, slice_get, slice_set, Some, unwrap_or, refl, sym, ◌∙◌, ap, subst, arith}
use Rattle.std.proofs.lemmas.List.{length-set}
use Rattle.std.proofs.lemmas.List.Elements.{All-nil}
use Rattle.lift_base.specs.declared.history.Shape.{Shape}
use Rattle.lift_base.specs.History.{IsWithinLimits}
use Rattle.lift_disk.specs.Disk.{Image}
use Rattle.lift_disk.specs.lemmas.History.{set_other}
use Rattle.lift_journal.specs.Order.{IsEntry, IsOfBase}
use Rattle.lift_journal.specs.Layout.{filled, stamp_bytes, is_marked, Picks, IsClosed, IsChain, sector_at, start_of}
use Rattle.lift_journal.specs.Steps.{unmarked}
use Rattle.lift_journal.specs.Journal.{ReadsAs}
use Rattle.lift_journal.proofs.Appends.{sector_set}
use Rattle.lift_journal.specs.lemmas.Chains.{closed_at, ends_any}

other_sector : (image : Image) (i j : ℕ) (sector : List ℕ) → ¬ (j ≡ i) → sector_at (slice_set image i sector) j ≡ sector_at image j
other_sector image i j sector other = ap (λ o. unwrap_or o []) (set_other image i j sector other)

module _ (shape : Shape) (two : Image) (within : IsWithinLimits shape) (size : 2 * shape.half + 2 ≤ length two)
    (picked : slice_get two 0 ≡ Some unmarked) (closed : slice_get two 2 ≡ Some unmarked) where
  abbrev stamp : List ℕ
  stamp = filled 1 (stamp_bytes shape)

  abbrev three : Image
  three = slice_set two 1 stamp

  formatted_pick : sector_at three 0 ≡ unmarked
  formatted_pick = other_sector two 1 0 stamp (λ is. omega (arith, is)) ∙ ap (λ o. unwrap_or o []) picked

  -- the first half is picked
  pub formatted_half : Picks false (slice_set two 1 (filled 1 (stamp_bytes shape)))
  formatted_half = ap is_marked formatted_pick

  pub formatted : ReadsAs shape [] [] (slice_set two 1 (filled 1 (stamp_bytes shape)))
  formatted =
      let long : length three ≡ length two = length-set two 1 stamp in
      let gate : sector_at three 2 ≡ unmarked = other_sector two 1 2 stamp (λ is. omega (arith, is)) ∙ ap (λ o. unwrap_or o []) closed in
      let start : start_of shape.half three ≡ 2 = ap (λ (s : List ℕ). cond (is_marked s) (shape.half + 2) 2) formatted_pick in
      let is_closed : IsClosed (sector_at three 2) = ap is_marked gate in
      let chain : IsChain [] 1 (take shape.half (drop 2 three)) =
      ends_any 0 1 (take shape.half (drop 2 three)) (closed_at shape.half 2 three (omega (arith, size, long, within.half)) (omega (arith, within.half)) is_closed) in
      record {
        batches = [];
        holds = record {
          stamped = record {
            within = within;
            size = omega (arith, size, long);
            stamp = sector_set two 1 stamp (omega (arith, size, within.half));
          };
          chain = subst (λ s. IsChain [] 1 (take shape.half (drop s three))) (sym start) chain;
          sound = record { versions = tt; ordered = tt; complete = tt };
        };
        joined = refl;
        is_base = All-nil IsOfBase;
        are_entries = All-nil IsEntry;
      }
