use Rattle.std.proofs.Common.{ℕ, ◌∙◌, sym, ap, length, replicate, false, subst, arith, List, Bool}
use Rattle.std.proofs.lemmas.List.{length-replicate}
use Rattle.lift_disk.specs.Disk.{Image, ChangesWithin}
use Rattle.lift_disk.specs.Memory.{IsFlagged}
use Rattle.lift_disk.specs.Places.{all_now}
use Rattle.lift_disk.specs.lemmas.History.{none_flagged}
use Rattle.lift_disk.specs.lemmas.Moments.{changes_nothing}
use Rattle.lift_disk.proofs.memory_sectors.MemorySectors.new.Goals as goal

pub invariant_of-result : goal.invariant_of-result
invariant_of-result c =
    let n = c.args.count in
    let zeros : List ℕ = replicate 512 0 in
    let now = all_now c.in_ok-zeros.field-0.items in
    record {
      sized = ap length c.in_ok-no_flags.ensures ∙ length-replicate n false ∙ sym (ap length c.in_ok-zeros.ensures.now ∙ length-replicate n zeros);
      fits = omega (arith, ap length c.in_ok-zeros.ensures.now, length-replicate n zeros, c.ranges.count.fits);
      spanned = λ i is. absurd (none_flagged n i (subst (λ (l : List Bool). IsFlagged l i) c.in_ok-no_flags.ensures is));
      order = omega (arith, c.none.ensures.0, c.none.ensures.1);
      bound = omega (arith, c.none.ensures.0, c.none.ensures.1);
      kept = subst (λ (l : Image). ChangesWithin (IsFlagged c.in_ok-no_flags.field-0.items) now l) (c.in_ok-zeros.ensures.now ∙ sym c.in_ok-zeros.ensures.safe) (changes_nothing (IsFlagged c.in_ok-no_flags.field-0.items) now);
    }
