use Rattle.std.proofs.Common.{◌≡◌, ◌∙◌, sym, ap, subst, length, false, List, Bool, arith}
use Rattle.std.proofs.lemmas.List.{length-replicate}
use Rattle.lift_disk.specs.Disk.{Image, ChangesWithin}
use Rattle.lift_disk.specs.Memory.{IsFlagged}
use Rattle.lift_disk.specs.Places.{all_now}
use Rattle.lift_disk.specs.lemmas.History.{none_flagged}
use Rattle.lift_disk.specs.lemmas.Moments.{changes_nothing}
use Rattle.lift_disk.proofs.memory_sectors.MemorySectors.sync.Goals as goal

pub invariant_of-self : goal.invariant_of-self
invariant_of-self c =
    let m = c.args.self.now in
    let now = all_now c.save_flagged.new.sectors.items in
    let loose = IsFlagged c.clear.new.flags.items in
    let same : length now ≡ length (all_now m.places.items) = ap length c.save_flagged.ensures.now in
    record {
      sized = ap length c.clear.ensures ∙ length-replicate (length m.loose.items) false ∙ m.sized ∙ sym same;
      fits = omega (arith, same, m.fits);
      spanned = λ i is. absurd (none_flagged (length m.loose.items) i (subst (λ (l : List Bool). IsFlagged l i) c.clear.ensures is));
      order = omega (arith, c.none-self.ensures.0, c.none-self.ensures.1);
      bound = omega (arith, c.none-self.ensures.0, c.none-self.ensures.1);
      kept = subst (λ (l : Image). ChangesWithin loose now l) (c.save_flagged.ensures.now ∙ sym c.save_flagged.ensures.safe) (changes_nothing loose now);
    }
