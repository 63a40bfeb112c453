use Rattle.std.proofs.Common.{◌∙◌, sym, arith, subst, List, Bool}
use Rattle.lift_disk.specs.Disk.{ChangesWithin}
use Rattle.lift_disk.specs.Memory.{IsFlagged}
use Rattle.lift_disk.specs.Places.{all_now, all_safe}
use Rattle.lift_disk.specs.lemmas.Moments.{changes_both}
use Rattle.lift_disk.proofs.memory_sectors.MemorySectors.leave.Goals as goal

pub invariant_of-self : goal.invariant_of-self
invariant_of-self c =
    let m = c.args.self.now in
    let within = subst (λ (l : List Bool). ChangesWithin (IsFlagged l) (all_now m.places.items) (all_now c.leave.new.sectors.items)) c.deref.ensures.value c.leave.ensures.within in
    record {
      sized = m.sized ∙ sym within.size;
      fits = omega (arith, within.size, m.fits);
      spanned = m.spanned;
      order = m.order;
      bound = omega (arith, within.size, m.bound);
      kept = rw c.leave.ensures.safe (changes_both (IsFlagged m.loose.items) (all_now m.places.items) (all_now c.leave.new.sectors.items) (all_safe m.places.items) within m.kept);
    }
