use Rattle.std.proofs.Common.{inl, inr, ⊎_elim, arith}
use Rattle.lift_disk.specs.Memory.{IsFlagged}
use Rattle.lift_disk.specs.Places.{all_now, all_safe}
use Rattle.lift_disk.specs.lemmas.Moments.{changes_more}
use Rattle.lift_disk.specs.lemmas.History.{flagged_set}
use Rattle.lift_disk.proofs.memory_sectors.MemorySectors.loosen.Goals as goal

pub invariant_of-self-clause-spanned : goal.invariant_of-self-clause-spanned
invariant_of-self-clause-spanned c = λ i is.
    let m = c.args.self.now in
    c.with-self.ensures.holds i (⊎_elim (λ was. inl (m.spanned i was)) (λ same. inr same) ((flagged_set m.loose.items c.args.sector i (omega (arith, m.sized, c.requires))).0 is))

pub invariant_of-self-clause-kept : goal.invariant_of-self-clause-kept
invariant_of-self-clause-kept c =
    let m = c.args.self.now in
    changes_more (IsFlagged m.loose.items) _ (all_now m.places.items) (all_safe m.places.items)
    (λ i was. (flagged_set m.loose.items c.args.sector i (omega (arith, m.sized, c.requires))).1 (inl was)) m.kept
