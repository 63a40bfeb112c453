use Rattle.std.proofs.Common.{arith, refl, sym, length, true}
use Rattle.std.proofs.lemmas.Option.{slice_get_within}
use Rattle.lift_disk.specs.Places.{all_safe}
use Rattle.lift_disk.proofs.Fills.{all_copied}
use Rattle.lift_disk.proofs.in_memory.take_back.Goals as goal

pub loop-i-init : goal.loop-i-init
loop-i-init c = record {
  safe = refl;
  copied = record {
    size = sym c.requires.kept.size;
    below = λ i before. absurd (omega (arith, before));
    others = λ i not. sym (c.requires.kept.others i not);
  };
}

pub returns : goal.returns
returns c = record {
  now = all_copied c.loop-i.i (length c.args.lost.now) c.args.lost.now (all_safe c.args.sectors.now.items) _ (omega arith) (λ i is. slice_get_within c.args.lost.now i true is) c.loop-i.invariant.copied;
  safe = c.loop-i.invariant.safe;
}
