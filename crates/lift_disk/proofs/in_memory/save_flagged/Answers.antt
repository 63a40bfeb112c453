use Rattle.std.proofs.Common.{arith, refl}
use Rattle.lift_disk.specs.Places.{all_now}
use Rattle.lift_disk.proofs.Fills.{all_copied}
use Rattle.lift_disk.proofs.in_memory.save_flagged.Goals as goal

pub loop-i-init : goal.loop-i-init
loop-i-init c = record {
  now = refl;
  copied = record {
    size = c.requires.kept.size;
    below = λ i before. c.requires.kept.others i (λ is. omega (arith, before, (c.requires.spanned i is).0));
    others = c.requires.kept.others;
  };
}

pub returns : goal.returns
returns c = record {
  now = c.loop-i.invariant.now;
  safe = all_copied _ c.args.span.end c.args.flags.now (all_now c.args.sectors.now.items) _ c.loop-i-test.false (λ i is. (c.requires.spanned i is).1) c.loop-i.invariant.copied;
}
