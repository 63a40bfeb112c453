use Rattle.lift_disk.proofs.Fills.{all_cleared}
use Rattle.lift_disk.proofs.in_memory.clear.Goals as goal

pub returns : goal.returns
returns c = all_cleared _ c.args.span.end c.args.flags.now.items _ c.loop-i-test.false (λ i is. (c.requires.spanned i is).1) c.loop-i.invariant
