use Rattle.std.proofs.Common.{ℕ, List, replicate}
use Rattle.lift_disk.specs.Places.{now_in, safe_in}
use Rattle.lift_disk.proofs.Places.{push_zeros}
use Rattle.lift_disk.proofs.in_memory.zeros.Goals as goal

pub loop-i-preserved : goal.loop-i-preserved
loop-i-preserved c =
    let sector : List ℕ = replicate 512 0 in
    record {
      now = push_zeros now_in c.loop-i.sectors.items _ c.zeros.result c.loop-i._i sector c.in_ok-push.ensures.items c.zeros.ensures.now c.loop-i.invariant.now;
      safe = push_zeros safe_in c.loop-i.sectors.items _ c.zeros.result c.loop-i._i sector c.in_ok-push.ensures.items c.zeros.ensures.safe c.loop-i.invariant.safe;
    }
