use Rattle.std.proofs.Common.{arith, length}
use Rattle.lift_disk.specs.Places.{all_now}
use Rattle.lift_disk.proofs.MemoryRuns.{read_more}
use Rattle.lift_disk.proofs.in_memory.read_sectors.Goals as goal

pub loop-i-preserved : goal.loop-i-preserved
loop-i-preserved c =
    rw c.now_at.ensures (read_more (all_now c.args.sectors.now) (length c.args.room.now) c.loop-i.room c.args.from c.loop-i.i c.loop-i-test.true (omega (arith, c.loop-i-test.true, c.requires)) c.loop-i.invariant)
