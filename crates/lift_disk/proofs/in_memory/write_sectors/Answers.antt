use Rattle.std.proofs.Common.{◌∙◌, arith, ap, length, take}
use Rattle.lift_disk.specs.Places.{all_now}
use Rattle.lift_disk.specs.Runs.{run_length}
use Rattle.lift_disk.proofs.MemoryRuns.{written_more}
use Rattle.lift_disk.proofs.in_memory.write_sectors.Goals as goal

pub write_at-requires : goal.write_at-requires
write_at-requires c =
    let old = all_now c.args.sectors.now.items in
    let run = take c.loop-i.i c.args.run.now in
    omega (arith, c.requires.inside, c.loop-i-test.true, ap length c.loop-i.invariant.now, run_length run c.args.from old)

pub loop-i-preserved : goal.loop-i-preserved
loop-i-preserved c = record {
  now = c.write_at.ensures.now
      ∙ written_more c.args.run.now c.args.from c.loop-i.i (all_now c.args.sectors.now.items) (all_now c.loop-i.sectors.items) c.loop-i-test.true c.loop-i.invariant.now;
  safe = c.write_at.ensures.safe ∙ c.loop-i.invariant.safe;
}
