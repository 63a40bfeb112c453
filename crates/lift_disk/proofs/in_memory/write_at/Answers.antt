use Rattle.lift_disk.specs.Places.{now_in, safe_in}
use Rattle.lift_disk.proofs.Places.{set_same, set_shown}
use Rattle.lift_disk.proofs.in_memory.write_at.Goals as goal

pub returns : goal.returns
returns c =
    let xs = c.args.sectors.now.items in
    record {
      now = set_shown now_in xs c.args.index c.write.new.self c.args.bytes.now c.write.ensures.now;
      safe = set_same safe_in xs c.args.index c.index_mut.result.now c.write.new.self c.index_mut.ensures.value c.write.ensures.safe;
    }
