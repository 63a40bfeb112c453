use Rattle.std.proofs.Common.{arith}
use Rattle.std.proofs.lemmas.List.{length-map}
use Rattle.lift_disk.specs.Places.{now_in, safe_in}
use Rattle.lift_disk.proofs.Places.{set_same, set_shown, read_shown}
use Rattle.lift_disk.proofs.in_memory.take_back_at.Goals as goal

pub returns : goal.returns
returns c =
    let xs = c.args.sectors.now.items in
    let old = c.index_mut.result.now in
    let new = c.take_back.new.self in
    record {
      now = set_shown now_in xs c.args.index new _ (read_shown safe_in xs c.args.index old (now_in new) (omega (arith, c.requires, length-map xs now_in)) c.index_mut.ensures.value c.take_back.ensures.now);
      safe = set_same safe_in xs c.args.index old new c.index_mut.ensures.value c.take_back.ensures.safe;
    }
