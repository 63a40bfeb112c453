use Rattle.std.proofs.Common.{arith}
use Rattle.std.proofs.lemmas.List.{length-map}
use Rattle.lift_disk.specs.Places.{now_in, safe_in}
use Rattle.lift_disk.proofs.Places.{set_same, set_shown, read_shown}
use Rattle.lift_disk.proofs.in_memory.save_at.Goals as goal

pub returns : goal.returns
returns c =
    let xs = c.args.sectors.now.items in
    let old = c.index_mut.result.now in
    let new = c.save.new.self in
    record {
      now = set_same now_in xs c.args.index old new c.index_mut.ensures.value c.save.ensures.now;
      safe = set_shown safe_in xs c.args.index new _ (read_shown now_in xs c.args.index old (safe_in new) (omega (arith, c.requires, length-map xs now_in)) c.index_mut.ensures.value c.save.ensures.safe);
    }
