use Rattle.std.proofs.Common.{◌∙◌, arith, true}
use Rattle.std.proofs.lemmas.Option.{slice_get_within}
use Rattle.lift_disk.specs.Places.{all_now}
use Rattle.lift_disk.proofs.Fills.{filled_more, filled_past}
use Rattle.lift_disk.proofs.in_memory.fill.Goals as goal
use Rattle.lift_disk.proofs.in_memory.fill.Goals.{then-loose-i, else-loose-i}

pub loop-i-preserved : goal.loop-i-preserved
loop-i-preserved c =
    let before = c.loop-i.invariant in
    let now = all_now c.loop-i.sectors.items in
    elim c.if-loose-i.branch [
      | then-loose-i w ↦ rw w.sectors-is (record {
        safe = w.write_at.ensures.safe ∙ before.safe;
        filled = rw w.write_at.ensures.now (filled_more c.args.byte c.loop-i.i c.args.loose.now (all_now c.args.sectors.now.items) now (omega (arith, c.loop-i-test.true, c.requires, before.filled.size)) c.requires w.if-loose-i.true before.filled);
      })
      | else-loose-i w ↦ rw w.sectors-is (record {
        safe = before.safe;
        filled = filled_past c.args.byte c.loop-i.i c.args.loose.now (all_now c.args.sectors.now.items) now w.if-loose-i.false before.filled;
      })
    ]

pub returns-clause-loose : goal.returns-clause-loose
returns-clause-loose c = λ i is. c.loop-i.invariant.filled.below i (omega (arith, slice_get_within c.args.loose.now i true is)) is
