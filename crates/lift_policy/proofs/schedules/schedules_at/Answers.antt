use Rattle.std.proofs.Common.{◌∙◌, arith}
use Rattle.std.proofs.Math.ListN.{length-set}
use Rattle.lift_policy.specs.lemmas.Views.{made_more, all_made_own, all_made_positions}
use Rattle.lift_policy.proofs.schedules.schedules_at.Goals as goal

pub loop-index-preserved : goal.loop-index-preserved
loop-index-preserved c = record {
  count = length-set c.loop-index.schedules c.from-place.result c.schedule_at.result ∙ c.loop-index.invariant.count;
  made = made_more c.args.register.now c.args.positions.now c.loop-index.schedules c.loop-index.index c.from-place.result c.schedule_at.result c.index-positions-place.result
      c.from-place.ensures (let h = c.type_inv.positions in omega arith) (omega (arith, c.loop-index.invariant.count)) c.loop-index.invariant.made c.schedule_at.ensures;
}

pub returns-clause-own : goal.returns-clause-own
returns-clause-own c = all_made_own c.args.register.now c.args.positions.now c.loop-index.schedules c.loop-index.index c.loop-index.invariant.count c.loop-index-test.false c.loop-index.invariant.made

pub returns-clause-positions : goal.returns-clause-positions
returns-clause-positions c =
    all_made_positions c.args.register.now c.args.positions.now c.loop-index.schedules c.loop-index.index c.loop-index.invariant.count (let h = c.type_inv.positions in omega arith) c.loop-index-test.false c.loop-index.invariant.made
