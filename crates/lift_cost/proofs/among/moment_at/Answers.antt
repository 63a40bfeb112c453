use Rattle.std.proofs.Common.{sym, ◌∙◌}
use Rattle.lift_cost.proofs.Costs.{moment_goes_on}
use Rattle.lift_cost.proofs.among.moment_at.Goals as goal

pub loop-i-preserved : goal.loop-i-preserved
loop-i-preserved c = moment_goes_on c.args.halt.now c.index-halts-i.result c.args.halts.now c.args.moments.now c.loop-i.i _ c.loop-i-test.true c.requires c.index-halts-i.is (sym c.same_halt.ensures ∙ c.if-same_halt.false) c.loop-i.invariant
