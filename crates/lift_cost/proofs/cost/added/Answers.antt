use Rattle.std.proofs.Common.{◌∙◌}
use Rattle.lift_cost.proofs.Costs.{all_within}
use Rattle.lift_cost.proofs.cost.added.Goals as goal

pub added_among-requires-clause-within : goal.added_among-requires-clause-within
added_among-requires-clause-within c = all_within c.args.building.now.floors c.args.rows.now c.args.position.now c.deref.result.now c.requires.calls (c.deref.ensures.0 ∙ c.stop_list-halts.ensures.halts)
