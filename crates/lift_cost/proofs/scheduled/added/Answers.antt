use Rattle.lift_cost.proofs.Costs.{all_within}
use Rattle.lift_cost.proofs.scheduled.added.Goals as goal

pub added_among-requires-clause-within : goal.added_among-requires-clause-within
added_among-requires-clause-within c = all_within c.args.building.now.floors c.args.schedule.now.rows c.args.schedule.now.position c.in-Some.listed.halts.now c.requires.calls c.in-Some.ensures.halts
