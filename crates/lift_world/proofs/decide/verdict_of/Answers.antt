use Rattle.lift_world.proofs.decide.verdict_of.Goals as goal

pub returns : goal.returns
returns c batch = rw c.schedules_at-schedules.ensures.positions at (rw c.new-view.ensures at (c.of.ensures batch))
