use Rattle.lift_decider.proofs.decider.verdict_of.Goals as goal

pub returns : goal.returns
returns c = rw c.view-view.ensures at (c.of.ensures c.args.group.now.batch)
