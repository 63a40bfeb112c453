use Rattle.lift_policy.specs.Choices.{PicksLeast}
use Rattle.lift_policy.specs.Decision.{least_pick}
use Rattle.lift_policy.proofs.Decisions.{Step-decision, least_picked}
use Rattle.lift_policy.proofs.laws.decisions_are_computed.Goals as goal

pub returns : goal.returns
returns c measure plan = Step-decision (PicksLeast measure) (least_pick measure) (least_picked measure) plan
