use Rattle.lift_clerk.proofs.Called.{turns_on, failure_on, broken_on}
use Rattle.lift_clerk.proofs.group.turn_goes_on.Goals as goal

pub returns-clause-goes_on : goal.returns-clause-goes_on
returns-clause-goes_on g c =
    let before = c.args.clerk.now in
    turns_on c.pasts_go_on.ensures (g.P.Policy.chooses before.policy) (c.policies_are_covered.ensures.runs before.policy) before c.turn_once.new.clerk c.turn_once.result

pub returns-clause-fails_on : goal.returns-clause-fails_on
returns-clause-fails_on g c e =
    let before = c.args.clerk.now in
    failure_on c.pasts_go_on.ensures (g.P.Policy.chooses before.policy) (c.policies_are_covered.ensures.runs before.policy) before c.turn_once.new.clerk

pub returns-clause-rests_on : goal.returns-clause-rests_on
returns-clause-rests_on g c e =
    let before = c.args.clerk.now in
    broken_on c.pasts_go_on.ensures (g.P.Policy.chooses before.policy) (c.policies_are_covered.ensures.runs before.policy) before c.turn_once.new.clerk (c.turn_once.ensures.turn.commits.is.broken.0 e)
