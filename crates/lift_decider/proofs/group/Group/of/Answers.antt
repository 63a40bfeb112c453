use Rattle.std.proofs.Common.{[], None, refl, ap}
use Rattle.std.specs.Prelude.{replicate}
use Rattle.lift_base.specs.declared.limits.TheConstants.{MOST_CARS}
use Rattle.lift_policy.specs.View.{positions_of}
use Rattle.lift_decider.proofs.Inside.{all_none, same_state}
use Rattle.lift_decider.proofs.group.Group.of.Goals as goal

pub returns : goal.returns
returns c =
    same_state c.args.register c.args.register (positions_of c.default.result) (replicate MOST_CARS None) c.new.result.items [] refl
    (ap positions_of (all_none c.default.result MOST_CARS c.default.ensures.long (λ i d lt. c.default.ensures.at i d lt))) c.new.ensures
