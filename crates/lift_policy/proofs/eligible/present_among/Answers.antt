use Rattle.std.proofs.Common.{lit<}
use Rattle.lift_policy.specs.Present.{is_in}
use Rattle.lift_policy.proofs.Letters.{few_kept}
use Rattle.lift_policy.proofs.eligible.present_among.Goals as goal

pub push-requires : goal.push-requires
push-requires c =
    (lit< tt, few_kept (is_in c.args.present.now) c.args.letters.now c.loop-car.found.items c.loop-car.car-index c.loop-car.invariant c.loop-car-test.true c.requires)
