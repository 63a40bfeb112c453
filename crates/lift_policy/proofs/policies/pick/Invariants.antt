use Rattle.std.proofs.Common.{◌≡◌, map, take}
use Rattle.lift_policy.proofs.policies.pick.Given as goal

abbrev pub invariant-loop-car : goal.invariant-loop-car
invariant-loop-car g l = l.measures.items ≡ map (g.M.Measure.measures l.policy l.building l.view l.call) (take l.car-index l.letters)
