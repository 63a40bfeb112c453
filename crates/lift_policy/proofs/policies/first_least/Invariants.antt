use Rattle.lift_policy.specs.Least.{IsFirstLeastAt}
use Rattle.lift_policy.proofs.policies.first_least.Given as goal

abbrev pub invariant-loop-i : goal.invariant-loop-i
invariant-loop-i l = IsFirstLeastAt l.numbers l.i l.best
