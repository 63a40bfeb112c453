use Rattle.std.proofs.Common.{◌≡◌, filter, take}
use Rattle.lift_policy.specs.Present.{is_in}
use Rattle.lift_policy.proofs.eligible.present_among.Given as goal

abbrev pub invariant-loop-car : goal.invariant-loop-car
invariant-loop-car l = l.found.items ≡ filter (is_in l.present) (take l.car-index l.letters)
