use Rattle.std.proofs.Common.{◌≡◌, filter}
use Rattle.std.specs.List.{range_with_len}
use Rattle.lift_policy.specs.Eligible.{is_eligible}
use Rattle.lift_policy.proofs.eligible.letters_among.Given as goal

abbrev pub invariant-loop-index : goal.invariant-loop-index
invariant-loop-index l = l.letters.items ≡ filter (is_eligible l.building l.view l.call) (range_with_len 0 l.index)
