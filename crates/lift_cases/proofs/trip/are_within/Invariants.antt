use Rattle.std.proofs.Common.{take}
use Rattle.lift_cost.specs.Calls.{AreWithin}
use Rattle.lift_cases.proofs.trip.are_within.Given as goal

abbrev pub invariant-loop-row : goal.invariant-loop-row
invariant-loop-row l = AreWithin l.floors (take l.row-index l.rows)
