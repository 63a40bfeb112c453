use Rattle.std.proofs.Common.{◌≡◌, replicate}
use Rattle.lift_building.proofs.reading.same_flags.Given as goal

abbrev pub invariant-loop : goal.invariant-loop
invariant-loop l = l.served.items ≡ replicate l.counter l.flag
