use Rattle.std.proofs.Common.{◌<◌, length}
use Rattle.lift_bench.proofs.deciding.least_plainly.Given as goal

abbrev pub invariant-loop-i : goal.invariant-loop-i
invariant-loop-i l = l.best < length l.letters
