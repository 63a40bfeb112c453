use Rattle.lift_disk.proofs.Fills.{IsClearedTo}
use Rattle.lift_disk.proofs.in_memory.clear.Given as goal

abbrev pub invariant-loop-i : goal.invariant-loop-i
invariant-loop-i l = IsClearedTo l.i l.initial.flags.items l.flags.items
