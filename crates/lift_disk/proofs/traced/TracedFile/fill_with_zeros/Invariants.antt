use Rattle.lift_disk.specs.Holding.{IsSameFile}
use Rattle.lift_disk.specs.Traced.{IsMaking, file_of, zero_writes}
use Rattle.lift_disk.proofs.traced.TracedFile.fill_with_zeros.Given as goal

abbrev pub invariant-loop-i : goal.invariant-loop-i
invariant-loop-i g l =
    IsMaking g.F.ListedFile.gives (zero_writes l.sectors l.i) l.fn.self l.self
    × IsSameFile (g.F.ListedFile.holds (file_of l.fn.self)) (g.F.ListedFile.holds (file_of l.self))
