use Rattle.std.proofs.Common.{length}
use Rattle.lift_disk.specs.Places.{all_now}
use Rattle.lift_disk.proofs.MemoryRuns.{IsReadTo}
use Rattle.lift_disk.proofs.in_memory.read_sectors.Given as goal

abbrev pub invariant-loop-i : goal.invariant-loop-i
invariant-loop-i l = IsReadTo (length l.initial.room) l.from l.i (all_now l.sectors) l.room
