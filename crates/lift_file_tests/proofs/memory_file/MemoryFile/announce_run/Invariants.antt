use Rattle.lift_file_tests.specs.Held.{OpensRun, held}
use Rattle.lift_file_tests.proofs.memory_file.MemoryFile.announce_run.Given as goal

abbrev pub invariant-loop-i : goal.invariant-loop-i
invariant-loop-i l = OpensRun l.from l.i (held l.fn.self) (held l.self)
