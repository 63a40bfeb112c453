use Rattle.lift_register.specs.Base.{base_records}
use Rattle.lift_journal.proofs.Checkpoints.{Drafted}
use Rattle.lift_journal.proofs.checkpoint.write_batches.Given as goal

abbrev pub invariant-loop-index : goal.invariant-loop-index
invariant-loop-index g l = Drafted (g.D.Disk.state l.fn.disk) (g.D.Disk.state l.disk) l.start l.gate l.index (base_records l.register)
