use Rattle.std.proofs.Common.{◌-◌}
use Rattle.lift_journal.proofs.Walks.{Walking}
use Rattle.lift_journal.proofs.walk.walk.Given as goal

abbrev pub invariant-loop-front : goal.invariant-loop-front
invariant-loop-front g l = Walking g.V.Visitor.takes l.fn.visitor l.visitor (g.D.Disk.state l.fn.disk) (g.D.Disk.state l.disk) l.start l.end l.front

abbrev pub decreases-loop-front : goal.decreases-loop-front
decreases-loop-front g l = l.end - l.front.gate
