-- After a cut of the power.
use Rattle.lift_disk.specs.Disk.{DiskState, Image, LeavesNow}
use Rattle.lift_disk.specs.Outcomes.{IsCut}

-- what held of all that a crash might leave holds again of all that a further one may leave
pub cut_leaves : (old new : DiskState) (P : Image → Type 0) → IsCut old new → LeavesNow old P → LeavesNow new P
cut_leaves old new P cut leaves honest left is = leaves (cut.honest.0 honest) left (cut.again left is)
