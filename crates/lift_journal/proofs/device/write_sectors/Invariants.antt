use Rattle.std.proofs.Common.{◌≡◌, ◌+◌}
use Rattle.lift_journal.proofs.Writes.{Written}
use Rattle.lift_journal.proofs.device.write_sectors.Given as goal

abbrev pub invariant-loop-sector : goal.invariant-loop-sector
invariant-loop-sector g l =
    record {
      at : l.at ≡ l.first + l.sector-index;
      written : Written (g.D.Disk.state l.fn.disk) (g.D.Disk.state l.disk) l.first l.sectors l.sector-index;
    }
