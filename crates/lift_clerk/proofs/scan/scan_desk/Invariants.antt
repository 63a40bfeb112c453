use Rattle.std.proofs.Common.{◌≤◌, length}
use Rattle.lift_clerk.proofs.scan.scan_desk.Given as goal

abbrev pub invariant-loop-t : goal.invariant-loop-t
invariant-loop-t g l = record {
  scanned : g.S.DeskScan.has_scanned l.desk l.fn.scanner l.scanner l.found.items l.t;
  few : length l.found.items ≤ l.t;
}
