use Rattle.std.proofs.Common.{All, take}
use Rattle.lift_stops.specs.Leaving.{AreLeaving, HasParty}
use Rattle.lift_stops.proofs.leaving.Leaving.of.Given as goal

abbrev pub invariant-loop-row : goal.invariant-loop-row
invariant-loop-row l = record {
  leaving : AreLeaving (take l.row-index l.rows) l.position l.leaving;
  parties : All HasParty (take l.row-index l.rows);
}
