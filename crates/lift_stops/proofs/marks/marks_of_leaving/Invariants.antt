use Rattle.std.proofs.Common.{All, take}
use Rattle.lift_stops.specs.StopList.{HasFloors}
use Rattle.lift_stops.specs.Marks.{HasHalts}
use Rattle.lift_stops.specs.Leaving.{AreLeaving, HasParty}
use Rattle.lift_stops.proofs.marks.marks_of_leaving.Given as goal

abbrev pub invariant-loop-row : goal.invariant-loop-row
invariant-loop-row l = record {
  marks : HasHalts (take l.row-index l.rows) l.position l.marks;
  floors : All HasFloors (take l.row-index l.rows);
  leaving : AreLeaving (take l.row-index l.rows) l.position l.leaving;
  parties : All HasParty (take l.row-index l.rows);
}
