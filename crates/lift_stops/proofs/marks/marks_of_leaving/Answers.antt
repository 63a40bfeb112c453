use Rattle.std.proofs.Common.{take, arith}
use Rattle.std.proofs.lemmas.List.{take_more, length-take-le}
use Rattle.std.proofs.lemmas.List.Elements.{All-push, All-nil}
use Rattle.lift_stops.specs.StopList.{HasFloors}
use Rattle.lift_stops.specs.Leaving.{HasParty}
use Rattle.lift_stops.proofs.marks.marks_of_leaving.Goals as goal

pub loop-row-init : goal.loop-row-init
loop-row-init c = record {
  marks = c.new-marks.ensures c.args.position.now;
  floors = All-nil HasFloors;
  leaving = c.requires.nobody;
  parties = All-nil HasParty;
}

pub loop-row-preserved : goal.loop-row-preserved
loop-row-preserved c =
    rw (take_more c.args.rows.now c.loop-row.row-index c.row-item.result (omega arith), ← c.row-item.is) (record {
      marks = c.insert.ensures.marks _ c.args.position.now c.pass_tested-pass.ensures c.loop-row.invariant.marks;
      floors = All-push HasFloors (take c.loop-row.row-index c.args.rows.now) c.row-item.result c.loop-row.invariant.floors c.insert.ensures.floors;
      leaving = c.add.ensures.added (take c.loop-row.row-index c.args.rows.now) c.args.position.now (let before = length-take-le c.loop-row.row-index c.args.rows.now (omega arith) in omega (arith, before)) c.pass_tested-pass.ensures c.loop-row.invariant.leaving;
      parties = All-push HasParty (take c.loop-row.row-index c.args.rows.now) c.row-item.result c.loop-row.invariant.parties c.add.ensures.party;
    })
