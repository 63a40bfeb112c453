use Rattle.std.proofs.Common.{take, sym, ◌∙◌, arith}
use Rattle.std.proofs.lemmas.List.{take_more}
use Rattle.std.proofs.lemmas.List.Elements.{All-push, All-nil}
use Rattle.lift_stops.specs.StopList.{HasFloors}
use Rattle.lift_stops.proofs.marks.marks_of.Goals as goal
use Rattle.lift_stops.proofs.marks.marks_of.Goals.{in-First, in-Second, in-Third}

pub loop-row-init : goal.loop-row-init
loop-row-init c = record {
  marks = c.new-marks.ensures c.args.position.now;
  floors = All-nil HasFloors;
}

pub loop-row-preserved : goal.loop-row-preserved
loop-row-preserved c =
    let rows = take c.loop-row.row-index c.args.rows.now in
    let row = c.row-item.result in
    rw (take_more c.args.rows.now c.loop-row.row-index c.row-item.result (omega arith), ← c.row-item.is) (elim c.match-pass_of.branch [
      | in-First w ↦ rw w.marks-is (record {
        marks = w.insert.ensures.marks rows c.args.position.now (sym w.in-First.is ∙ c.pass_of.ensures) c.loop-row.invariant.marks;
        floors = All-push HasFloors rows row c.loop-row.invariant.floors w.insert.ensures.floors;
      })
      | in-Second w ↦ rw w.marks-is (record {
        marks = w.insert-in-Second.ensures.marks rows c.args.position.now (sym w.in-Second.is ∙ c.pass_of.ensures) c.loop-row.invariant.marks;
        floors = All-push HasFloors rows row c.loop-row.invariant.floors w.insert-in-Second.ensures.floors;
      })
      | in-Third w ↦ rw w.marks-is (record {
        marks = w.insert-in-Third.ensures.marks rows c.args.position.now (sym w.in-Third.is ∙ c.pass_of.ensures) c.loop-row.invariant.marks;
        floors = All-push HasFloors rows row c.loop-row.invariant.floors w.insert-in-Third.ensures.floors;
      })
    ])
