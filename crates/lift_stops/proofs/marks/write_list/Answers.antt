use Rattle.std.proofs.Common.{arith, ap, ◌∙◌, List, length}
use Rattle.lift_base.specs.declared.travel.Halt.{Halt}
use Rattle.lift_stops.proofs.Marked.{marked-stops, short}
use Rattle.lift_stops.proofs.marks.write_list.Goals as goal

pub write-requires : goal.write-requires
write-requires c =
    let listed = ap (λ (halts : List Halt). length halts) (marked-stops c.args.rows.now c.args.position.now c.marks_of_leaving.result c.marks_of_leaving.ensures.marks) in
    let count = short c.args.rows.now c.args.position.now c.marks_of_leaving.ensures.floors in
    omega (arith, listed, count)

pub returns : goal.returns
returns c = record {
  listed = c.write.ensures ∙ marked-stops c.args.rows.now c.args.position.now c.marks_of_leaving.result c.marks_of_leaving.ensures.marks;
  floors = c.marks_of_leaving.ensures.floors;
  parties = c.marks_of_leaving.ensures.parties;
  leaving = c.marks_of_leaving.ensures.leaving;
}

pub marks_of_leaving-requires-clause-nobody : goal.marks_of_leaving-requires-clause-nobody
marks_of_leaving-requires-clause-nobody c = c.new.ensures c.args.position.now
