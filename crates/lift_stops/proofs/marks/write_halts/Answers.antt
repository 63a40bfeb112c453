use Rattle.std.proofs.Common.{arith, ap, ◌∙◌, List, length}
use Rattle.lift_base.specs.declared.travel.Halt.{Halt}
use Rattle.lift_stops.proofs.Marked.{marked-stops, short}
use Rattle.lift_stops.proofs.marks.write_halts.Goals as goal

pub write-requires : goal.write-requires
write-requires c =
    let listed = ap (λ (halts : List Halt). length halts) (marked-stops c.args.rows.now c.args.position.now c.marks_of.result c.marks_of.ensures.marks) in
    let count = short c.args.rows.now c.args.position.now c.marks_of.ensures.floors in
    omega (arith, listed, count)

pub returns-clause-halts : goal.returns-clause-halts
returns-clause-halts c = c.write.ensures ∙ marked-stops c.args.rows.now c.args.position.now c.marks_of.result c.marks_of.ensures.marks

pub returns-clause-count : goal.returns-clause-count
returns-clause-count c =
    let listed = ap (λ (halts : List Halt). length halts) (c.write.ensures ∙ marked-stops c.args.rows.now c.args.position.now c.marks_of.result c.marks_of.ensures.marks) in
    let count = short c.args.rows.now c.args.position.now c.marks_of.ensures.floors in
    omega (arith, listed, count)
