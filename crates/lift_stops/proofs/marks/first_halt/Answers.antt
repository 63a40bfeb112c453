use Rattle.std.proofs.Common.{List, slice_get, ap, ◌∙◌}
use Rattle.lift_base.specs.declared.travel.Halt.{Halt}
use Rattle.lift_stops.proofs.Marked.{marked-stops}
use Rattle.lift_stops.proofs.marks.first_halt.Goals as goal

pub returns : goal.returns
returns c = c.first_halt.ensures ∙ ap (λ (halts : List Halt). slice_get halts 0) (marked-stops c.args.rows.now c.args.position.now c.marks_of.result c.marks_of.ensures.marks)
