use Rattle.std.proofs.Common.{◌∙◌, arith}
use Rattle.std.proofs.Math.ListN.{length-set}
use Rattle.lift_stops.proofs.Marked.{one_joins}
use Rattle.lift_stops.proofs.marks.Marks.insert.Goals as goal

pub returns-clause-marks : goal.returns-clause-marks
returns-clause-marks c rows position its has = record {
  size = length-set c.args.self.now.sets c.place_of.result _ ∙ has.size;
  needed = λ pass floor below. one_joins rows c.args.row.now position c.args.pass pass c.args.self.now.sets c.place_of.result c.legs_of.result floor its c.place_of.ensures.value
      (omega (arith, has.size, c.place_of.ensures.limit)) (has.needed pass floor below) (c.legs_of.ensures.bits floor below);
}
