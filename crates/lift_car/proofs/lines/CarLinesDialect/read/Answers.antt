use Rattle.lift_car.proofs.Moves.{wants_a_move}
use Rattle.lift_car.proofs.lines.CarLinesDialect.read.Goals as goal

pub returns-in-None-clause-none : goal.returns-in-None-clause-none
returns-in-None-clause-none c = wants_a_move c.args.line.now c.in-None.ensures.none
