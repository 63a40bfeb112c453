use Rattle.lift_stops.specs.lemmas.Halts.{stop_list-aboard, stop_list-waiting}
use Rattle.lift_stops.proofs.stops.insert_row.Goals as goal

pub returns-then-row-clause-halts : goal.returns-then-row-clause-halts
returns-then-row-clause-halts c rows same =
    rw (c.insert_halt.ensures.halts, c.pass_of-pass.ensures, same) (stop_list-aboard rows c.args.row.now c.args.position.now c.if-row.true c.insert_halt.ensures.floor)

pub returns-else-row-clause-halts : goal.returns-else-row-clause-halts
returns-else-row-clause-halts c rows same =
    rw (c.insert_halt-else-row-2.ensures.halts, c.insert_halt-else-row.ensures.halts, c.pass_of-pass.ensures, same)
    (stop_list-waiting rows c.args.row.now c.args.position.now c.if-row.false c.insert_halt-else-row.ensures.floor c.insert_halt-else-row-2.ensures.floor)
