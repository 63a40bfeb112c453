use Rattle.std.proofs.Common.{sym, subst}
use Rattle.lift_stops.specs.Parts.{AllDiffer}
use Rattle.lift_stops.specs.StopList.{HasFloors}
use Rattle.lift_stops.specs.lemmas.Listed.{stops_differ}
use Rattle.lift_stops.specs.lemmas.Halts.{stop_list-own}
use Rattle.lift_stops.proofs.stops.stop_list.Goals as goal

pub returns-clause-differ : goal.returns-clause-differ
returns-clause-differ c = subst AllDiffer (sym c.write_halts.ensures.halts) (stops_differ c.args.rows.now c.args.position)

pub returns-clause-in_order : goal.returns-clause-in_order
returns-clause-in_order c row member apart position =
    let own : HasFloors row = rw (← member.2) (c.write_halts.ensures.floors member.0 row member.1) in
    stop_list-own c.args.rows.now row position member apart own
