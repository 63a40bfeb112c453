use Rattle.std.proofs.Common.{◌<◌, List, subst, arith}
use Rattle.std.proofs.lemmas.List.{take_all}
use Rattle.std.proofs.lemmas.List.Elements.{All-more}
use Rattle.lift_base.specs.declared.history.Row.{Row}
use Rattle.lift_cost.specs.Calls.{AreWithin}
use Rattle.lift_cases.proofs.trip.are_within.Goals as goal

pub loop-row-preserved : goal.loop-row-preserved
loop-row-preserved c =
    let Within : Row → Type 0 = λ row. (row.from < c.args.floors) × (row.to < c.args.floors) in
    All-more Within c.args.rows.now c.loop-row.row-index c.row-item.result (omega arith) c.loop-row.invariant
    (rw (← c.row-item.is) (c.is_within.ensures c.if-not-is_within.false))

pub returns : goal.returns
returns c same =
    let Inside : List Row → Type 0 = λ rows. AreWithin c.args.floors rows in
    subst Inside (take_all c.loop-row.row-index c.args.rows.now (omega arith)) c.loop-row.invariant
