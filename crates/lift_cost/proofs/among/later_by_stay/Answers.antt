use Rattle.std.proofs.Common.{ap, arith}
use Rattle.lift_base.specs.declared.travel.Halt.{Halt}
use Rattle.lift_building.specs.Plan.{Plan}
use Rattle.lift_cost.specs.Delays.{persons_in}
use Rattle.lift_cost.proofs.Joining.{staying_joins}
use Rattle.lift_cost.proofs.among.later_by_stay.Goals as goal

pub returns-clause-joins : goal.returns-clause-joins
returns-clause-joins c rows row are waits stays leaves-is =
    let plan : Plan = c.args.building.now in
    let lawful = c.floors-lawful.ensures.lawful in
    let few = lawful.limits.few_floors in
    let to-is = ap (λ (h : Halt). h.floor) leaves-is in
    staying_joins plan c.args.position.now rows row c.args.halts.now c.args.leaving.now c.args.goal.now c.new-ways.result _ _ lawful are
    waits stays (omega (arith, to-is, stays, few, c.requires.goal)) (omega (arith, to-is, few, c.requires.goal)) leaves-is
    (c.new-ways.ensures.start plan (persons_in c.args.leaving.now)) c.end_at.ensures.on
