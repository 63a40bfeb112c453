use Rattle.std.proofs.Common.{ap, arith}
use Rattle.lift_base.specs.declared.travel.Halt.{Halt}
use Rattle.lift_building.specs.Plan.{Plan}
use Rattle.lift_cost.specs.Delays.{persons_in}
use Rattle.lift_cost.proofs.Joining.{apart_joins}
use Rattle.lift_cost.proofs.among.later_by_ride.Goals as goal

pub returns-clause-joins : goal.returns-clause-joins
returns-clause-joins c rows row are waits apart boards-is leaves-is =
    let plan : Plan = c.args.building.now in
    let lawful = c.floors-lawful.ensures.lawful in
    let few = lawful.limits.few_floors in
    let from-is = ap (λ (h : Halt). h.floor) boards-is in
    let to-is = ap (λ (h : Halt). h.floor) leaves-is in
    apart_joins plan c.args.position.now rows row c.args.halts.now c.stop_at-ways.result.2.now c.args.leaving.now c.args.boards.now c.args.goal.now c.new-ways.result c.stop_at-ways.result.0 c.stop_at-ways.result.1 _ _ lawful are
    waits apart (omega (arith, from-is, few, c.requires.boards)) (omega (arith, to-is, few, c.requires.goal)) boards-is leaves-is
    (c.new-ways.ensures.start plan (persons_in c.args.leaving.now)) c.stop_at-ways.ensures.on c.end_at.ensures.on
