use Rattle.std.proofs.Common.{refl, ap, ◌∙◌, arith, take, [], ◌∷◌}
use Rattle.std.proofs.lemmas.List.{take_more, take_all}
use Rattle.lift_building.specs.Plan.{Plan}
use Rattle.lift_base.specs.declared.travel.Halt.{Halt}
use Rattle.lift_cost.specs.Ways.{leaves_after}
use Rattle.lift_cost.proofs.Weighted.{floor_after-append, leaves_after-append}
use Rattle.lift_cost.proofs.ways.go_along.Goals as goal

pub overflow_add-leaves-in-loop-halt : goal.overflow_add-leaves-in-loop-halt
overflow_add-leaves-in-loop-halt c = omega (arith, c.loop-halt.invariant.short, c.requires.soon, c.requires.few, c.flight.ensures.limit, c.door_ms-door_ms.ensures.limit)

pub loop-halt-preserved : goal.loop-halt-preserved
loop-halt-preserved c =
    let plan : Plan = c.args.building.now in
    let before = take c.loop-halt.halt-index c.args.halts.now in
    let halt : Halt = c.halt-item.result in
    let more = take_more c.args.halts.now c.loop-halt.halt-index halt (omega arith) in
    rw (more, ← c.halt-item.is, leaves_after-append plan c.args.floor c.args.leaves before (halt ∷ []), floor_after-append c.args.floor before (halt ∷ []), ← c.loop-halt.invariant.here) (record {
      here = refl;
      leaves = omega (arith, c.loop-halt.invariant.leaves, c.flight.ensures.value, c.door_ms-door_ms.ensures.value);
      short = omega (arith, c.loop-halt.invariant.short, c.flight.ensures.limit, c.door_ms-door_ms.ensures.limit);
    })

pub returns-clause-leaves : goal.returns-clause-leaves
returns-clause-leaves c = c.loop-halt.invariant.leaves ∙ ap (leaves_after c.args.building.now c.args.floor c.args.leaves) (take_all c.loop-halt.halt-index c.args.halts.now (omega arith))

pub returns-clause-limit : goal.returns-clause-limit
returns-clause-limit c = omega (arith, c.loop-halt.invariant.short, c.requires.few)
