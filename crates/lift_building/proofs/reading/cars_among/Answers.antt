use Rattle.std.proofs.Common.{arith}
use Rattle.std.proofs.lemmas.List.{map_push}
use Rattle.lift_building.specs.Layout.{car_view}
use Rattle.lift_building.specs.Reading.{car_in}
use Rattle.std.proofs.lemmas.Result.{err_from_is_err_and}
use Rattle.lift_building.proofs.Each.{each_goes_on, each_fails, each_is_done}
use Rattle.lift_building.proofs.reading.cars_among.Goals as goal

pub returns-in_err-car_in : goal.returns-in_err-car_in
returns-in_err-car_in c =
    let p = err_from_is_err_and c.from_residual.result c.from_residual.ensures.1 in
    rw (p.1, p.2) (each_fails (λ _. car_in c.args.floors) _ c.args.items.now c.loop-item.item-index c.item-item.result c.in_err-car_in.field-0.0 _ c.loop-item-test.true c.item-item.is c.in_err-car_in.ensures c.loop-item.invariant.so_far)

pub loop-item-preserved : goal.loop-item-preserved
loop-item-preserved c = record {
  so_far = rw (c.push.ensures.items, map_push car_view c.loop-item.cars.items c.in_ok-car_in.field-0) (each_goes_on (λ _. car_in c.args.floors) _ c.args.items.now c.loop-item.item-index c.item-item.result _ _ c.loop-item-test.true c.item-item.is c.in_ok-car_in.ensures c.loop-item.invariant.so_far);
  len = omega (arith, c.loop-item.invariant.len, c.push.ensures.len);
}

pub returns : goal.returns
returns c = each_is_done (λ _. car_in c.args.floors) _ c.args.items.now c.loop-item.item-index _ c.loop-item-test.false c.loop-item.invariant.so_far
