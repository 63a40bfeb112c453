use Rattle.std.proofs.Common.{arith}
use Rattle.std.proofs.lemmas.List.{map_push}
use Rattle.lift_building.specs.Reading.{row_in}
use Rattle.std.proofs.lemmas.Result.{err_from_is_err_and}
use Rattle.lift_building.proofs.Each.{each_goes_on, each_fails, each_is_done}
use Rattle.lift_building.proofs.reading.rows_among.Goals as goal

pub returns-in_err-row_in : goal.returns-in_err-row_in
returns-in_err-row_in c =
    let p = err_from_is_err_and c.from_residual.result c.from_residual.ensures.1 in
    rw (p.1, p.2) (each_fails (row_in c.args.floors) _ c.args.items.now c.loop-i.i c.index-items-i.result c.in_err-row_in.field-0.0 _ c.loop-i-test.true c.index-items-i.is c.in_err-row_in.ensures c.loop-i.invariant.so_far)

pub loop-i-preserved : goal.loop-i-preserved
loop-i-preserved c = record {
  so_far = rw (c.push.ensures.items, map_push (λ row. row.items) c.loop-i.table.items c.in_ok-row_in.field-0) (each_goes_on (row_in c.args.floors) _ c.args.items.now c.loop-i.i c.index-items-i.result _ _ c.loop-i-test.true c.index-items-i.is c.in_ok-row_in.ensures c.loop-i.invariant.so_far);
  len = omega (arith, c.loop-i.invariant.len, c.push.ensures.len);
}

pub returns : goal.returns
returns c = each_is_done (row_in c.args.floors) _ c.args.items.now c.loop-i.i _ c.loop-i-test.false c.loop-i.invariant.so_far
