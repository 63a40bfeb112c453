use Rattle.std.proofs.Common.{arith}
use Rattle.lift_building.specs.Reading.{flight_in}
use Rattle.std.proofs.lemmas.Result.{err_from_is_err_and}
use Rattle.lift_building.proofs.Each.{each_goes_on, each_fails, each_is_done}
use Rattle.lift_building.proofs.reading.flights_among.Goals as goal

pub returns-in_err-flight_in : goal.returns-in_err-flight_in
returns-in_err-flight_in c =
    let p = err_from_is_err_and c.from_residual.result c.from_residual.ensures.1 in
    rw (p.1, p.2) (each_fails (flight_in c.args.i) _ c.args.items.now c.loop-j.j c.index-items-j.result c.in_err-flight_in.field-0.0 _ c.loop-j-test.true c.index-items-j.is c.in_err-flight_in.ensures c.loop-j.invariant.so_far)

pub loop-j-preserved : goal.loop-j-preserved
loop-j-preserved c = record {
  so_far = rw c.push.ensures.items (each_goes_on (flight_in c.args.i) _ c.args.items.now c.loop-j.j c.index-items-j.result _ _ c.loop-j-test.true c.index-items-j.is c.in_ok-flight_in.ensures c.loop-j.invariant.so_far);
  len = omega (arith, c.loop-j.invariant.len, c.push.ensures.len);
}

pub returns : goal.returns
returns c = each_is_done (flight_in c.args.i) _ c.args.items.now c.loop-j.j _ c.loop-j-test.false c.loop-j.invariant.so_far
