use Rattle.std.proofs.Common.{◌≡◌, ◌<◌, arith, ap, length, refl, List, ◌∙◌}
use Rattle.std.proofs.lemmas.List.{length-map}
use Rattle.arrayvec.specs.declared.array_vec.ArrayVec.{ArrayVec}
use Rattle.lift_base.specs.declared.limits.TheConstants.{MOST_CARS, MOST_ROWS}
use Rattle.lift_base.specs.declared.history.Row.{Row}
use Rattle.lift_register.specs.Register.{rows_of}
use Rattle.lift_register.proofs.ReadLemmas.{sum_by-below_more, rows-read, sum_over_all_cars}
use Rattle.lift_register.proofs.registers.Register.open_count.Goals as goal

pub loop-rows-preserved : goal.loop-rows-preserved
loop-rows-preserved c =
    let within : c.loop-rows.rows-index < length c.self.inside.rows = omega (arith, length-map c.self.inside.rows (λ (list : ArrayVec Row MOST_ROWS (Unit {0})). list.items), c.self.invariant.row_count, c.loop-rows-test.true) in
    let items : rows_of c.args.self.now c.loop-rows.rows-index ≡ c.rows-item.result.items = rows-read _ _ c.self.inside.rows c.rows-item.result c.loop-rows.rows-index c.self.view_is refl within c.rows-item.is in
    record {
      counted = omega (arith, sum_by-below_more (λ car. length (rows_of c.args.self.now car)) c.loop-rows.rows-index, ap (λ (rows : List Row). length rows) items, c.loop-rows.invariant.counted, c.len.ensures.value, ap (λ (list : ArrayVec Row MOST_ROWS (Unit {0})). length list.items) c.rows-item.is);
      few = omega (arith, c.loop-rows.invariant.few, c.len.ensures.fits);
    }

pub returns-clause-count : goal.returns-clause-count
returns-clause-count c =
    let end : c.loop-rows.rows-index ≡ MOST_CARS = omega (arith, length-map c.self.inside.rows (λ (list : ArrayVec Row MOST_ROWS (Unit {0})). list.items), c.self.invariant.row_count) in
    c.loop-rows.invariant.counted ∙ sum_over_all_cars (λ car. length (rows_of c.args.self.now car)) c.loop-rows.rows-index end
