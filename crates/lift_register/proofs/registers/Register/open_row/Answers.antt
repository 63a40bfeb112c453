use Rattle.std.proofs.Common.{◌≡◌, ℕ, ◌-◌, ◌+◌, ◌<◌, ◌≤◌, List, arith, ap, length, refl, sym, ◌∙◌, drop, get_or, slice_get, Some}
use Rattle.std.specs.List.{flat_map}
use Rattle.std.proofs.lemmas.List.{length-map}
use Rattle.std.proofs.lemmas.Option.{slice_get-get_or}
use Rattle.arrayvec.specs.declared.array_vec.ArrayVec.{ArrayVec}
use Rattle.lift_base.specs.declared.limits.TheConstants.{MOST_CARS, MOST_ROWS}
use Rattle.lift_base.specs.declared.history.Row.{Row}
use Rattle.lift_register.specs.Register.{rows_of, cars}
use Rattle.lift_register.proofs.ReadLemmas.{read-inside_cars, read-past_cars, read-end_cars, rows-read}
use Rattle.lift_register.proofs.registers.Register.open_row.Goals as goal

pub returns-then-left-len : goal.returns-then-left-len
returns-then-left-len c =
    let within : c.loop-rows.rows-index < length c.self.inside.rows = omega (arith, length-map c.self.inside.rows (λ (list : ArrayVec Row MOST_ROWS (Unit {0})). list.items), c.self.invariant.row_count, c.loop-rows-test.true) in
    let items : rows_of c.args.self.now c.loop-rows.rows-index ≡ c.rows-item.result.items = rows-read _ _ c.self.inside.rows c.rows-item.result c.loop-rows.rows-index c.self.view_is refl within c.rows-item.is in
    sym (c.loop-rows.invariant
    ∙ read-inside_cars (rows_of c.args.self.now) c.loop-rows.rows-index c.loop-rows.left c.loop-rows-test.true (omega (arith, ap (λ (rows : List Row). length rows) items, c.len.ensures.value, c.if-left-len.true, ap (λ (list : ArrayVec Row MOST_ROWS (Unit {0})). length list.items) c.rows-item.is))
    ∙ slice_get-get_or (rows_of c.args.self.now c.loop-rows.rows-index) c.loop-rows.left c.index-deref-left.result (omega (arith, ap (λ (rows : List Row). length rows) items, c.len.ensures.value, c.if-left-len.true, ap (λ (list : ArrayVec Row MOST_ROWS (Unit {0})). length list.items) c.rows-item.is))
    ∙ ap (λ (row : Row). Some row) (sym (c.index-deref-left.is ∙ ap (λ (rows : List Row). get_or rows c.loop-rows.left c.index-deref-left.result) (c.deref.ensures.0 ∙ ap (λ (list : ArrayVec Row MOST_ROWS (Unit {0})). list.items) (sym c.rows-item.is) ∙ sym items))))

pub loop-rows-preserved : goal.loop-rows-preserved
loop-rows-preserved c =
    let within : c.loop-rows.rows-index < length c.self.inside.rows = omega (arith, length-map c.self.inside.rows (λ (list : ArrayVec Row MOST_ROWS (Unit {0})). list.items), c.self.invariant.row_count, c.loop-rows-test.true) in
    let items : rows_of c.args.self.now c.loop-rows.rows-index ≡ c.rows-item.result.items = rows-read _ _ c.self.inside.rows c.rows-item.result c.loop-rows.rows-index c.self.view_is refl within c.rows-item.is in
    let count : length (rows_of c.args.self.now c.loop-rows.rows-index) ≡ c.len-left.result = omega (arith, ap (λ (rows : List Row). length rows) items, c.len-left.ensures.value, ap (λ (list : ArrayVec Row MOST_ROWS (Unit {0})). length list.items) c.rows-item.is) in
    c.loop-rows.invariant ∙ read-past_cars (rows_of c.args.self.now) c.loop-rows.rows-index c.loop-rows.left c.loop-rows-test.true (omega (arith, ap (λ (rows : List Row). length rows) items, c.len.ensures.value, c.if-left-len.false, ap (λ (list : ArrayVec Row MOST_ROWS (Unit {0})). length list.items) c.rows-item.is)) ∙ ap (λ (n : ℕ). slice_get (flat_map (rows_of c.args.self.now) (drop (c.loop-rows.rows-index + 1) cars)) (c.loop-rows.left - n)) count

pub returns : goal.returns
returns c =
    let end : MOST_CARS ≤ c.loop-rows.rows-index = omega (arith, length-map c.self.inside.rows (λ (list : ArrayVec Row MOST_ROWS (Unit {0})). list.items), c.self.invariant.row_count) in
    sym (c.loop-rows.invariant ∙ read-end_cars (rows_of c.args.self.now) c.loop-rows.rows-index c.loop-rows.left end)
