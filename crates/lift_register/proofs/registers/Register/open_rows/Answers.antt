use Rattle.std.proofs.Common.{◌≡◌, ◌<◌, All, List, sym, ◌∙◌, arith, length, subst, ap}
use Rattle.std.proofs.lemmas.List.{length-map}
use Rattle.arrayvec.specs.declared.array_vec.ArrayVec.{ArrayVec}
use Rattle.lift_base.specs.declared.limits.TheConstants.{MOST_ROWS}
use Rattle.lift_base.specs.Records.{IsRecord}
use Rattle.lift_base.specs.declared.history.Row.{Row}
use Rattle.lift_base.specs.declared.history.Record.TheVariants.{Row as RowRecord}
use Rattle.lift_register.specs.Register.{RegisterState, rows_of}
use Rattle.lift_register.specs.Rows.{row_lists}
use Rattle.lift_register.specs.lemmas.HistoryLemmas.{state_of}
use Rattle.lift_register.proofs.ReadLemmas.{row_lists-at}
use Rattle.lift_register.proofs.registers.Register.open_rows.Goals as goal

pub returns-clause-own : goal.returns-clause-own
returns-clause-own c =
    let register : RegisterState = state_of (row_lists c.self.inside.rows) c.self.inside.lasts c.self.inside.done in
    let within : c.get.result < length c.self.inside.rows = omega (arith, length-map c.self.inside.rows (λ (list : ArrayVec Row MOST_ROWS (Unit {0})). list.items), c.self.invariant.row_count, c.get.ensures.in_range) in
    let is : c.as_slice.result.now ≡ rows_of register c.args.car = c.as_slice.ensures.value ∙ sym (row_lists-at c.self.inside.rows c.get.result c.index-self-get.result within) ∙ ap (λ i. rows_of register i) c.get.ensures.value in
    subst (λ (rows : List Row). All (λ (row : Row). row.car ≡ c.args.car) rows) (sym is) (c.self.invariant.own_cars c.args.car)

pub returns-clause-records : goal.returns-clause-records
returns-clause-records c =
    let register : RegisterState = state_of (row_lists c.self.inside.rows) c.self.inside.lasts c.self.inside.done in
    let within : c.get.result < length c.self.inside.rows = omega (arith, length-map c.self.inside.rows (λ (list : ArrayVec Row MOST_ROWS (Unit {0})). list.items), c.self.invariant.row_count, c.get.ensures.in_range) in
    let is : c.as_slice.result.now ≡ rows_of register c.args.car = c.as_slice.ensures.value ∙ sym (row_lists-at c.self.inside.rows c.get.result c.index-self-get.result within) ∙ ap (λ i. rows_of register i) c.get.ensures.value in
    subst (λ (rows : List Row). All (λ (row : Row). IsRecord (RowRecord row)) rows) (sym is) (c.self.invariant.rows c.args.car)
