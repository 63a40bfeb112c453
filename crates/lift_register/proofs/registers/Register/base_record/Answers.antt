use Rattle.std.proofs.Common.{◌-◌, ℕ, Some, arith, ap, sym, ◌∙◌, slice_get}
use Rattle.std.specs.List.{flat_map}
use Rattle.lift_base.specs.Records.{IsRecord}
use Rattle.lift_base.specs.declared.history.Record.TheVariants.{Row as RowRecord, Done as DoneRecord}
use Rattle.lift_register.specs.Base.{base_records, last_records}
use Rattle.lift_register.specs.Register.{terminals}
use Rattle.lift_register.proofs.ReadLemmas.{base_record-row, base_record-past_rows, base_record-last, base_record-done}
use Rattle.lift_register.specs.lemmas.BaseLemmas.{IsRecord-base_records, All-slice_get}
use Rattle.lift_register.proofs.registers.Register.base_record.Goals as goal

pub overflow_sub-place : goal.overflow_sub-place
overflow_sub-place c = omega (arith, c.open_count.ensures.count, base_record-past_rows c.args.self.now c.args.place (sym c.in-None.is ∙ c.open_row.ensures))

pub returns-in-Some-clause-value : goal.returns-in-Some-clause-value
returns-in-Some-clause-value c = base_record-row c.args.self.now c.args.place c.in-Some.row (sym c.in-Some.is ∙ c.open_row.ensures)

pub returns-in-Some-clause-lawful : goal.returns-in-Some-clause-lawful
returns-in-Some-clause-lawful c = All-slice_get IsRecord (base_records c.args.self.now) c.args.place (RowRecord c.in-Some.row) (IsRecord-base_records c.args.self.now c.note_lawful.ensures) (returns-in-Some-clause-value c)

pub returns-in-Some-last_record-clause-value : goal.returns-in-Some-last_record-clause-value
returns-in-Some-last_record-clause-value c =
    base_record-last c.args.self.now c.args.place c.in-Some-last_record.record (base_record-past_rows c.args.self.now c.args.place (sym c.in-None.is ∙ c.open_row.ensures))
    (sym c.in-Some-last_record.is ∙ c.last_record.ensures ∙ ap (λ (n : ℕ). slice_get (flat_map (last_records c.args.self.now) terminals) (c.args.place - n)) c.open_count.ensures.count)

pub returns-in-Some-last_record-clause-lawful : goal.returns-in-Some-last_record-clause-lawful
returns-in-Some-last_record-clause-lawful c = All-slice_get IsRecord (base_records c.args.self.now) c.args.place c.in-Some-last_record.record (IsRecord-base_records c.args.self.now c.note_lawful.ensures) (returns-in-Some-last_record-clause-value c)

pub returns-in-None-last_record-clause-value : goal.returns-in-None-last_record-clause-value
returns-in-None-last_record-clause-value c =
    base_record-done c.args.self.now c.args.place (base_record-past_rows c.args.self.now c.args.place (sym c.in-None.is ∙ c.open_row.ensures))
    (sym c.in-None-last_record.is ∙ c.last_record.ensures ∙ ap (λ (n : ℕ). slice_get (flat_map (last_records c.args.self.now) terminals) (c.args.place - n)) c.open_count.ensures.count)
    c.requires.inside
    ∙ ap (λ (n : ℕ). Some (DoneRecord n)) (sym c.done.ensures.value)
