use Rattle.std.proofs.Common.{◌≡◌, ◌==◌, false, ◌-◌, ◌≤◌, ℕ, zero, suc, List, length, get_or, sym, ap, ◌∙◌, Option, Some, arith}
use Rattle.std.proofs.lemmas.List.{take_all}
use Rattle.lift_base.specs.declared.history.Record.{Record}
use Rattle.lift_journal.specs.Order.{last_record_after}
use Rattle.lift_journal.specs.lemmas.Orders.{last_more}
use Rattle.lift_journal.proofs.order.pass_records.Goals as goal

-- the last of some records
last_is : (last : Option Record) (records : List Record) (blank : Record) → 1 ≤ length records
    → last_record_after last records ≡ Some (get_or records (length records - 1) blank)
last_is last records blank some =
    let whole : length records ≤ suc (length records - 1) = omega arith in
    ap (last_record_after last) (sym (take_all (suc (length records - 1)) records whole))
    ∙ last_more last records (length records - 1) blank (omega (arith, some))

some_then : (n : ℕ) → (n == 0) ≡ false → 1 ≤ n
some_then zero is = absurd (cc is)
some_then (suc n) is = omega arith

pub returns-clause-passed : goal.returns-clause-passed
returns-clause-passed c _ =
    let records = c.args.records.now in
    let end = c.index-records-records.result in
    ap (λ (r : Record). Some r) c.index-records-records.is ∙ sym (last_is c.args.last.now records end (some_then (length records) (sym c.is_empty.ensures ∙ c.if-is_empty.false)))
