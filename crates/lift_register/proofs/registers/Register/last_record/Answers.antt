use Rattle.std.proofs.Common.{◌≡◌, ◌-◌, ◌+◌, ℕ, List, arith, ap, sym, ◌∙◌, length, drop, slice_get, cond}
use Rattle.std.specs.List.{flat_map}
use Rattle.lift_base.specs.declared.history.Record.{Record}
use Rattle.lift_register.specs.Base.{last_records}
use Rattle.lift_register.specs.Register.{terminals}
use Rattle.lift_register.proofs.ReadLemmas.{read-inside_terminals, read-past_terminals, read-end_terminals, length-last_records, last-read, first-of_option}
use Rattle.lift_register.proofs.registers.Register.last_record.Goals as goal
use Rattle.lift_register.proofs.registers.Register.last_record.Goals.{then-is_some+else-left-eq0, else-is_some}

pub returns-then-left-eq0 : goal.returns-then-left-eq0
returns-then-left-eq0 c =
    let some : length (last_records c.args.self.now c.loop-index.index) ≡ 1 =
    rw (length-last_records c.args.self.now c.loop-index.index, last-read _ _ c.index-self-index.result c.loop-index.index c.self.view_is (omega (arith, c.self.invariant.last_count, c.loop-index-test.true)) c.index-self-index.is) (grind (arith, c.if-is_some.true, c.is_some.ensures)) in
    sym (c.loop-index.invariant
    ∙ ap (λ (i : ℕ). slice_get (flat_map (last_records c.args.self.now) (drop c.loop-index.index terminals)) i) (omega (arith, c.if-left-eq0.true))
    ∙ read-inside_terminals (last_records c.args.self.now) c.loop-index.index 0 c.loop-index-test.true (omega (arith, some))
    ∙ ap (λ (list : List Record). slice_get list 0) (sym c.last_record_of.ensures)
    ∙ first-of_option {X = Record} c.last_record_of.result)

pub loop-index-preserved : goal.loop-index-preserved
loop-index-preserved c =
    let records = last_records c.args.self.now in
    let read : length (records c.loop-index.index) ≡ cond c.is_some.result 1 0 =
    rw (length-last_records c.args.self.now c.loop-index.index, last-read _ _ c.index-self-index.result c.loop-index.index c.self.view_is (omega (arith, c.self.invariant.last_count, c.loop-index-test.true)) c.index-self-index.is) (grind (arith, c.is_some.ensures)) in
    elim c.if-is_some.branch [
      | then-is_some+else-left-eq0 w ↦
          let one : length (records c.loop-index.index) ≡ 1 = grind (arith, read, w.if-is_some) in
          c.loop-index.invariant
          ∙ read-past_terminals records c.loop-index.index c.loop-index.left c.loop-index-test.true (omega (arith, one, w.if-left-eq0))
          ∙ ap (λ (n : ℕ). slice_get (flat_map records (drop (c.loop-index.index + 1) terminals)) n) (omega (arith, one, w.left-is))
      | else-is_some w ↦
          let none : length (records c.loop-index.index) ≡ 0 = grind (arith, read, w.if-is_some) in
          c.loop-index.invariant
          ∙ read-past_terminals records c.loop-index.index c.loop-index.left c.loop-index-test.true (omega (arith, none))
          ∙ ap (λ (n : ℕ). slice_get (flat_map records (drop (c.loop-index.index + 1) terminals)) n) (omega (arith, none, w.left-is))
    ]

pub returns : goal.returns
returns c =
    sym (c.loop-index.invariant ∙ read-end_terminals (last_records c.args.self.now) c.loop-index.index c.loop-index.left (omega arith))
