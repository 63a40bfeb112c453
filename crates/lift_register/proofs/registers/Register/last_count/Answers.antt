use Rattle.std.proofs.Common.{arith, length, ◌∙◌}
use Rattle.lift_register.specs.Base.{last_records}
use Rattle.lift_register.proofs.ReadLemmas.{sum_by-below_more, length-last_records, last-read, length_over_all_terminals}
use Rattle.lift_register.proofs.registers.Register.last_count.Goals as goal

pub loop-terminal-preserved : goal.loop-terminal-preserved
loop-terminal-preserved c = record {
  counted = rw (sum_by-below_more (λ terminal. length (last_records c.args.self.now terminal)) c.loop-terminal.terminal, length-last_records c.args.self.now c.loop-terminal.terminal, last-read _ _ c.index-self-terminal.result c.loop-terminal.terminal c.self.view_is (omega (arith, c.self.invariant.last_count, c.loop-terminal-test.true)) c.index-self-terminal.is) (grind (arith, c.loop-terminal.invariant.counted, c.from-count.ensures, c.is_some.ensures));
  few = grind (arith, c.loop-terminal.invariant.few, c.from-count.ensures, c.is_some.ensures);
}

pub returns-clause-count : goal.returns-clause-count
returns-clause-count c =
    c.loop-terminal.invariant.counted ∙ length_over_all_terminals (last_records c.args.self.now) c.loop-terminal.terminal (omega arith)
