use Rattle.lift_register.specs.Rows.{row_lists}
use Rattle.lift_register.specs.Register.{RegisterState}
use Rattle.lift_register.specs.lemmas.HistoryLemmas.{state_of}
use Rattle.lift_register.specs.lemmas.KeptLemmas.{IsWellFormed-last}
use Rattle.lift_register.proofs.registers.Register.keep_last.Goals as goal

pub invariant_of-self : goal.invariant_of-self
invariant_of-self c =
    let register : RegisterState = state_of (row_lists c.self.inside.rows) c.self.inside.lasts c.self.inside.done in
    rw c.get-index.ensures.value (IsWellFormed-last register c.args.terminal c.args.last.now c.self.invariant c.requires.written)
