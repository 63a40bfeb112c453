use Rattle.std.proofs.Common.{◌<◌, subst, sym, length}
use Rattle.lift_base.specs.declared.limits.TheConstants.{MOST_ROWS}
use Rattle.lift_register.specs.Rows.{row_lists}
use Rattle.lift_register.specs.Register.{RegisterState, rows_of}
use Rattle.lift_register.specs.lemmas.HistoryLemmas.{state_of}
use Rattle.lift_register.specs.lemmas.KeptLemmas.{IsWellFormed-row}
use Rattle.lift_register.proofs.registers.Register.add_row.Goals as goal

pub invariant_of-self : goal.invariant_of-self
invariant_of-self c =
    let register : RegisterState = state_of (row_lists c.self.inside.rows) c.self.inside.lasts c.self.inside.done in
    rw c.push_row.ensures.rows (IsWellFormed-row register c.args.row.now c.self.invariant c.requires.written (subst (λ (r : RegisterState). length (rows_of r c.args.row.now.car) < MOST_ROWS) (sym c.self.view_is) c.requires.room))
