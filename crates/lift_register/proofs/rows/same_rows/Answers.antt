use Rattle.std.proofs.Common.{rules, ◌≡◌}
use Rattle.std.specs.Bool.{Decides}
use Rattle.lift_base.specs.declared.history.Row.{Row}
use Rattle.lift_register.specs.Rows.{row_lists}
use Rattle.lift_register.proofs.SameLemmas.{same_rows-Decides}
use Rattle.lift_register.proofs.rows.same_rows.Goals as goal

pub returns : goal.returns
returns c =
    let d : Decides c.eq.result (row_lists c.args.rows.now ≡ row_lists c.args.others.now) = same_rows-Decides (λ (a b : Row). search rules) c.args.rows.now c.args.others.now c.eq.result c.eq.ensures in
    search rules
