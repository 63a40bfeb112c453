use Rattle.std.proofs.Common.{rules, ◌≡◌}
use Rattle.std.specs.Bool.{Decides}
use Rattle.std.proofs.lemmas.Slice.Eq.{slice_eq-Decides}
use Rattle.lift_base.specs.declared.history.Last.{Last}
use Rattle.lift_register.proofs.SameLemmas.{option_eq-Decides}
use Rattle.lift_register.proofs.rows.same_lasts.Goals as goal

pub returns : goal.returns
returns c =
    let d : Decides c.eq.result (c.args.lasts.now ≡ c.args.others.now) = slice_eq-Decides (option_eq-Decides (λ (a b : Last). search rules)) c.args.lasts.now c.args.others.now c.eq.result c.eq.ensures in
    search rules
