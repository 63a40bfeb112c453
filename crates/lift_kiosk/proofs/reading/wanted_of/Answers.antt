use Rattle.std.proofs.Common.{List, ℕ, ap, ◌∙◌, subst}
use Rattle.std.specs.Prelude.{IfSome, IfNone}
use Rattle.std.specs.Str.Lines.{strip_carriage_return}
use Rattle.lift_kiosk.specs.Lines.{Buffers65}
use Rattle.lift_kiosk.specs.declared.dialect.Wanted.{Wanted}
use Rattle.lift_kiosk.specs.lemmas.Lines.{kept_whole}
use Rattle.lift_kiosk.proofs.reading.wanted_of.Goals as goal

pub returns-clause-some : goal.returns-clause-some
returns-clause-some g c bytes keeps =
    let whole = kept_whole bytes _ (subst (Buffers65 bytes c.args.line.now.bytes.items) c.if-line.false keeps) in
    let same = c.without_return.ensures ∙ ap strip_carriage_return (c.deref.ensures.0 ∙ whole) in
    subst (λ (line : List ℕ). IfSome c.read.result (λ wanted. g.T.Dialect.wants line wanted)) same c.read.ensures.some

pub returns-clause-none : goal.returns-clause-none
returns-clause-none g c bytes keeps =
    let whole = kept_whole bytes _ (subst (Buffers65 bytes c.args.line.now.bytes.items) c.if-line.false keeps) in
    let same = c.without_return.ensures ∙ ap strip_carriage_return (c.deref.ensures.0 ∙ whole) in
    subst (λ (line : List ℕ). IfNone c.read.result ((wanted : Wanted) → g.T.Dialect.wants line wanted → ⊥)) same c.read.ensures.none
