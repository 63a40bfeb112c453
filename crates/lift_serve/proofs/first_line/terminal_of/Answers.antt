use Rattle.std.proofs.Common.{subst, arith, rules}
use Rattle.std.proofs.lemmas.Grind.{common_steps}
use Rattle.lift_base.specs.Text.{AreWords}
use Rattle.lift_base.specs.lemmas.Texts.{none_weaker, texts}
use Rattle.lift_kiosk.specs.Lines.{Buffers65}
use Rattle.lift_kiosk.specs.lemmas.Lines.{kept_whole}
use Rattle.lift_serve.proofs.FirstLines.{line_some, line_none, names_few_words}
use Rattle.lift_serve.proofs.first_line.terminal_of.Goals as goal

pub returns-in-Some-clause-some : goal.returns-in-Some-clause-some
returns-in-Some-clause-some c bytes keeps =
    let whole = kept_whole bytes _ (subst (Buffers65 bytes c.args.line.now.bytes.items) c.if-line.false keeps) in
    let named = line_some c.named_by.result c.cars-cars.result c.kiosks-kiosks.result c.without_return.result.now in
    grind (arith, common_steps)

pub returns-in-Some-clause-none : goal.returns-in-Some-clause-none
returns-in-Some-clause-none c bytes keeps =
    let whole = kept_whole bytes _ (subst (Buffers65 bytes c.args.line.now.bytes.items) c.if-line.false keeps) in
    let are : AreWords c.without_return.result.now (texts c.as_slice.result.now) = search rules in
    none_weaker c.named_by.result _ _ (λ refuses terminal speaks. refuses terminal (search rules))
    (line_none c.named_by.result c.cars-cars.result c.kiosks-kiosks.result c.without_return.result.now _ are c.named_by.ensures.none)

pub returns-in-None-clause-none : goal.returns-in-None-clause-none
returns-in-None-clause-none c bytes keeps terminal speaks =
    let whole = kept_whole bytes _ (subst (Buffers65 bytes c.args.line.now.bytes.items) c.if-line.false keeps) in
    names_few_words c.cars-cars.result c.kiosks-kiosks.result c.without_return.result.now c.cars-cars.ensures.limit.1 c.kiosks-kiosks.ensures.limit.1 c.in-None.ensures.none terminal
    (search rules)
