use Rattle.std.proofs.Common.{arith, length, sym, ap, ◌∙◌, ◌∷◌}
use Rattle.std.proofs.lemmas.Bool.{eqb-false}
use Rattle.std.specs.Str.Lines.{lines}
use Rattle.lift_replay.proofs.Sources.{cut_line, last_line}
use Rattle.lift_replay.proofs.source.next_line.Goals as goal

pub returns-in-None-clause-first : goal.returns-in-None-clause-first
returns-in-None-clause-first c =
    last_line c.args.text.now (let some = eqb-false (length c.args.text.now) 0 (sym c.is_empty.ensures ∙ c.if-is_empty.false) in omega (arith, some)) c.in-None.ensures.none

pub returns-in-Some-clause-first : goal.returns-in-Some-clause-first
returns-in-Some-clause-first c =
    let cut = c.in-Some in
    cut_line c.args.text.now cut.line.now cut.later.now cut.ensures.cut cut.ensures.first ∙ ap (λ line. line ∷ lines cut.later.now) (sym c.without_return.ensures)
