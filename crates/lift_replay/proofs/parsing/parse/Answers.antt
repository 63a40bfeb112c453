use Rattle.std.proofs.Common.{ap, sym, ◌∙◌}
use Rattle.std.specs.Prelude.{codes}
use Rattle.lift_base.specs.lemmas.Texts.{first_and_others, texts}
use Rattle.lift_base.specs.lemmas.Words.{other_text, same_text}
use Rattle.lift_replay.proofs.Words.{line_read, line_unread, turn_read}
use Rattle.lift_replay.proofs.parsing.parse.Goals as goal

pub returns-then-eq-clause-some : goal.returns-then-eq-clause-some
returns-then-eq-clause-some c = turn_read c.args.line.now (same_text c.args.line.now (codes "turn") (sym c.eq.ensures ∙ c.if-eq.true))

pub returns-in-len1-up-clause-some : goal.returns-in-len1-up-clause-some
returns-in-len1-up-clause-some c =
    line_read c.args.line.now (texts c.in_ok-words.words.items) _ c.in_ok-words.ensures.some (ap texts (sym c.as_slice.ensures.value) ∙ first_and_others c.as_slice.result.now _ c.in-len1-up.len_at_least) (other_text c.args.line.now (codes "turn") (sym c.eq.ensures ∙ c.if-eq.false)) c.asked_by.result c.asked_by.ensures

pub returns-in-len1-up-clause-none : goal.returns-in-len1-up-clause-none
returns-in-len1-up-clause-none c =
    line_unread c.args.line.now (texts c.in_ok-words.words.items) _ c.in_ok-words.ensures.some (ap texts (sym c.as_slice.ensures.value) ∙ first_and_others c.as_slice.result.now _ c.in-len1-up.len_at_least) (other_text c.args.line.now (codes "turn") (sym c.eq.ensures ∙ c.if-eq.false)) c.asked_by.result c.asked_by.ensures
