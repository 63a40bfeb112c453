use Rattle.std.proofs.Common.{ap, sym, ◌∙◌, ◌∷◌, [], arith}
use Rattle.lift_base.specs.lemmas.Words.{same_text}
use Rattle.lift_base.specs.lemmas.Texts.{alone, pair}
use Rattle.lift_replay.proofs.Words.{both}
use Rattle.lift_replay.proofs.device_action.outcome_of.Goals as goal

pub returns-then-eq-clause-some : goal.returns-then-eq-clause-some
returns-then-eq-clause-some c = alone c.args.words.now _ c.in-len1.len_at_least c.in-len1.len_below ∙ ap (λ w. w ∷ []) (same_text _ _ (sym c.if-eq.ensures))

pub returns-then-eq-2-clause-some : goal.returns-then-eq-2-clause-some
returns-then-eq-2-clause-some c = alone c.args.words.now _ c.in-len1.len_at_least c.in-len1.len_below ∙ ap (λ w. w ∷ []) (same_text _ _ (sym c.if-eq-2.ensures))

pub returns-in_ok-byte-in-len2-clause-some : goal.returns-in_ok-byte-in-len2-clause-some
returns-in_ok-byte-in-len2-clause-some c = (
  (let most = c.in_ok-byte-in-len2.ensures.limit in omega (arith, most)),
  pair c.args.words.now _ c.in-len2.len_at_least c.in-len2.len_below ∙ both (same_text _ _ (sym c.if-eq-3.ensures)) c.in_ok-byte-in-len2.ensures.some,
)
