use Rattle.std.proofs.Common.{ap, ◌∙◌, ◌∷◌, []}
use Rattle.lift_base.specs.lemmas.Texts.{alone, party_none}
use Rattle.lift_base.proofs.text.names.party_of_words.Goals as goal

pub returns-in-Some-clause-none : goal.returns-in-Some-clause-none
returns-in-Some-clause-none c =
    party_none c.new.result _ c.in-Some.number (alone c.args.words.now _ c.in-len1.len_at_least c.in-len1.len_below ∙ ap (λ w. w ∷ []) c.in-Some.ensures.some) c.in-Some.ensures.limit c.new.ensures.valid
