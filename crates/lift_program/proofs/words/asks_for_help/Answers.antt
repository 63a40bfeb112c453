use Rattle.std.proofs.Common.{◌≡◌, ◌≤◌, ◌<◌, ◌∙◌, ℕ, List, [], ◌∷◌, get_or, length, map, codes, ap, arith, sym}
use Rattle.std.proofs.lemmas.Slice.Eq.{bytes_eq-Decides}
use Rattle.lift_base.specs.lemmas.Words.{same_text}
use Rattle.lift_program.proofs.words.asks_for_help.Goals as goal

only_word : {S : Type 0} (text : S → List ℕ) (words : List S) (word : S) → 1 ≤ length words → length words < 2 → word ≡ get_or words 0 word → map text words ≡ text word ∷ []
only_word text [] word some few is = absurd (omega (arith, some))
only_word text (w ∷ []) word some few is = ap (λ v. text v ∷ []) (sym is)
only_word text (w ∷ v ∷ more) word some few is = absurd (omega (arith, few))

pub returns-in-len1 : goal.returns-in-len1
returns-in-len1 g c =
    let help : List ℕ = codes "--help" in
    let said : List ℕ = c.as_str.result.now in
    let same : map g.S.AsStr.text c.args.words.now ≡ said ∷ [] =
    only_word g.S.AsStr.text c.args.words.now c.word-item.result c.in-len1.len_at_least c.in-len1.len_below c.word-item.is ∙ ap (λ t. t ∷ []) (sym c.as_str.ensures) in (
      (λ yes. same ∙ ap (λ t. t ∷ []) (same_text said help (sym c.eq.ensures ∙ yes))),
      (λ all. c.eq.ensures ∙ (bytes_eq-Decides said help).1 (ap (λ ts. get_or ts 0 []) (sym same ∙ all))),
    )
