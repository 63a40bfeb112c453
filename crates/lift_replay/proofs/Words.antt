-- What the words of a script's line spell.
use Rattle.std.proofs.Common.{◌≡◌, ◌≢◌, ℕ, List, [], ◌∷◌, refl, sym, ap, subst, ◌∙◌, arith}
use Rattle.std.specs.Prelude.{Option, Some, None, IfSome, IfNone, codes}
use Rattle.lift_base.specs.Text.{AreWords, spaced}
use Rattle.lift_base.specs.lemmas.Words.{one_reading}
use Rattle.lift_replay.specs.Grammar.{AskFor, AreReadAsLine, Spells}
use Rattle.lift_replay.specs.declared.line.ScriptLine.{ScriptLine}
use Rattle.lift_replay.specs.declared.line.ScriptLine.TheVariants.{Turn}

pub turn_read : (line : List ℕ) → line ≡ codes "turn" → Spells line Turn
turn_read line is = (codes "turn" ∷ [], record { some = omega arith; apart = ((λ e. omega (arith, e), (λ e. omega (arith, e), (λ e. omega (arith, e), (λ e. omega (arith, e), tt)))), tt); joined = is }, refl)

-- what is read from the words of a line, but for a turn, is what the line spells, and where nothing is read it spells nothing
module _ (line : List ℕ) (words others : List (List ℕ)) (are : AreWords line words) (same : words ≡ others) (other : line ≢ codes "turn") where
  pub line_read : (r : Option ScriptLine) → (others ≢ codes "turn" ∷ [] → AreReadAsLine others r) → IfSome r (Spells line)
  line_read None read = tt
  line_read (Some wanted) read =
      let asks = read (λ turn. other (are.joined ∙ ap spaced (same ∙ turn))) in (words, are, subst (λ ws. AskFor ws wanted) (sym same) asks)

  pub line_unread : (r : Option ScriptLine) → (others ≢ codes "turn" ∷ [] → AreReadAsLine others r) → IfNone r ((wanted : ScriptLine) → Spells line wanted → ⊥)
  line_unread (Some wanted) none = tt
  line_unread None none =
      λ wanted spells. none (λ turn. other (are.joined ∙ ap spaced (same ∙ turn))) wanted (subst (λ ws. AskFor ws wanted) (one_reading line spells.0 words spells.1 are ∙ same) spells.2)

pub both : {x y u v : List ℕ} → x ≡ y → u ≡ v → x ∷ u ∷ [] ≡ y ∷ v ∷ []
both first second = cc
