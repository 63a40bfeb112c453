-- A line spells one thing at most, so that what lines tell is determined.
use Rattle.std.proofs.Common.{◌≡◌, ℕ, suc, List, [], ◌∷◌, ◌++◌, refl, sym, ap, ◌∙◌, subst, inl, inr}
use Rattle.std.specs.Prelude.{codes}
use Rattle.lift_base.specs.lemmas.Words.{one_reading}
use Rattle.lift_building.specs.Plan.{Plan}
use Rattle.lift_replay.specs.declared.line.ScriptLine.{ScriptLine}
use Rattle.lift_replay.specs.declared.line.ScriptLine.TheVariants.{Ask, Turn, Show, Device}
use Rattle.lift_replay.specs.declared.lines.Verdict.{Verdict}
use Rattle.lift_replay.specs.Grammar.{AskFor, IsKnown, Spells}
use Rattle.lift_replay.specs.Group.{ScriptGroup}
use Rattle.lift_replay.specs.Lines.{line_text, after}
use Rattle.lift_replay.specs.Running.{TellsLines}
use Rattle.lift_replay.specs.Script.{IsBadLine}
use Rattle.lift_replay.proofs.Asks.{ask_words, ask_head, ask_one}
use Rattle.lift_replay.proofs.DeviceActions.{action_words, action_head, action_one}
use Rattle.lift_replay.proofs.Heads.{IsOneOf, word_at, apart_heads}
use Rattle.lift_replay.proofs.Queries.{query_words, query_head, query_one}

-- the words that lines of each kind begin with
abbrev heads : ScriptLine → List (List ℕ)
heads (Ask ask) = ask_words
heads Turn = codes "turn" ∷ []
heads (Show query) = query_words
heads (Device action) = action_words

head : (words : List (List ℕ)) (a : ScriptLine) → AskFor words a → IsOneOf (word_at 0 words) (heads a)
head words (Ask ask) p = ask_head words ask p
head words Turn p = inl (ap (word_at 0) p)
head words (Show query) p = query_head words query p
head words (Device action) p = action_head words action p

-- words ask for one thing at most
asks_one : (words : List (List ℕ)) (a b : ScriptLine) → AskFor words a → AskFor words b → a ≡ b
asks_one words (Ask a) (Ask b) p q = ap Ask (ask_one words a b p q)
asks_one words Turn Turn p q = refl
asks_one words (Show a) (Show b) p q = ap Show (query_one words a b p q)
asks_one words (Device a) (Device b) p q = ap Device (action_one words a b p q)
asks_one words (Ask a) Turn p q = absurd (apart_heads (heads (Ask a)) (heads Turn) refl (word_at 0 words) (head words (Ask a) p) (head words Turn q))
asks_one words (Ask a) (Show b) p q = absurd (apart_heads (heads (Ask a)) (heads (Show b)) refl (word_at 0 words) (head words (Ask a) p) (head words (Show b) q))
asks_one words (Ask a) (Device b) p q = absurd (apart_heads (heads (Ask a)) (heads (Device b)) refl (word_at 0 words) (head words (Ask a) p) (head words (Device b) q))
asks_one words Turn (Ask b) p q = absurd (apart_heads (heads Turn) (heads (Ask b)) refl (word_at 0 words) (head words Turn p) (head words (Ask b) q))
asks_one words Turn (Show b) p q = absurd (apart_heads (heads Turn) (heads (Show b)) refl (word_at 0 words) (head words Turn p) (head words (Show b) q))
asks_one words Turn (Device b) p q = absurd (apart_heads (heads Turn) (heads (Device b)) refl (word_at 0 words) (head words Turn p) (head words (Device b) q))
asks_one words (Show a) (Ask b) p q = absurd (apart_heads (heads (Show a)) (heads (Ask b)) refl (word_at 0 words) (head words (Show a) p) (head words (Ask b) q))
asks_one words (Show a) Turn p q = absurd (apart_heads (heads (Show a)) (heads Turn) refl (word_at 0 words) (head words (Show a) p) (head words Turn q))
asks_one words (Show a) (Device b) p q = absurd (apart_heads (heads (Show a)) (heads (Device b)) refl (word_at 0 words) (head words (Show a) p) (head words (Device b) q))
asks_one words (Device a) (Ask b) p q = absurd (apart_heads (heads (Device a)) (heads (Ask b)) refl (word_at 0 words) (head words (Device a) p) (head words (Ask b) q))
asks_one words (Device a) Turn p q = absurd (apart_heads (heads (Device a)) (heads Turn) refl (word_at 0 words) (head words (Device a) p) (head words Turn q))
asks_one words (Device a) (Show b) p q = absurd (apart_heads (heads (Device a)) (heads (Show b)) refl (word_at 0 words) (head words (Device a) p) (head words (Show b) q))

pub spells_one : (line : List ℕ) (a b : ScriptLine) → Spells line a → Spells line b → a ≡ b
spells_one line a b p q = asks_one q.0 a b (subst (λ ws. AskFor ws a) (one_reading line p.0 q.0 p.1 q.1) p.2) q.2

-- a malformed line asks for nothing that is known
bad_not : (plan : Plan) (line : List ℕ) (wanted : ScriptLine) → IsBadLine plan line → Spells line wanted → IsKnown plan wanted → ⊥
bad_not plan line wanted (other, none) spells known = none wanted spells known

-- what lines tell, and the verdict, are determined
pub lines_one : (plan : Plan) (count : ℕ) (g : ScriptGroup) (script : List (List ℕ)) (s t : List ℕ) (v w : Verdict) → TellsLines plan count g script s v → TellsLines plan count g script t w → (s ≡ t) × (v ≡ w)
lines_one plan count g [] s t v w a b = (a.0 ∙ sym b.0, a.1 ∙ sym b.1)
lines_one plan count g (line ∷ lines) s t v w (inl a) (inl b) = lines_one plan (suc count) g lines s t v w a.1 b.1
lines_one plan count g (line ∷ lines) s t v w (inl a) (inr (inl b)) = absurd (b.2 a.0)
lines_one plan count g (line ∷ lines) s t v w (inl a) (inr (inr b)) = absurd (b.0.0 a.0)
lines_one plan count g (line ∷ lines) s t v w (inr (inl a)) (inl b) = absurd (a.2 b.0)
lines_one plan count g (line ∷ lines) s t v w (inr (inr a)) (inl b) = absurd (a.0.0 b.0)
lines_one plan count g (line ∷ lines) s t v w (inr (inl a)) (inr (inr b)) = absurd (bad_not plan line a.0 b.0 a.3 a.4)
lines_one plan count g (line ∷ lines) s t v w (inr (inr a)) (inr (inl b)) = absurd (bad_not plan line b.0 a.0 b.3 b.4)
lines_one plan count g (line ∷ lines) s t v w (inr (inr a)) (inr (inr b)) = (a.1 ∙ sym b.1, a.2 ∙ sym b.2)
lines_one plan count g (line ∷ lines) s t v w (inr (inl a)) (inr (inl b)) =
    let same : b.0 ≡ a.0 = spells_one line b.0 a.0 b.3 a.3 in
    let rest = lines_one plan (suc count) (after plan g a.0) lines a.1 b.1 v w a.5 (subst (λ x. TellsLines plan (suc count) (after plan g x) lines b.1 w) same b.5) in
    (a.6 ∙ ap (λ l. line_text plan g a.0 ++ l) rest.0 ∙ ap (λ x. line_text plan g x ++ b.1) (sym same) ∙ sym b.6, rest.1)
