-- Which words spell a call.
use Rattle.std.proofs.Common.{◌≡◌, ℕ, ◌≤◌, ◌<◌, List, [], ◌∷◌, length, codes, sym, subst, ◌∙◌, arith, inl, inr}
use Rattle.std.specs.Prelude.{Option, IfNone}
use Rattle.std.specs.Str.{IsAscii}
use Rattle.std.proofs.lemmas.Fmt.{IsAscii-decimal}
use Rattle.std.proofs.lemmas.Str.Ascii.{IsAscii-nil}
use Rattle.lift_base.specs.Text.{AreWords, ArePartyWords}
use Rattle.lift_base.specs.lemmas.Words.{one_reading}
use Rattle.lift_base.specs.lemmas.Texts.{none_weaker}
use Rattle.lift_kiosk.specs.Lines.{AreAscii}
use Rattle.lift_kiosk.specs.declared.dialect.Wanted.{Wanted}
use Rattle.lift_kiosk.specs.declared.dialect.Wanted.TheVariants.{Ask as Asks, NoFloor}
use Rattle.lift_kiosk.specs.Kiosk.{AreCallWords, SpellsCall, WantsCall}
use Rattle.lift_kiosk.specs.lemmas.Words.{ascii_with}

pub no_call_among : {A : Type 0} (r : Option A) (all rest : List (List ℕ)) → all ≡ codes "CALL" ∷ rest
    → IfNone r ((number floor party : ℕ) → AreCallWords rest number floor party → ⊥)
    → IfNone r ((others : List (List ℕ)) (number floor party : ℕ) → all ≡ codes "CALL" ∷ others → AreCallWords others number floor party → ⊥)
no_call_among r all rest is none =
    none_weaker r _ _ (λ refuses others number floor party said call.
    let both : codes "CALL" ∷ others ≡ codes "CALL" ∷ rest = sym said ∙ is in
    let same : others ≡ rest = cc in
    refuses number floor party (subst (λ (words : List (List ℕ)). AreCallWords words number floor party) same call)) none

pub no_call_line : {A : Type 0} (r : Option A) (line : List ℕ) (words : List (List ℕ)) → AreWords line words
    → IfNone r ((others : List (List ℕ)) (number floor party : ℕ) → words ≡ codes "CALL" ∷ others → AreCallWords others number floor party → ⊥)
    → IfNone r ((number floor party : ℕ) → SpellsCall line number floor party → ⊥)
no_call_line r line words are none =
    none_weaker r _ _ (λ refuses number floor party spells.
    refuses spells.words number floor party (one_reading line words (codes "CALL" ∷ spells.words) are spells.spaced) spells.call) none

pub call_is_ascii : IsAscii (codes "CALL")
call_is_ascii = ascii_with 67 (65 ∷ 76 ∷ 76 ∷ []) (omega arith) (ascii_with 65 (76 ∷ 76 ∷ []) (omega arith) (ascii_with 76 (76 ∷ []) (omega arith) (ascii_with 76 [] (omega arith) IsAscii-nil)))

party_words : (words : List (List ℕ)) (party : ℕ) → party ≤ 15 → ArePartyWords words party → (length words ≤ 1) × AreAscii words
party_words words party few (inl said) = subst (λ (w : List (List ℕ)). (length w ≤ 1) × AreAscii w) (sym said) (omega arith, (IsAscii-decimal party (omega arith), tt))
party_words words party few (inr absent) = subst (λ (w : List (List ℕ)). (length w ≤ 1) × AreAscii w) (sym absent.0) (omega arith, tt)

call_words : (words : List (List ℕ)) (number floor party : ℕ) → AreCallWords words number floor party → (length words ≤ 3) × AreAscii words
call_words words number floor party call =
    let last = party_words call.last party call.party_range.1 call.persons in
    let small = call.number_range in
    let low = call.floor_range in
    subst (λ (w : List (List ℕ)). (length w ≤ 3) × AreAscii w) (sym call.spelled)
    (omega (arith, last.0), (IsAscii-decimal number (omega arith), (IsAscii-decimal floor (omega arith), last.1)))

-- a line that spells a call has at most four words, all of them in ASCII
pub call_has_words : (line : List ℕ) → ((words : List (List ℕ)) → AreWords line words → AreAscii words → length line ≤ 64 → 6 < length words)
    → (number floor party : ℕ) → SpellsCall line number floor party → ⊥
call_has_words line none number floor party spells =
    let words = call_words spells.words number floor party spells.call in
    let many = none (codes "CALL" ∷ spells.words) spells.spaced (call_is_ascii, words.1) spells.short in
    omega (arith, many, words.0)

-- what is wanted is spelled as a call
pub wants_a_call : (line : List ℕ) → ((number floor party : ℕ) → SpellsCall line number floor party → ⊥) → (wanted : Wanted) → WantsCall line wanted → ⊥
wants_a_call line none (Asks ask) wants = none ask.number wants.0 wants.1 wants.2
wants_a_call line none NoFloor wants = none wants.0 wants.1 wants.2 wants.3
