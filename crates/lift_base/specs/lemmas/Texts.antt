-- The words that a slice of them holds, and which of them name a party.
use Rattle.std.proofs.Common.{◌≡◌, ℕ, ◌≤◌, ◌<◌, ◌^◌, true, false, List, [], ◌∷◌, ◌-◌, length}
use Rattle.std.proofs.Common.{get_or, take, drop, map, Bor, refl, sym, ap, ◌∙◌, arith, inl, inr}
use Rattle.std.specs.Prelude.{Option, Some, None, IsSome, IfNone, ◌↔◌}
use Rattle.std.specs.Str.{bytes_eq}
use Rattle.std.specs.Fmt.{decimal}
use Rattle.std.proofs.lemmas.List.{take_all}
use Rattle.std.proofs.lemmas.Fmt.{decimal_injective}
use Rattle.lift_base.specs.lemmas.Words.{same_text}
use Rattle.lift_base.specs.Text.{ArePartyWords}

abbrev pub texts : List (Bor (List ℕ)) → List (List ℕ)
texts words = map (λ word. word.now) words

pub alone : (words : List (Bor (List ℕ))) (d : Bor (List ℕ)) → 1 ≤ length words → length words < 2
    → texts words ≡ (get_or words 0 d).now ∷ []
alone [] d some few = absurd (omega arith)
alone (word ∷ []) d some few = refl
alone (word ∷ other ∷ words) d some few = absurd (omega arith)

pub pair : (words : List (Bor (List ℕ))) (d : Bor (List ℕ)) → 2 ≤ length words → length words < 3
    → texts words ≡ (get_or words 0 d).now ∷ (get_or words 1 d).now ∷ []
pair [] d some few = absurd (omega arith)
pair (word ∷ []) d some few = absurd (omega arith)
pair (word ∷ other ∷ []) d some few = refl
pair (word ∷ other ∷ more ∷ words) d some few = absurd (omega arith)

pub first_and_others : (words : List (Bor (List ℕ))) (d : Bor (List ℕ)) → 1 ≤ length words
    → texts words ≡ (get_or words 0 d).now ∷ texts (take (length words - 1) (drop 1 words))
first_and_others [] d some = absurd (omega arith)
first_and_others (first ∷ words) d some =
    ap (λ others. first.now ∷ texts others)
    (sym (take_all (length (first ∷ words) - 1) words (omega arith)))

-- words that begin with this one, and the others
pub begins_with : (words : List (Bor (List ℕ))) (d : Bor (List ℕ)) (first : List ℕ)
    → 1 ≤ length words → bytes_eq (get_or words 0 d).now first ≡ true
    → texts words ≡ first ∷ texts (take (length words - 1) (drop 1 words))
begins_with words d first some same =
    first_and_others words d some ∙ ap (λ (word : List ℕ).
    word ∷ texts (take (length words - 1) (drop 1 words))) (same_text _ first same)

pub none_weaker : {A : Type 0} (r : Option A) (P Q : Type 0) → (P → Q) → IfNone r P → IfNone r Q
none_weaker None P Q f p = f p
none_weaker (Some x) P Q f p = tt

-- a party's word that is printed of another number names no party
other_party : (words : List (List ℕ)) (number party : ℕ) → words ≡ decimal number ∷ []
    → number < 2 ^ 32 → party ≤ 15 → ArePartyWords words party → party ≡ number
other_party words number party is small few (inl said) =
    decimal_injective party number (omega arith) (omega arith) (let one = sym said ∙ is in cc)
other_party words number party is small few (inr absent) =
    absurd (let none = sym absent.0 ∙ is in cc)

pub party_none : (r : Option ℕ) (words : List (List ℕ)) (number : ℕ) → words ≡ decimal number ∷ []
    → number ≤ 15 → (IsSome r ↔ ((1 ≤ number) × (number ≤ 15)))
    → IfNone r ((party : ℕ) → 1 ≤ party → party ≤ 15 → ArePartyWords words party → ⊥)
party_none None words number is small valid = λ party some few said.
    (let same = other_party words number party is (omega arith) few said in
    let bad : false ≡ true = valid.1 (omega arith, omega arith) in cc)
party_none (Some x) words number is small valid = tt
