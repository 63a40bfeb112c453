-- What words spell at most, and lines of two kinds that begin with different words.
use Rattle.std.proofs.Common.{◌≡◌, ◌⊎◌, ℕ, ◌+◌, ◌<◌, ◌≤◌, ◌^◌, List, [], ◌∷◌, length, get_or, Bool, true, false, cond, refl, sym, ap, ◌∙◌, subst, inl, inr, arith}
use Rattle.std.specs.Prelude.{bytes_eq}
use Rattle.std.specs.Fmt.{decimal}
use Rattle.std.proofs.lemmas.Bool.{cases_Bool}
use Rattle.std.proofs.lemmas.Fmt.{decimal_injective}
use Rattle.lift_base.specs.Text.{ArePartyWords, letter_text, dir_text}
use Rattle.lift_base.specs.declared.travel.Dir.{Dir}
use Rattle.lift_base.specs.declared.travel.Dir.TheVariants.{Up, Down}
use Rattle.lift_base.specs.lemmas.Words.{other_text}

abbrev pub word_at : ℕ → List (List ℕ) → List ℕ
word_at k words = get_or words k []

abbrev pub byte_at : ℕ → List (List ℕ) → ℕ
byte_at k words = get_or (get_or words 0 []) k 0

pub decimal_one : (m n : ℕ) → m < 2 ^ 32 → n < 2 ^ 32 → decimal m ≡ decimal n → m ≡ n
decimal_one m n p q e = decimal_injective m n (omega (arith, p)) (omega (arith, q)) e

pub letter_one : (m n : ℕ) → letter_text m ≡ letter_text n → m ≡ n
letter_one m n e = let same : 65 + m ≡ 65 + n = ap (λ l. get_or l 0 0) e in omega (arith, same)

pub dir_one : (d b : Dir) → dir_text d ≡ dir_text b → d ≡ b
dir_one Up Up e = refl
dir_one Up Down e = absurd (let no : ◌≡◌ {A = ℕ} 117 100 = ap (λ l. get_or l 0 0) e in omega (arith, no))
dir_one Down Up e = absurd (let no : ◌≡◌ {A = ℕ} 100 117 = ap (λ l. get_or l 0 0) e in omega (arith, no))
dir_one Down Down e = refl

pub party_one : (ws vs : List (List ℕ)) (m n : ℕ) → ws ≡ vs → m ≤ 15 → n ≤ 15 → ArePartyWords ws m → ArePartyWords vs n → m ≡ n
party_one ws vs m n e p q (inl a) (inl b) = decimal_one m n (omega (arith, p)) (omega (arith, q)) (ap (word_at 0) (sym a ∙ e ∙ b))
party_one ws vs m n e p q (inl a) (inr b) = absurd (let no : ◌≡◌ {A = ℕ} 1 0 = ap length (sym a ∙ e ∙ b.0) in omega (arith, no))
party_one ws vs m n e p q (inr a) (inl b) = absurd (let no : ◌≡◌ {A = ℕ} 0 1 = ap length (sym a.0 ∙ e ∙ b) in omega (arith, no))
party_one ws vs m n e p q (inr a) (inr b) = a.1 ∙ sym b.1

-- the word is one of these
abbrev pub IsOneOf : List ℕ → List (List ℕ) → Type 0
IsOneOf word [] = ⊥
IsOneOf word (other ∷ others) = (word ≡ other) ⊎ IsOneOf word others

-- the word is none of these, and none of some is one of others, as is computed
abbrev pub is_none_of : List ℕ → List (List ℕ) → Bool
is_none_of word [] = true
is_none_of word (other ∷ others) = cond (bytes_eq word other) false (is_none_of word others)

abbrev pub are_apart : List (List ℕ) → List (List ℕ) → Bool
are_apart [] others = true
are_apart (word ∷ words) others = cond (is_none_of word others) (are_apart words others) false

none_of : (word : List ℕ) (others : List (List ℕ)) → is_none_of word others ≡ true → IsOneOf word others → ⊥
none_of word [] none is = is
none_of word (other ∷ others) none is = elim (cases_Bool (bytes_eq word other)) [
  | inl same ↦ (let no : ◌≡◌ {A = Bool} false true = subst (λ b. cond b false (is_none_of word others) ≡ true) same none in cc)
  | inr apart ↦ elim is [
    | inl at ↦ other_text word other apart at
    | inr more ↦ none_of word others (subst (λ b. cond b false (is_none_of word others) ≡ true) apart none) more
  ]
]

pub apart_heads : (words others : List (List ℕ)) → are_apart words others ≡ true → (word : List ℕ) → IsOneOf word words → IsOneOf word others → ⊥
apart_heads [] others apart word is too = is
apart_heads (first ∷ words) others apart word is too = elim (cases_Bool (is_none_of first others)) [
  | inr some ↦ (let no : ◌≡◌ {A = Bool} false true = subst (λ b. cond b (are_apart words others) false ≡ true) some apart in cc)
  | inl none ↦ elim is [
    | inl at ↦ none_of first others none (subst (λ w. IsOneOf w others) at too)
    | inr more ↦ apart_heads words others (subst (λ b. cond b (are_apart words others) false ≡ true) none apart) word more too
  ]
]
