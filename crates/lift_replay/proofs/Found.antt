-- What is found by looking at each candidate.
use Rattle.std.proofs.Common.{◌≡◌, ◌≢◌, ◌⊎◌, ℕ, zero, suc, ◌<◌, List, [], ◌∷◌, subst, inl, inr, arith}
use Rattle.std.proofs.lemmas.Bool.{cases_eq, cases_Bool}
use Rattle.std.proofs.lemmas.Bool.Decides.{leb_tells}
use Rattle.std.specs.List.{AllByRecursion}
use Rattle.lift_base.specs.Text.{HasNoSpace, AreWords, spaced}
use Rattle.lift_base.specs.declared.travel.Dir.{Dir}
use Rattle.lift_base.specs.declared.travel.Dir.TheVariants.{Up, Down}
use Rattle.lift_base.specs.lemmas.Words.{same_text, other_text}
use Rattle.std.specs.Prelude.{bytes_eq}

-- it is so, or it is not
abbrev pub IsDecided : Type 0 → Type 0
IsDecided P = P ⊎ (P → ⊥)

-- the least number below the bound of which it is so
pub record IsLeast (P : ℕ → Type 0) (bound n : ℕ) : Type 0 where
  pub below : n < bound
  pub holds : P n
  pub first : (m : ℕ) → m < n → P m → ⊥

abbrev pub HasNone : (ℕ → Type 0) → ℕ → Type 0
HasNone P bound = (m : ℕ) → m < bound → P m → ⊥

pub least : (P : ℕ → Type 0) → ((n : ℕ) → IsDecided (P n)) → (bound : ℕ) → ((n : ℕ) × IsLeast P bound n) ⊎ HasNone P bound
least P look zero = inr (λ m below. absurd (let no : m < 0 = below in omega (arith, no)))
least P look (suc bound) = elim (least P look bound) [
  | inl found ↦ inl (found.0, record { below = (let lt = found.1.below in omega (arith, lt)); holds = found.1.holds; first = found.1.first })
  | inr none ↦ elim (look bound) [
    | inl is ↦ inl (bound, record { below = omega arith; holds = is; first = none })
    | inr other ↦ inr (λ m below holds. elim (cases_eq m bound) [ inl at ↦ other (subst P at holds) | inr apart ↦ none m (let lt : m < suc bound = below in omega (arith, lt, apart)) holds ])
  ]
]

pub either : (P Q : Type 0) → IsDecided P → IsDecided Q → IsDecided (P ⊎ Q)
either P Q (inl p) q = inl (inl p)
either P Q (inr not) (inl q) = inl (inr q)
either P Q (inr not) (inr other) = inr (λ is. elim is [ inl p ↦ not p | inr q ↦ other q ])

-- some number below the bound
abbrev pub Within : ℕ → (ℕ → Type 0) → Type 0
Within bound P = (n : ℕ) × (n < bound) × P n

pub within : (P : ℕ → Type 0) → ((n : ℕ) → IsDecided (P n)) → (bound : ℕ) → IsDecided (Within bound P)
within P look bound = elim (least P look bound) [
  | inl found ↦ inl (found.0, found.1.below, found.1.holds)
  | inr none ↦ inr (λ is. none is.0 is.1 is.2)
]

pub both : (P Q : Type 0) → IsDecided P → IsDecided Q → IsDecided (P × Q)
both P Q (inl p) (inl q) = inl (p, q)
both P Q (inl p) (inr not) = inr (λ is. not is.1)
both P Q (inr not) q = inr (λ is. not is.0)

pub below : (n bound : ℕ) → IsDecided (n < bound)
below n bound = elim (leb_tells (suc n) bound) [ inl is ↦ inl is.1 | inr other ↦ inr (λ lt. let no = other.1 in omega (arith, no, lt)) ]

pub same : (xs ys : List ℕ) → IsDecided (xs ≡ ys)
same xs ys = elim (cases_Bool (bytes_eq xs ys)) [ inl is ↦ inl (same_text xs ys is) | inr other ↦ inr (other_text xs ys other) ]

no_space : (word : List ℕ) → IsDecided (HasNoSpace word)
no_space [] = inl tt
no_space (byte ∷ word) = both (byte ≢ 32) (HasNoSpace word) (elim (cases_eq byte 32) [ inl is ↦ inr (λ other. other is) | inr other ↦ inl other ]) (no_space word)

apart : (words : List (List ℕ)) → IsDecided (AllByRecursion HasNoSpace words)
apart [] = inl tt
apart (word ∷ words) = both (HasNoSpace word) (AllByRecursion HasNoSpace words) (no_space word) (apart words)

-- whether a line has these words
pub worded : (line first : List ℕ) (words : List (List ℕ)) → IsDecided (AreWords line (first ∷ words))
worded line first words = elim (same line (spaced (first ∷ words))) [
  | inl is ↦ elim (apart (first ∷ words)) [
    | inl all ↦ inl (record { some = omega arith; apart = all; joined = is })
    | inr not ↦ inr (λ are. not are.apart)
  ]
  | inr other ↦ inr (λ are. other are.joined)
]

-- a direction of which it is so
pub directed : (P : Dir → Type 0) → ((dir : Dir) → IsDecided (P dir)) → IsDecided ((dir : Dir) × P dir)
directed P look = elim (look Up) [
  | inl up ↦ inl (Up, up)
  | inr not_up ↦ elim (look Down) [ inl down ↦ inl (Down, down) | inr not_down ↦ inr (λ is. neither not_up not_down is.0 is.1) ]
]
  where
    neither : (P Up → ⊥) → (P Down → ⊥) → (dir : Dir) → P dir → ⊥
    neither not_up not_down Up is = not_up is
    neither not_up not_down Down is = not_down is
