-- The flags of the floors that are listed.
use Rattle.std.proofs.Common.{◌≡◌, ◌≢◌, ℕ, ◌-◌, ◌<◌, Ok, Err, List, [], ◌∷◌, ◌++◌, Bool, true, false, ◌||◌, ◌==◌, length, get_or, set, replicate, refl, sym, ap, ◌∙◌, arith, inl, inr}
use Rattle.std.specs.List.{list_any}
use Rattle.std.proofs.lemmas.Bool.{cases_Bool, eqb-true, eqb-false}
use Rattle.std.proofs.lemmas.List.{ext_get_or, get_or-set_same, get_or-set_other, length-set, length-replicate, get_or-replicate}
use Rattle.std.proofs.lemmas.List.FromFn.{length-map-range_with_len, get_or-map-range_with_len}
use Rattle.std.proofs.lemmas.List.Folds.{list_any-append}
use Rattle.toml.specs.Data.{Items}
use Rattle.lift_building.specs.declared.fault.BuildingFault.{BuildingFault}
use Rattle.lift_building.specs.declared.fault.Field.TheVariants.{Serves}
use Rattle.lift_building.specs.Reading.{◌>>=◌, each, number_in, flags_of, flags_in}

-- whether a floor is among those listed
abbrev listed_at : List ℕ → ℕ → Bool
listed_at listed floor = list_any (λ other. other == floor) listed

or_false : (b : Bool) → (b || false) ≡ b
or_false true = refl
or_false false = refl

or_true : (b : Bool) → (b || true) ≡ true
or_true true = refl
or_true false = refl

one_more : (listed : List ℕ) (k i : ℕ)
    → listed_at (listed ++ k ∷ []) i ≡ (listed_at listed i || ((k == i) || false))
one_more listed k i = list_any-append (λ other. other == i) listed (k ∷ [])

pub flags_length : (floors : ℕ) (listed : List ℕ) → length (flags_of floors listed) ≡ floors
flags_length floors listed = length-map-range_with_len (listed_at listed) 0 floors

flag_is : (floors i : ℕ) (listed : List ℕ) → i < floors
    → get_or (flags_of floors listed) i false ≡ listed_at listed i
flag_is floors i listed lt =
    get_or-map-range_with_len (listed_at listed) 0 floors i i false lt (omega arith)

-- none is listed
pub flags_none : (floors : ℕ) → replicate floors false ≡ flags_of floors []
flags_none floors =
    ext_get_or false (replicate floors false) (flags_of floors []) (length-replicate floors false ∙ sym (flags_length floors [])) (λ i i-lt.
    let inside : i < floors = omega (arith, length-replicate floors false) in
    get_or-replicate floors i false false inside ∙ sym (flag_is floors i [] inside))

-- one floor more is listed: its flag is set
pub flags_more : (floors k : ℕ) (listed : List ℕ) → k < floors
    → set (flags_of floors listed) k true ≡ flags_of floors (listed ++ k ∷ [])
flags_more floors k listed lt =
    let before = flags_of floors listed in
    let after = flags_of floors (listed ++ k ∷ []) in
    let count : length (set before k true) ≡ floors = length-set before k true ∙ flags_length floors listed in
    ext_get_or false (set before k true) after (count ∙ sym (flags_length floors (listed ++ k ∷ []))) (λ i i-lt.
    let inside : i < floors = omega (arith, count) in
    elim (cases_Bool (k == i)) [
      | inl here ↦
          let same : i ≡ k = sym (eqb-true k i here) in
          let set-now : get_or (set before k true) i false ≡ true
          = ap (λ j. get_or (set before k true) j false) same ∙ get_or-set_same before k true false (omega (arith, flags_length floors listed)) in
          let listed-now : listed_at (listed ++ k ∷ []) i ≡ true
          = one_more listed k i ∙ ap (λ b. listed_at listed i || (b || false)) here ∙ or_true (listed_at listed i) in
          set-now ∙ sym (flag_is floors i (listed ++ k ∷ []) inside ∙ listed-now)
      | inr there ↦
          let other : i ≢ k = λ same. eqb-false k i there (sym same) in
          let kept : get_or (set before k true) i false ≡ listed_at listed i
          = get_or-set_other before k i true false other ∙ flag_is floors i listed inside in
          let listed-before : listed_at (listed ++ k ∷ []) i ≡ listed_at listed i
          = one_more listed k i ∙ ap (λ b. listed_at listed i || (b || false)) there ∙ or_false (listed_at listed i) in
          kept ∙ sym (flag_is floors i (listed ++ k ∷ []) inside ∙ listed-before)
    ])

pub flags_fail : (floors : ℕ) (items : Items) (fault : BuildingFault)
    → each (λ _. number_in Serves 0 (floors - 1)) 0 items ≡ Err fault → flags_in floors items ≡ Err fault
flags_fail floors items fault failed = ap (λ read. read >>= λ listed. Ok (flags_of floors listed)) failed

pub flags_done : (floors : ℕ) (items : Items) (listed : List ℕ) (served : List Bool)
    → each (λ _. number_in Serves 0 (floors - 1)) 0 items ≡ Ok listed → served ≡ flags_of floors listed
    → flags_in floors items ≡ Ok served
flags_done floors items listed served read is =
    ap (λ read. read >>= λ listed. Ok (flags_of floors listed)) read ∙ ap Ok (sym is)
