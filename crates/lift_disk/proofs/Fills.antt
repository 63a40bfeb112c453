-- Filling or copying the loose sectors, one after another.
use Rattle.std.proofs.Common.{◌≡◌, ◌≢◌, ◌<◌, ◌≤◌, ◌+◌, ℕ, zero, suc, Bool, true, false, List, [], ◌∷◌, length, replicate, get_or, slice_get, slice_set, Some, refl, sym, ◌∙◌, ap, subst, ⊎_elim, arith}
use Rattle.std.specs.Option.{unwrap_or}
use Rattle.std.proofs.lemmas.List.{same_lists, length-replicate, length-set}
use Rattle.std.proofs.lemmas.Bool.{cases_lt, false≢true}
use Rattle.std.proofs.lemmas.Option.{get_or_from_slice_get, slice_get-get_or, unwrap_or-slice_get}
use Rattle.lift_disk.specs.Disk.{Image}
use Rattle.lift_disk.specs.Memory.{IsFlagged}
use Rattle.lift_disk.specs.lemmas.History.{same_or_not, set_here, set_other}

-- those below this number are filled
pub record IsFilledTo (byte end : ℕ) (loose : List Bool) (old new : Image) : Type 0 where
  pub size : length new ≡ length old
  pub below : (i : ℕ) → i < end → IsFlagged loose i → slice_get new i ≡ Some (replicate 512 byte)
  pub others : (i : ℕ) → ¬ IsFlagged loose i → slice_get new i ≡ slice_get old i

-- a loose one is filled
pub filled_more : (byte at : ℕ) (loose : List Bool) (old now : Image) → at < length now → length loose ≡ length old → get_or loose at false ≡ true → IsFilledTo byte at loose old now
    → IsFilledTo byte (at + 1) loose old (slice_set now at (replicate 512 byte))
filled_more byte at loose old now there sized set so_far =
    let bytes : List ℕ = replicate 512 byte in
    let here : IsFlagged loose at = slice_get-get_or loose at false (omega (arith, there, sized, so_far.size)) ∙ ap (λ b. Some b) set in
    record {
      size = length-set now at bytes ∙ so_far.size;
      below = λ i before is. ⊎_elim (λ (same : i ≡ at). ap (slice_get (slice_set now at bytes)) same ∙ set_here now at bytes there)
          (λ (other : i ≢ at). set_other now at i bytes other ∙ so_far.below i (omega (arith, before, other)) is) (same_or_not i at);
      others = λ i not. set_other now at i bytes (λ (same : i ≡ at). not (subst (IsFlagged loose) (sym same) here)) ∙ so_far.others i not;
    }

-- another one stays
pub filled_past : (byte at : ℕ) (loose : List Bool) (old now : Image) → get_or loose at false ≡ false → IsFilledTo byte at loose old now → IsFilledTo byte (at + 1) loose old now
filled_past byte at loose old now unset so_far = record {
  size = so_far.size;
  below = λ i before is.
      let other : i ≢ at = λ same. false≢true (sym unset ∙ get_or_from_slice_get loose at true false (subst (IsFlagged loose) same is)) in
      so_far.below i (omega (arith, before, other)) is;
  others = so_far.others;
}

-- those below this number are copied, and no other differs but flagged ones
pub record IsCopiedTo (end : ℕ) (flags : List Bool) (from to : Image) : Type 0 where
  pub size : length to ≡ length from
  pub below : (i : ℕ) → i < end → slice_get to i ≡ slice_get from i
  pub others : (i : ℕ) → ¬ IsFlagged flags i → slice_get to i ≡ slice_get from i

-- the last one is copied, and no flag is set after it
pub all_copied : (at end : ℕ) (flags : List Bool) (from to : Image) → end ≤ at → ((i : ℕ) → IsFlagged flags i → i < end) → IsCopiedTo at flags from to → to ≡ from
all_copied at end flags from to last ends copied =
    let same : (k : ℕ) → slice_get to k ≡ slice_get from k = λ k. ⊎_elim (λ below. copied.below k (omega (arith, below, last))) (λ behind. copied.others k (λ is. omega (arith, behind, ends k is))) (cases_lt k end) in
    same_lists to from copied.size
    (λ k d within. sym (unwrap_or-slice_get to k d) ∙ ap (λ o. unwrap_or o d) (same k) ∙ unwrap_or-slice_get from k d)

-- ---- flags

-- of the flags below this number none is set, and the others are as they were
pub record IsClearedTo (at : ℕ) (old new : List Bool) : Type 0 where
  pub size : length new ≡ length old
  pub below : (i : ℕ) → i < at → ¬ IsFlagged new i
  pub others : (i : ℕ) → at ≤ i → slice_get new i ≡ slice_get old i

not_set : (flags : List Bool) (i : ℕ) (d : Bool) → i < length flags → ¬ IsFlagged flags i → get_or flags i d ≡ false
not_set [] i d within unset = absurd (omega arith)
not_set (true ∷ flags) zero d within unset = absurd (unset refl)
not_set (false ∷ flags) zero d within unset = refl
not_set (flag ∷ flags) (suc i) d within unset = not_set flags i d (omega arith) unset

get-replicate : (n i : ℕ) (d : Bool) → i < n → get_or (replicate n false) i d ≡ false
get-replicate zero i d within = absurd (omega arith)
get-replicate (suc n) zero d within = refl
get-replicate (suc n) (suc i) d within = get-replicate n i d (omega arith)

-- the last of the span is cleared, and none was set after it
pub all_cleared : (at end : ℕ) (old new : List Bool) → end ≤ at → ((i : ℕ) → IsFlagged old i → i < end) → IsClearedTo at old new → new ≡ replicate (length old) false
all_cleared at end old new last ends cleared =
    let none : (k : ℕ) → ¬ IsFlagged new k = λ k is. ⊎_elim (λ below. cleared.below k below is) (λ behind. let was : IsFlagged old k = sym (cleared.others k behind) ∙ is in omega (arith, behind, last, ends k was)) (cases_lt k at) in
    same_lists new (replicate (length old) false) (cleared.size ∙ sym (length-replicate (length old) false))
    (λ k d within. not_set new k d within (none k) ∙ sym (get-replicate (length old) k d (omega (arith, within, cleared.size))))
