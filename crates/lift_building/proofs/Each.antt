-- Items read one after the other, as a loop does.
use Rattle.std.proofs.Common.{◌≡◌, ℕ, suc, ◌+◌, ◌≤◌, ◌<◌, List, [], ◌∷◌, ◌++◌, length, get_or, drop, Result, Ok, Err, refl, sym, ap, ◌∙◌, append_assoc}
use Rattle.std.proofs.lemmas.List.{append-nil, drop_all}
use Rattle.toml.specs.Data.{Data}
use Rattle.toml.specs.View.{view, items_view}
use Rattle.toml.specs.declared.value.Value.{Value}
use Rattle.toml.proofs.Views.{items_view-drop}
use Rattle.lift_building.specs.declared.fault.BuildingFault.{BuildingFault}
use Rattle.lift_building.specs.Reading.{◌>>=◌, each, item_count}

pub item_count-view : (vs : List Value) → item_count (items_view vs) ≡ length vs
item_count-view [] = refl
item_count-view (v ∷ vs) = ap suc (item_count-view vs)

-- what was read before, and what is still read
abbrev pub with_front : {A : Type 0} → List A → Result (List A) BuildingFault → Result (List A) BuildingFault
with_front front read = read >>= λ xs. Ok (front ++ xs)

module _ {A : Type 0} where
  regroup : (front : List A) (x : A) (read : Result (List A) BuildingFault) → with_front front (read >>= λ xs. Ok (x ∷ xs)) ≡ with_front (front ++ x ∷ []) read
  regroup front x (Ok xs) = ap Ok (simp append_assoc)
  regroup front x (Err f) = refl

  pub each_starts : (read : Result (List A) BuildingFault) → with_front [] read ≡ read
  each_starts (Ok xs) = refl
  each_starts (Err f) = refl

  pub each_goes_on : (one : ℕ → Data → Result A BuildingFault) (front : List A) (vs : List Value) (i : ℕ) (v : Value) (x : A) (total : Result (List A) BuildingFault) → i < length vs → v ≡ get_or vs i v
      → one i (view v) ≡ Ok x → with_front front (each one i (items_view (drop i vs))) ≡ total → with_front (front ++ x ∷ []) (each one (i + 1) (items_view (drop (i + 1) vs))) ≡ total
  unfolding each
  each_goes_on one front vs i v x total lt v-is h so_far =
      let here : one i (view (get_or vs i v)) ≡ Ok x = ap (λ w. one i (view w)) (sym v-is) ∙ h in
      let step : with_front front (each one i (items_view (drop i vs))) ≡ with_front (front ++ x ∷ []) (each one (i + 1) (items_view (drop (i + 1) vs)))
      = rw (items_view-drop vs i v lt, here) (regroup front x (each one (i + 1) (items_view (drop (i + 1) vs)))) in
      sym step ∙ so_far

  pub each_fails : (one : ℕ → Data → Result A BuildingFault) (front : List A) (vs : List Value) (i : ℕ) (v : Value) (fault : BuildingFault) (total : Result (List A) BuildingFault) → i < length vs → v ≡ get_or vs i v
      → one i (view v) ≡ Err fault → with_front front (each one i (items_view (drop i vs))) ≡ total → total ≡ Err fault
  unfolding each
  each_fails one front vs i v fault total lt v-is h so_far =
      let here : one i (view (get_or vs i v)) ≡ Err fault = ap (λ w. one i (view w)) (sym v-is) ∙ h in
      let failed : with_front front (each one i (items_view (drop i vs))) ≡ Err fault = rw (items_view-drop vs i v lt, here) refl in
      sym so_far ∙ failed

  pub each_is_done : (one : ℕ → Data → Result A BuildingFault) (front : List A) (vs : List Value) (i : ℕ) (total : Result (List A) BuildingFault) → length vs ≤ i
      → with_front front (each one i (items_view (drop i vs))) ≡ total → total ≡ Ok front
  unfolding each
  each_is_done one front vs i total le so_far =
      let done : with_front front (each one i (items_view (drop i vs))) ≡ Ok front = rw (drop_all i vs le) (ap Ok (append-nil front)) in
      sym so_far ∙ done

pub ruleset item_counts = (item_count-view)
