-- That `==` on the parts of registers tells whether they are the same.
use Rattle.std.proofs.Common.{◌≡◌, ◌&&◌, Bool, List, [], ◌∷◌, Option, Some, None, refl, ap, ◌∙◌}
use Rattle.std.specs.Bool.{Decides}
use Rattle.std.specs.Option.{option_eq}
use Rattle.std.specs.Cmp.Lexicographic.{pointwise}
use Rattle.std.proofs.lemmas.Option.{none-some, same_Some}
use Rattle.std.proofs.lemmas.Slice.Eq.{slice_eq-Decides}
use Rattle.arrayvec.specs.declared.array_vec.ArrayVec.{ArrayVec}
use Rattle.lift_base.specs.declared.limits.TheConstants.{MOST_ROWS}
use Rattle.lift_base.specs.declared.history.Row.{Row}
use Rattle.lift_register.specs.Rows.{row_lists}

pub pointwise-row_lists : (E : Row → Row → Bool) (xs ys : List (ArrayVec Row MOST_ROWS (Unit {0}))) → pointwise (λ (v w : ArrayVec Row MOST_ROWS (Unit {0})). pointwise E v.items w.items) xs ys ≡ pointwise (pointwise E) (row_lists xs) (row_lists ys)
pointwise-row_lists E [] [] = refl
pointwise-row_lists E [] (y ∷ ys) = refl
pointwise-row_lists E (x ∷ xs) [] = refl
pointwise-row_lists E (x ∷ xs) (y ∷ ys) = ap (λ (b : Bool). pointwise E x.items y.items && b) (pointwise-row_lists E xs ys)

pub same_rows-Decides : {E : Row → Row → Bool} → ((a b : Row) → Decides (E a b) (a ≡ b)) → (xs ys : List (ArrayVec Row MOST_ROWS (Unit {0}))) (r : Bool) → r ≡ pointwise (λ (v w : ArrayVec Row MOST_ROWS (Unit {0})). pointwise E v.items w.items) xs ys → Decides r (row_lists xs ≡ row_lists ys)
same_rows-Decides {E} each xs ys r is =
    slice_eq-Decides (λ (v w : List Row). slice_eq-Decides each v w (pointwise E v w) refl) (row_lists xs) (row_lists ys) r (is ∙ pointwise-row_lists E xs ys)

pub option_eq-Decides : {X : Type 0} {E : X → X → Bool} → ((a b : X) → Decides (E a b) (a ≡ b)) → (a b : Option X) → Decides (option_eq E a b) (a ≡ b)
option_eq-Decides each None None = (λ yes. refl, λ same. refl)
option_eq-Decides each None (Some b) = (λ yes. cc, λ same. absurd (none-some b same))
option_eq-Decides each (Some a) None = (λ yes. cc, λ same. cc)
option_eq-Decides each (Some a) (Some b) = (λ yes. ap (λ x. Some x) ((each a b).0 yes), λ same. (each a b).1 (same_Some a b same))
