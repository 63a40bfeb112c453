-- The sectors of a device in memory, by what each of them shows.
use Rattle.std.proofs.Common.{◌≡◌, ◌<◌, ◌+◌, ℕ, zero, suc, List, [], ◌∷◌, ◌++◌, length, map, get_or, set, replicate, refl, sym, ◌∙◌, ap}
use Rattle.std.proofs.lemmas.List.{map-set, map_push, get_or-map, replicate_more}

-- one that shows the same is put in the place of another
pub set_same : {X Y : Type 0} (f : X → Y) (xs : List X) (i : ℕ) (old new : X) → old ≡ get_or xs i old → f new ≡ f old → map f (set xs i new) ≡ map f xs
set_same f [] i old new is same = refl
set_same f (x ∷ xs) zero old new is same = ap (λ y. y ∷ map f xs) (same ∙ ap f is)
set_same f (x ∷ xs) (suc i) old new is same = ap (λ ys. f x ∷ ys) (set_same f xs i old new is same)

-- one that shows this is put there
pub set_shown : {X Y : Type 0} (f : X → Y) (xs : List X) (i : ℕ) (new : X) (y : Y) → f new ≡ y → map f (set xs i new) ≡ set (map f xs) i y
set_shown f xs i new y is = map-set f xs i new ∙ ap (λ shown. set (map f xs) i shown) is

-- what one of them shows
pub read_shown : {X : Type 0} (f : X → List ℕ) (xs : List X) (i : ℕ) (x : X) (y : List ℕ) → i < length xs → x ≡ get_or xs i x → y ≡ f x → y ≡ get_or (map f xs) i []
read_shown f xs i x y inside is shown = shown ∙ ap f is ∙ sym (get_or-map f xs i x [] inside)

-- one more of zeros
pub push_zeros : {X : Type 0} (f : X → List ℕ) (xs new : List X) (x : X) (n : ℕ) (zeros : List ℕ) → new ≡ xs ++ x ∷ [] → f x ≡ zeros → map f xs ≡ replicate n zeros → map f new ≡ replicate (n + 1) zeros
push_zeros f xs new x n zeros is shown before =
    ap (λ l. map f l) is ∙ map_push f xs x ∙ ap (λ l. l ++ f x ∷ []) before ∙ ap (λ y. replicate n zeros ++ y ∷ []) shown ∙ replicate_more n zeros
