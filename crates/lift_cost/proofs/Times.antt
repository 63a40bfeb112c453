-- Arrivals as sums, and where they stand.
use Rattle.std.proofs.Common.{◌≡◌, ℕ, zero, suc, ◌+◌, ◌≤◌, ◌||◌, Bool, true, false, List, [], ◌∷◌, ◌++◌, length, ap, ◌∙◌, arith, refl, sum_by}
use Rattle.std.specs.Prelude.{slice_get, slice_index, unwrap_or, Some}
use Rattle.std.specs.List.{range_with_len}
use Rattle.std.proofs.lemmas.List.Sums.{sum_by_push}
use Rattle.lift_base.specs.declared.travel.Halt.{Halt}
use Rattle.lift_building.specs.Arrivals.{arrivals_of}
use Rattle.lift_building.specs.lemmas.Times.{arrivals_are}
use Rattle.lift_stops.specs.StopList.{same_halt}
use Rattle.lift_stops.specs.Parts.{has_halt, AllDiffer}
use Rattle.lift_stops.specs.lemmas.Listed.{same_itself}
use Rattle.lift_cost.specs.Cost.{moment_at}
use Rattle.lift_cost.specs.Laws.{way_after, ArrivalsAddUp, ArrivalsAreAtPlaces, OthersHaveNone}
use Rattle.lift_cost.proofs.Earlier.{neither, not_here, or_right}

range_more : (a n : ℕ) → range_with_len a (suc n) ≡ range_with_len a n ++ (a + n) ∷ []
range_more a zero = let e : a ≡ a + 0 = omega arith in ap (λ m. m ∷ []) e
range_more a (suc n) =
    let e : (a + 1) + n ≡ a + suc n = omega arith in
    ap (λ (ns : List ℕ). a ∷ ns) (range_more (a + 1) n) ∙ ap (λ m. a ∷ (range_with_len (a + 1) n ++ m ∷ [])) e

pub add_up : ArrivalsAddUp
add_up plan floor halts zero within = let first = (arrivals_are plan floor halts).first within in omega (arith, first)
add_up plan floor halts (suc n) within =
    let so_far = add_up plan floor halts n (omega (arith, within)) in
    let suc-is : suc n ≡ n + 1 = omega arith in
    let next = ap (λ m. slice_index (arrivals_of plan floor halts) m) suc-is ∙ (arrivals_are plan floor halts).later n (omega (arith, within)) in
    let way = way_after plan halts in
    let e : 0 + n ≡ n = omega arith in
    let more : sum_by way (range_with_len 0 (suc n)) ≡ sum_by way (range_with_len 0 n) + way n =
    ap (λ (ns : List ℕ). sum_by way ns) (range_more 0 n) ∙ sum_by_push way (range_with_len 0 n) (0 + n) ∙ ap (λ m. sum_by way (range_with_len 0 n) + way m) e in
    omega (arith, so_far, next, more)

has_at_place : (hs : List Halt) (place : ℕ) (h : Halt) → slice_get hs place ≡ Some h → has_halt h hs ≡ true
has_at_place [] place h e = absurd cc
has_at_place (g ∷ hs) zero h e =
    let g-is : g ≡ h = ap (λ o. unwrap_or o g) e in
    rw (g-is, same_itself h) refl
has_at_place (g ∷ hs) (suc place) h e = or_right (same_halt g h) (has_halt h hs) (has_at_place hs place h e)

moment_at_place : (hs : List Halt) (times : List ℕ) (place : ℕ) (h : Halt) → length hs ≤ length times → AllDiffer hs → slice_get hs place ≡ Some h → moment_at h hs times ≡ slice_index times place
moment_at_place [] times place h long differ e = absurd cc
moment_at_place (g ∷ hs) [] place h long differ e = absurd (omega (arith, long))
moment_at_place (g ∷ hs) (time ∷ times) zero h long differ e =
    let g-is : g ≡ h = ap (λ o. unwrap_or o g) e in
    rw (g-is, same_itself h) refl
moment_at_place (g ∷ hs) (time ∷ times) (suc place) h long differ e =
    let there = not_here g h hs differ.0 (has_at_place hs place h e) in
    rw there (moment_at_place hs times place h (omega (arith, long)) differ.1 e)

pub at_places : ArrivalsAreAtPlaces
at_places plan floor halts place halt differ e =
    let count = (arrivals_are plan floor halts).count in
    moment_at_place halts (arrivals_of plan floor halts) place halt (omega (arith, count)) differ e

pub no_moment : (hs : List Halt) (times : List ℕ) (h : Halt) → has_halt h hs ≡ false → moment_at h hs times ≡ 0
no_moment [] times h e = refl
no_moment (g ∷ hs) [] h e = refl
no_moment (g ∷ hs) (time ∷ times) h e =
    let parts = neither (same_halt g h) (has_halt h hs) e in
    rw parts.0 (no_moment hs times h parts.1)

pub none_elsewhere : OthersHaveNone
none_elsewhere plan floor halts halt e = no_moment halts (arrivals_of plan floor halts) halt e
