-- A table of those who leave, with one call more.
use Rattle.std.proofs.Common.{◌≡◌, ◌≢◌, ℕ, ◌+◌, ◌≤◌, ◌<◌, true, false, List, [], ◌∷◌, ◌++◌, length, get_or, sym, ap, ◌∙◌, arith, inl, inr, refl}
use Rattle.std.proofs.Math.ListN.{set, length-set}
use Rattle.std.proofs.lemmas.Bool.{cases_Bool}
use Rattle.std.proofs.lemmas.List.{get_or-set_same, get_or-set_other, length_push}
use Rattle.std.proofs.lemmas.List.Sums.{sum_by_push}
use Rattle.lift_base.specs.declared.limits.TheConstants.{MOST_FLOORS}
use Rattle.lift_base.specs.declared.travel.Position.{Position}
use Rattle.lift_base.specs.declared.travel.Halt.{Halt}
use Rattle.lift_base.specs.declared.history.Row.{Row}
use Rattle.lift_stops.specs.StopList.{same_halt, halt_at}
use Rattle.lift_stops.specs.Leaving.{AreLeaving, place_of, leaving_of, leaving_at}
use Rattle.lift_stops.specs.lemmas.Leaving.{place_within, places_apart, same_place}

-- a call leaves at its own halt alone
leaving-here : (position : Position) (halt : Halt) (row : Row) → same_halt (halt_at position row row.to) halt ≡ true → leaving_of position halt row ≡ row.party
leaving-here position halt row here = rw here refl

leaving-elsewhere : (position : Position) (halt : Halt) (row : Row) → same_halt (halt_at position row row.to) halt ≡ false → leaving_of position halt row ≡ 0
leaving-elsewhere position halt row elsewhere = rw elsewhere refl

leaving-most : (position : Position) (halt : Halt) (row : Row) → row.party ≤ 15 → leaving_of position halt row ≤ 15
leaving-most position halt row few = elim (cases_Bool (same_halt (halt_at position row row.to) halt)) [
  | inl here ↦ omega (arith, few, leaving-here position halt row here)
  | inr elsewhere ↦ omega (arith, leaving-elsewhere position halt row elsewhere)
]

pub one_leaves : (rows : List Row) (row : Row) (position : Position) (table : List ℕ) (place persons : ℕ) → row.to < MOST_FLOORS → row.party ≤ 15 → place ≡ place_of (halt_at position row row.to)
    → persons ≡ get_or table place 0 + row.party → AreLeaving rows position table → AreLeaving (rows ++ row ∷ []) position (set table place persons)
one_leaves rows row position table place persons low few place-is persons-is leaving =
    let goal : Halt = halt_at position row row.to in
    let inside : place < length table = omega (arith, place-is, leaving.size, place_within goal low) in
    record {
      size = length-set table place persons ∙ leaving.size;
      at_each = λ halt halt-low.
          let more = sum_by_push (leaving_of position halt) rows row in
          let before : get_or table (place_of halt) 0 ≡ leaving_at rows position halt = leaving.at_each halt halt-low in
          elim (cases_Bool (same_halt goal halt)) [
            | inl here ↦
                let at-place : place_of halt ≡ place = same_place goal halt here ∙ sym place-is in
                let written : get_or (set table place persons) (place_of halt) 0 ≡ persons = ap (λ p. get_or (set table place persons) p 0) at-place ∙ get_or-set_same table place persons 0 inside in
                let was : get_or table place 0 ≡ leaving_at rows position halt = ap (λ p. get_or table p 0) (sym at-place) ∙ before in
                omega (arith, more, written, persons-is, was, leaving-here position halt row here)
            | inr elsewhere ↦
                let apart : place_of halt ≢ place = λ same. places_apart goal halt low halt-low elsewhere (same ∙ place-is) in
                let kept : get_or (set table place persons) (place_of halt) 0 ≡ get_or table (place_of halt) 0 = get_or-set_other table place (place_of halt) persons 0 apart in
                omega (arith, more, kept, before, leaving-elsewhere position halt row elsewhere)
          ];
      limit = λ halt. omega (arith, sum_by_push (leaving_of position halt) rows row, leaving-most position halt row few, leaving.limit halt, length_push rows row);
    }
