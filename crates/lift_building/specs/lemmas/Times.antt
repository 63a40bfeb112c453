-- How long flights take, and when halts are reached.
use Rattle.std.proofs.Common.{◌≡◌, ◌≢◌, nat_eq, add-one, ℕ, zero, suc, ◌+◌, ◌≤◌, ◌<◌, List, [], ◌∷◌}
use Rattle.std.proofs.Common.{◌++◌, length, get_or, drop, refl, sym, ap, ◌∙◌, arith, inl, inr, ◌⊎◌}
use Rattle.std.proofs.lemmas.Bool.{cases_lt, cases_Bool, eqb-true, eqb-false}
use Rattle.std.proofs.lemmas.List.{get_or_past, drop_all, append-nil}
use Rattle.lift_base.specs.declared.travel.Halt.{Halt}
use Rattle.lift_building.specs.Plan.{Plan, flight_ms, IsBuilding}
use Rattle.lift_building.specs.Arrivals.{arrivals_from, arrivals_of, floors_of, AreArrivals}

same_or_not : (i j : ℕ) → (i ≡ j) ⊎ (i ≢ j)
same_or_not i j = elim (cases_Bool (nat_eq i j))
    [ inl same ↦ inl (eqb-true i j same) | inr other ↦ inr (eqb-false i j other) ]

-- no flight takes more than ten minutes
pub flight_short : (plan : Plan) (i j : ℕ) → IsBuilding plan → flight_ms plan i j ≤ 600000
flight_short plan i j lawful =
    let flights = lawful.limits.flights in
    elim (cases_lt i plan.floors) [
      | inl i-in ↦ elim (cases_lt j plan.floors) [
        | inl j-in ↦ elim (same_or_not i j) [
          | inl same ↦ (let stays = flights.staying i i-in in
              let here : flight_ms plan i j ≡ 0 = ap (flight_ms plan i) (sym same) ∙ stays in
              omega arith)
          | inr differ ↦ (flights.moving i j i-in j-in differ).1
        ]
        | inr j-out ↦ (let row = flights.square i [] (omega (arith, flights.rows)) in
            let none : flight_ms plan i j ≡ 0 =
            get_or_past (get_or plan.flights i []) j 0 (omega (arith, row)) in omega arith)
      ]
      | inr i-out ↦ (let no-row : get_or plan.flights i []
          ≡ [] = get_or_past plan.flights i [] (omega (arith, flights.rows)) in
          let none : flight_ms plan i j ≡ 0 = ap (λ row. get_or row j 0) no-row in omega arith)
    ]

arrivals_count : (plan : Plan) (floor time : ℕ) (halts : List Halt)
    → length (arrivals_from plan floor time halts) ≡ length halts
arrivals_count plan floor time [] = refl
arrivals_count plan floor time (halt ∷ halts) =
    ap suc (arrivals_count plan halt.floor (time + flight_ms plan floor halt.floor + plan.door_ms)
    halts)

arrivals_first : (plan : Plan) (floor : ℕ) (halts : List Halt) → 0 < length halts
    → get_or (arrivals_from plan floor 0 halts) 0 0
    ≡ flight_ms plan floor (get_or (floors_of halts) 0 0)
arrivals_first plan floor [] lt = absurd (omega arith)
arrivals_first plan floor (halt ∷ halts) lt = omega arith

arrivals_later : (plan : Plan) (floor time : ℕ) (halts : List Halt) (n : ℕ) → suc n < length halts
    → get_or (arrivals_from plan floor time halts) (suc n) 0
    ≡ get_or (arrivals_from plan floor time halts) n 0 + plan.door_ms
    + flight_ms plan (get_or (floors_of halts) n 0) (get_or (floors_of halts) (suc n) 0)
arrivals_later plan floor time [] n lt = absurd (omega arith)
arrivals_later plan floor time (halt ∷ []) n lt = absurd (omega arith)
arrivals_later plan floor time (halt ∷ next ∷ halts) zero lt = refl
arrivals_later plan floor time (halt ∷ next ∷ halts) (suc n) lt =
    arrivals_later plan halt.floor (time + flight_ms plan floor halt.floor + plan.door_ms)
    (next ∷ halts) n (omega arith)

pub arrivals_are : (plan : Plan) (floor : ℕ) (halts : List Halt)
    → AreArrivals plan floor halts (arrivals_of plan floor halts)
arrivals_are plan floor halts = record {
  count = arrivals_count plan floor 0 halts;
  first = arrivals_first plan floor halts;
  later = λ n lt. rw add-one (arrivals_later plan floor 0 halts n (omega arith));
}

pub arrivals_end : (plan : Plan) (floor time i : ℕ) (halts : List Halt) (front all : List ℕ)
    → length halts ≤ i → front ++ arrivals_from plan floor time (drop i halts) ≡ all → front ≡ all
arrivals_end plan floor time i halts front all le so_far =
    sym (append-nil front) ∙ ap (λ hs.
    front ++ arrivals_from plan floor time hs) (sym (drop_all i halts le)) ∙ so_far
