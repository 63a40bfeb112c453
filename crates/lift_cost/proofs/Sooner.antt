-- A halt that is put into a list of halts makes none of the others sooner.
use Rattle.std.proofs.Common.{◌≡◌, ℕ, ◌+◌, ◌*◌, ◌<◌, ◌≤◌, ◌==◌, nat_lt, Bool, true, false, cond, List, [], ◌∷◌, refl, ap, subst, arith, inl, inr, sum_by}
use Rattle.std.proofs.Math.Nat.{mul-le-mul_left}
use Rattle.std.proofs.lemmas.Bool.{cases_Bool, ltb-false, eqb-false}
use Rattle.std.proofs.lemmas.List.Sums.{sum_by-cons, sum_by_push}
use Rattle.lift_base.specs.declared.limits.TheConstants.{MOST_FLOORS}
use Rattle.lift_base.specs.declared.travel.Halt.{Halt}
use Rattle.lift_base.specs.declared.travel.Position.{Position}
use Rattle.lift_base.specs.declared.history.Row.{Row}
use Rattle.lift_building.specs.Plan.{Plan, flight_ms, IsBuilding}
use Rattle.lift_building.specs.Arrivals.{arrivals_from}
use Rattle.lift_stops.specs.StopList.{same_halt, halt_at, all_halts, is_needed, stop_list}
use Rattle.lift_stops.specs.Parts.{has_halt}
use Rattle.lift_stops.specs.Insertion.{put, rank_of}
use Rattle.lift_stops.specs.lemmas.Halts.{all_halts-rise, stop_list-waiting}
use Rattle.lift_stops.specs.lemmas.Insertion.{Rises, Rises-filter}
use Rattle.lift_stops.specs.lemmas.Listed.{halts_equal}
use Rattle.lift_cost.specs.Cost.{moment_at, arrival_at, etd, new_call_row, with_new_call}
use Rattle.lift_cost.specs.Laws.{OthersAreNoSooner, CostsAddUp, DegradationsAddUp}
use Rattle.lift_cost.proofs.Costs.{stops_within}
use Rattle.lift_cost.proofs.Earlier.{AllBelow}
use Rattle.lift_cost.proofs.Missing.{either_missing}
use Rattle.lift_cost.proofs.Putting.{with_halt-rises}
use Rattle.lift_cost.proofs.Times.{no_moment}

-- ---- a car that is at each floor no sooner than another one

abbrev IsLater : Plan → (floor time other later : ℕ) → Type 0
IsLater plan floor time other later = (to : ℕ) → to < plan.floors → time + flight_ms plan floor to ≤ later + flight_ms plan other to

either_le : (b : Bool) (m n p q : ℕ) → m ≤ n → p ≤ q → cond b m p ≤ cond b n q
either_le true m n p q first second = first
either_le false m n p q first second = second

no_sooner_later : (plan : Plan) (h : Halt) (hs : List Halt) (floor time other later : ℕ) → AllBelow plan.floors hs → IsLater plan floor time other later
    → moment_at h hs (arrivals_from plan floor time hs) ≤ moment_at h hs (arrivals_from plan other later hs)
no_sooner_later plan h [] floor time other later below is = omega arith
no_sooner_later plan h (g ∷ gs) floor time other later below is =
    let here = is g.floor below.0 in
    let rest = no_sooner_later plan h gs g.floor (time + flight_ms plan floor g.floor + plan.door_ms) g.floor (later + flight_ms plan other g.floor + plan.door_ms) below.1 (λ to inside. omega (arith, here)) in
    either_le (same_halt g h) _ _ _ _ here rest

-- ---- a halt is put in

above_missing : (rank : Halt → ℕ) (h : Halt) (low : ℕ) (hs : List Halt) → Rises rank low hs → rank h < low → has_halt h hs ≡ false
above_missing rank h low [] rises lt = refl
above_missing rank h low (g ∷ gs) rises lt =
    let above = rises.0 in
    let other : same_halt g h ≡ false = elim (cases_Bool (same_halt g h)) [
      | inl same ↦ absurd (let one = ap rank (halts_equal g h same) in omega (arith, one, above, lt))
      | inr differs ↦ differs
    ] in
    either_missing (same_halt g h) (has_halt h gs) other (above_missing rank h (rank g + 1) gs rises.1 (omega (arith, above, lt)))

put_first : (plan : Plan) → IsBuilding plan → (rank : Halt → ℕ) (x h : Halt) → x.floor < plan.floors → (hs : List Halt) → Rises rank (rank x + 1) hs → (floor time : ℕ) → floor < plan.floors → AllBelow plan.floors hs
    → moment_at h hs (arrivals_from plan floor time hs) ≤ moment_at h (x ∷ hs) (arrivals_from plan floor time (x ∷ hs))
put_first plan lawful rank x h inside hs rises floor time here below =
    elim (cases_Bool (same_halt x h)) [
      | inl same ↦ (let one = ap rank (halts_equal x h same) in
          let none = no_moment hs (arrivals_from plan floor time hs) h (above_missing rank h (rank x + 1) hs rises (omega (arith, one))) in
          rw same (omega (arith, none)))
      | inr other ↦ rw other (no_sooner_later plan h hs floor time x.floor (time + flight_ms plan floor x.floor + plan.door_ms) below
          (λ to to-in. let direct = lawful.no_detour floor x.floor to here inside to-in in omega (arith, direct)))
    ]

put_no_sooner : (plan : Plan) → IsBuilding plan → (rank : Halt → ℕ) (x h : Halt) → x.floor < plan.floors → (low : ℕ) (hs : List Halt) → Rises rank low hs → (floor time : ℕ) → floor < plan.floors → AllBelow plan.floors hs
    → moment_at h hs (arrivals_from plan floor time hs) ≤ moment_at h (put rank x hs) (arrivals_from plan floor time (put rank x hs))
put_no_sooner plan lawful rank x h inside low [] rises floor time here below = omega arith
put_no_sooner plan lawful rank x h inside low (y ∷ ys) rises floor time here below =
    elim (cases_Bool (nat_lt (rank y) (rank x))) [
      | inl before ↦ (
          let there : ℕ = time + flight_ms plan floor y.floor in
          let rest = put_no_sooner plan lawful rank x h inside (rank y + 1) ys rises.1 y.floor (there + plan.door_ms) below.0 below.1 in
          rw before (either_le (same_halt y h) there there _ _ (omega arith) rest))
      | inr not_before ↦ elim (cases_Bool (rank y == rank x)) [
        | inl same ↦ rw (not_before, same) (omega arith)
        | inr other ↦ (
            let no_lower = ltb-false (rank y) (rank x) not_before in
            let not_same = eqb-false (rank y) (rank x) other in
            rw (not_before, other) (put_first plan lawful rank x h inside (y ∷ ys) (omega (arith, no_lower, not_same), rises.1) floor time here below))
      ]
    ]

put_below : (floors : ℕ) (rank : Halt → ℕ) (x : Halt) → x.floor < floors → (hs : List Halt) → AllBelow floors hs → AllBelow floors (put rank x hs)
put_below floors rank x inside [] below = (inside, tt)
put_below floors rank x inside (y ∷ ys) below =
    elim (cases_Bool (nat_lt (rank y) (rank x))) [
      | inl before ↦ rw before (below.0, put_below floors rank x inside ys below.1)
      | inr not_before ↦ elim (cases_Bool (rank y == rank x)) [
        | inl same ↦ rw (not_before, same) below
        | inr other ↦ rw (not_before, other) (inside, below)
      ]
    ]

-- ---- a new call

stops_rise : (rows : List Row) (position : Position) → Rises (rank_of position.dir) 0 (stop_list rows position)
unfolding stop_list
stops_rise rows position = Rises-filter (rank_of position.dir) 0 (is_needed rows position) (all_halts position.dir) (all_halts-rise position.dir)

pub others_no_sooner : OthersAreNoSooner
unfolding etd
others_no_sooner plan position rows call row lawful floors within =
    let new : Row = new_call_row call in
    let rank : Halt → ℕ = rank_of position.dir in
    let boards : Halt = halt_at position new call.from in
    let leaves : Halt = halt_at position new call.to in
    let h : Halt = halt_at position row row.to in
    let halts : List Halt = stop_list rows position in
    let from-in = floors.1 in
    let to-in = floors.2 in
    let few = lawful.limits.few_floors in
    let low : call.from < MOST_FLOORS = omega (arith, from-in, few) in
    let below : AllBelow plan.floors halts = stops_within plan.floors rows position within in
    let first = put_no_sooner plan lawful rank boards h from-in 0 halts (stops_rise rows position) position.floor 0 floors.0 below in
    let second = put_no_sooner plan lawful rank leaves h to-in 0 (put rank boards halts) (with_halt-rises rows position boards low) position.floor 0 floors.0 (put_below plan.floors rank boards from-in halts below) in
    let with-it : put rank leaves (put rank boards halts) ≡ stop_list (with_new_call rows call) position = stop_list-waiting rows new position refl low (omega (arith, to-in, few)) in
    let NoSooner : List Halt → Type 0 = λ hs. arrival_at plan position.floor halts h ≤ arrival_at plan position.floor hs h in
    subst NoSooner with-it (omega (arith, first, second))

-- ---- all passengers together

no_less : (times more : Row → ℕ) → ((row : Row) → times row ≤ more row) → (rows : List Row) → sum_by (λ (row : Row). row.party * times row) rows ≤ sum_by (λ (row : Row). row.party * more row) rows
no_less times more each [] = omega arith
no_less times more each (row ∷ rows) =
    let first = sum_by-cons (λ (r : Row). r.party * times r) row rows in
    let second = sum_by-cons (λ (r : Row). r.party * more r) row rows in
    let here = mul-le-mul_left row.party (each row) in
    let rest = no_less times more each rows in
    omega (arith, first, second, here, rest)

pub costs_add_up : CostsAddUp
costs_add_up plan position rows call lawful floors within =
    let others = no_less (etd plan position rows) (etd plan position (with_new_call rows call)) (λ row. others_no_sooner plan position rows call row lawful floors within) rows in
    let all = sum_by_push (λ (row : Row). row.party * etd plan position (with_new_call rows call) row) rows (new_call_row call) in
    omega (arith, others, all)

pub degradations_add_up : DegradationsAddUp
degradations_add_up plan position rows call lawful floors within =
    let others = no_less (etd plan position rows) (etd plan position (with_new_call rows call)) (λ row. others_no_sooner plan position rows call row lawful floors within) rows in
    let all = sum_by_push (λ (row : Row). row.party * etd plan position (with_new_call rows call) row) rows (new_call_row call) in
    omega (arith, others, all)
