-- What a view shows of a car by its schedule.
use Rattle.std.proofs.Common.{◌≡◌, ◌≢◌, ◌<◌, ◌≤◌, ◌+◌, ℕ, List, length, map, set, Option, Some}
use Rattle.std.proofs.Common.{None, get_or, refl, sym, ◌∙◌, ap, option_map, inl, inr, arith}
use Rattle.std.proofs.Common.{get_or-set_other}
use Rattle.std.proofs.lemmas.Bool.{cases_lt}
use Rattle.std.proofs.lemmas.Grind.{get_or-set_at}
use Rattle.std.proofs.lemmas.List.{get_or-map as get_or-map_in, get_or_default, get_or_past}
use Rattle.std.proofs.lemmas.List.{length-map, same_lists}
use Rattle.std.specs.Prelude.{All}
use Rattle.std.proofs.Math.ListN.{get_or-map}
use Rattle.lift_base.specs.declared.limits.TheConstants.{MOST_CARS}
use Rattle.lift_base.specs.declared.travel.Position.{Position}
use Rattle.lift_base.specs.declared.history.Row.{Row}
use Rattle.lift_building.specs.Plan.{Plan, IsBuilding}
use Rattle.lift_building.specs.lemmas.Getters.{serves_within}
use Rattle.lift_register.specs.Prelude.{RegisterState, rows_of, BelongsTo}
use Rattle.lift_stops.specs.Schedule.{ScheduleState}
use Rattle.lift_policy.specs.View.{ViewState, position_of, positions_of, AreSchedulesOf}

-- a schedule that has a car's open calls, from its position
schedule_is : (register : RegisterState) (car : ℕ) (schedule : Option ScheduleState)
    → ((s : ScheduleState) → schedule ≡ Some s → s.rows ≡ rows_of register car)
    → schedule ≡ option_map (λ (p : Position). record { position = p; rows = rows_of register car })
    (option_map (λ (s : ScheduleState). s.position) schedule)
schedule_is register car None h = refl
schedule_is register car (Some s) h =
    ap (λ (rows : List _). Some (record { position = s.position; rows = rows })) (h s refl)

pub schedule_seen : (register : RegisterState) (schedules : List (Option ScheduleState)) (car : ℕ)
    → AreSchedulesOf register schedules
    → get_or schedules car None
    ≡ option_map (λ (p : Position). record { position = p; rows = rows_of register car })
    (position_of (positions_of schedules) car)
schedule_seen register schedules car h =
    schedule_is register car (get_or schedules car None) (λ s e. h car s e)
    ∙ ap (λ (o : Option Position).
    option_map (λ (p : Position). record { position = p; rows = rows_of register car }) o)
    (sym (get_or-map (option_map (λ (s : ScheduleState). s.position)) schedules car None))

-- the same of a view, where the schedule was read at a place
pub seen_at : (register : RegisterState) (schedules : List (Option ScheduleState)) (place car : ℕ)
    (shown : Option ScheduleState) (view : ViewState)
    → AreSchedulesOf register schedules
    → record { register = register; positions = positions_of schedules } ≡ view
    → shown ≡ get_or schedules place None → place ≡ car
    → shown ≡ option_map (λ (p : Position).
    record { position = p; rows = rows_of view.register car }) (position_of view.positions car)
seen_at register schedules place car shown view h is found at =
    found ∙ ap (λ i. get_or schedules i None) at ∙ schedule_seen register schedules car h
    ∙ ap (λ (v : ViewState).
    option_map (λ (p : Position). record { position = p; rows = rows_of v.register car })
    (position_of v.positions car)) is

-- what a schedule that a view shows is
pub record IsShown (view : ViewState) (car : ℕ) (schedule : ScheduleState) : Type 0 where
  pub position : position_of view.positions car ≡ Some schedule.position
  pub rows : schedule.rows ≡ rows_of view.register car

shown_by : (view : ViewState) (car : ℕ) (schedule : ScheduleState) (position : Option Position)
    → position_of view.positions car ≡ position
    → Some schedule ≡ option_map (λ (p : Position).
    record { position = p; rows = rows_of view.register car }) position
    → IsShown view car schedule
shown_by view car schedule None is h = cc
shown_by view car schedule (Some p) is h =
    let e : schedule ≡ record { position = p; rows = rows_of view.register car } = cc in
    record {
      position = is ∙ ap (λ (s : ScheduleState). Some s.position) (sym e);
      rows = ap (λ (s : ScheduleState). s.rows) e;
    }

pub shown : (view : ViewState) (car : ℕ) (schedule : ScheduleState)
    → Some schedule ≡ option_map (λ (p : Position).
    record { position = p; rows = rows_of view.register car }) (position_of view.positions car)
    → IsShown view car schedule
shown view car schedule h = shown_by view car schedule (position_of view.positions car) refl h

-- the calls of a register of the building are between its floors
pub rows_within : (plan : Plan) (register : RegisterState) (car : ℕ) → IsBuilding plan
    → BelongsTo plan register
    → All (λ (row : Row). (row.from < plan.floors) × (row.to < plan.floors)) (rows_of register car)
rows_within plan register car lawful belongs k d inside =
    let call = belongs.rows car k d inside in (
      (serves_within plan car _ lawful call.served_from).1,
      (serves_within plan car _ lawful call.served_to).1,
    )

-- a car's schedule made from nothing, where it has reported its position
abbrev pub made_at : RegisterState → ℕ → Option Position → Option ScheduleState
made_at register car position =
    option_map (λ (p : Position). record { position = p; rows = rows_of register car }) position

made_from : (register : RegisterState) (car : ℕ) (position : Option Position) (s : ScheduleState)
    → made_at register car position ≡ Some s → s.rows ≡ rows_of register car
made_from register car None s h = cc
made_from register car (Some p) s h = let e : record { position = p; rows = rows_of register car }
    ≡ s = cc in ap (λ (x : ScheduleState). x.rows) (sym e)

position_made : (register : RegisterState) (car : ℕ) (position : Option Position)
    → option_map (λ (s : ScheduleState). s.position) (made_at register car position) ≡ position
position_made register car None = refl
position_made register car (Some p) = refl

-- one car's schedule more
pub made_more : (register : RegisterState) (positions : List (Option Position))
    (schedules : List (Option ScheduleState)) (i place : ℕ) (made : Option ScheduleState)
    (item : Option Position)
    → place ≡ i → place < length positions → place < length schedules
    → ((k : ℕ) → k < i → get_or schedules k None ≡ made_at register k (get_or positions k None))
    → made ≡ made_at register i (get_or positions place item)
    → (k : ℕ) → k < i + 1 → get_or (set schedules place made) k None
    ≡ made_at register k (get_or positions k None)
made_more register positions schedules i place made item at inside room earlier is k below =
    elim (cases_lt k i) [
      | inl lt ↦ let other : k ≢ place = omega arith in rw get_or-set_other (earlier k lt)
      | inr ge ↦
          let same : k ≡ place = omega arith in
          let first : i ≡ k = omega arith in
          get_or-set_at schedules place k made None same room ∙ is ∙ ap (λ (j : ℕ).
          made_at register j (get_or positions place item)) first
          ∙ ap (λ (o : Option Position).
          made_at register k o) (get_or_default positions place item None inside ∙ ap (λ (j : ℕ).
          get_or positions j None) (sym same))
    ]

-- all cars' schedules
pub all_made_own : (register : RegisterState) (positions : List (Option Position))
    (schedules : List (Option ScheduleState)) (i : ℕ) → length schedules ≡ MOST_CARS → MOST_CARS ≤ i
    → ((k : ℕ) → k < i → get_or schedules k None ≡ made_at register k (get_or positions k None))
    → AreSchedulesOf register schedules
all_made_own register positions schedules i count end made car s h = elim (cases_lt car MOST_CARS) [
  | inl lt ↦ made_from register car (get_or positions car None) s (sym (made car (omega arith)) ∙ h)
  | inr out ↦ let none : get_or schedules car None ≡ None =
      get_or_past schedules car None (omega arith) in cc
]

pub all_made_positions : (register : RegisterState) (positions : List (Option Position))
    (schedules : List (Option ScheduleState)) (i : ℕ) → length schedules ≡ MOST_CARS
    → length positions ≡ MOST_CARS → MOST_CARS ≤ i
    → ((k : ℕ) → k < i → get_or schedules k None ≡ made_at register k (get_or positions k None))
    → positions_of schedules ≡ positions
all_made_positions register positions schedules i count others end made =
    let f : Option ScheduleState
    → Option Position = option_map (λ (s : ScheduleState). s.position) in
    let lengths : length (map f schedules) ≡ length positions =
    length-map schedules f ∙ count ∙ sym others in
    same_lists (map f schedules) positions lengths
    (λ k d h.
    let inside : k < length schedules = let g = length-map schedules f in omega arith in
    get_or-map_in f schedules k None d inside ∙ ap f
    (made k (omega arith)) ∙ position_made register k (get_or positions k None)
    ∙ get_or_default positions k None d (omega arith))
