-- What entries and schedules change.
use Rattle.std.proofs.Common.{◌≡◌, ◌≢◌, ℕ, zero, suc, ◌<◌, List, [], ◌∷◌, ◌++◌, length, set, get_or, Option, Some, None, refl, sym, ap, subst, ◌∙◌, inl, inr, arith, option_map, get_or-set_other}
use Rattle.std.specs.List.{flat_map}
use Rattle.std.specs.Option.{IfSome}
use Rattle.std.proofs.Math.Seq.{map-set_same}
use Rattle.std.proofs.lemmas.Bool.{cases_eq}
use Rattle.std.proofs.lemmas.Grind.{get_or-set_at}
use Rattle.std.proofs.lemmas.List.{map-set, get_or_default}
use Rattle.lift_base.specs.History.{row_after}
use Rattle.lift_base.specs.declared.limits.TheConstants.{MOST_CARS, MOST_TERMINALS}
use Rattle.lift_base.specs.declared.travel.Dir.{Dir}
use Rattle.lift_base.specs.declared.travel.Position.{Position}
use Rattle.lift_base.specs.declared.history.Row.{Row}
use Rattle.lift_base.specs.declared.history.Entry.TheVariants.{Allot, Stop}
use Rattle.lift_register.specs.Register.{RegisterState, rows_of, register_of, waiting_row}
use Rattle.lift_register.specs.WellFormed.{IsWellFormed}
use Rattle.lift_register.specs.lemmas.EntryLemmas.{register_of-allot, register_of-stop}
use Rattle.lift_stops.specs.Schedule.{ScheduleState}
use Rattle.lift_policy.specs.View.{positions_of, position_of, AreSchedulesOf}
use Rattle.lift_building.specs.Plan.{Plan}
use Rattle.lift_decider.specs.Schedules.{with_row}

-- a new call joins its car's rows, and no other car's
pub rows_of-allot : (register : RegisterState) (kiosk number from to car party : ℕ) → IsWellFormed register → kiosk < MOST_TERMINALS → car < MOST_CARS
    → rows_of (register_of register (Allot kiosk number from to car party ∷ [])) car ≡ rows_of register car ++ waiting_row kiosk number from to car party ∷ []
rows_of-allot register kiosk number from to car party lawful is_kiosk is_car =
    ap (λ (r : RegisterState). rows_of r car) (sym (register_of-allot register kiosk number from to car party lawful.row_count lawful.last_count is_kiosk is_car))
    ∙ get_or-set_at register.rows car car (rows_of register car ++ waiting_row kiosk number from to car party ∷ []) [] refl (omega (arith, lawful.row_count))

pub rows_of-other_allot : (register : RegisterState) (kiosk number from to car party : ℕ) → IsWellFormed register → kiosk < MOST_TERMINALS → car < MOST_CARS
    → (k : ℕ) → k ≢ car → rows_of (register_of register (Allot kiosk number from to car party ∷ [])) k ≡ rows_of register k
rows_of-other_allot register kiosk number from to car party lawful is_kiosk is_car k other =
    ap (λ (r : RegisterState). rows_of r k) (sym (register_of-allot register kiosk number from to car party lawful.row_count lawful.last_count is_kiosk is_car))
    ∙ get_or-set_other register.rows car k (rows_of register car ++ waiting_row kiosk number from to car party ∷ []) [] other

-- a stop changes its car's rows, and no other car's
pub rows_of-stop : (register : RegisterState) (car number floor : ℕ) (dir : Dir) → IsWellFormed register → car < MOST_CARS
    → rows_of (register_of register (Stop car number floor dir ∷ [])) car ≡ flat_map (row_after (record { floor = floor; dir = dir })) (rows_of register car)
rows_of-stop register car number floor dir lawful is_car =
    ap (λ (r : RegisterState). rows_of r car) (sym (register_of-stop register car number floor dir lawful.row_count lawful.last_count is_car lawful.own_cars))
    ∙ get_or-set_at register.rows car car (flat_map (row_after (record { floor = floor; dir = dir })) (rows_of register car)) [] refl (omega (arith, lawful.row_count))

pub rows_of-other_stop : (register : RegisterState) (car number floor : ℕ) (dir : Dir) → IsWellFormed register → car < MOST_CARS
    → (k : ℕ) → k ≢ car → rows_of (register_of register (Stop car number floor dir ∷ [])) k ≡ rows_of register k
rows_of-other_stop register car number floor dir lawful is_car k other =
    ap (λ (r : RegisterState). rows_of r k) (sym (register_of-stop register car number floor dir lawful.row_count lawful.last_count is_car lawful.own_cars))
    ∙ get_or-set_other register.rows car k (flat_map (row_after (record { floor = floor; dir = dir })) (rows_of register car)) [] other

-- where one car's rows changed and its schedule is of them, all schedules are of their rows
pub own_after : (old new : RegisterState) (schedules : List (Option ScheduleState)) (car : ℕ) (o : Option ScheduleState) → car < length schedules
    → ((k : ℕ) → k ≢ car → rows_of new k ≡ rows_of old k) → ((s : ScheduleState) → o ≡ Some s → s.rows ≡ rows_of new car)
    → AreSchedulesOf old schedules → AreSchedulesOf new (set schedules car o)
own_after old new schedules car o inside others is own k t h = elim (cases_eq k car) [
  | inl same ↦
      let e : o ≡ Some t = sym (get_or-set_at schedules car k o None same inside) ∙ h in
      is t e ∙ ap (λ (j : ℕ). rows_of new j) (sym same)
  | inr other ↦ own k t (sym (get_or-set_other schedules car k o None other) ∙ h) ∙ sym (others k other)
]

-- the same at that car's place
pub own_again : (old new : RegisterState) (schedules : List (Option ScheduleState)) (i car : ℕ) (o : Option ScheduleState) → i ≡ car → i < length schedules
    → ((k : ℕ) → k ≢ car → rows_of new k ≡ rows_of old k) → ((s : ScheduleState) → o ≡ Some s → s.rows ≡ rows_of new car)
    → AreSchedulesOf old schedules → AreSchedulesOf new (set schedules i o)
own_again old new schedules i car o at inside others is own =
    subst (λ (j : ℕ). AreSchedulesOf new (set schedules j o)) (sym at) (own_after old new schedules car o (omega (arith, at, inside)) others is own)

-- the schedule at a car's place has the car's rows
pub taken_rows : (register : RegisterState) (schedules : List (Option ScheduleState)) (i car : ℕ) (d o : Option ScheduleState) → i ≡ car → i < length schedules
    → o ≡ get_or schedules i d → AreSchedulesOf register schedules → (s : ScheduleState) → o ≡ Some s → s.rows ≡ rows_of register car
taken_rows register schedules i car d o at inside is own s h =
    own car s (ap (λ (j : ℕ). get_or schedules j None) (sym at) ∙ sym (get_or_default schedules i d None inside) ∙ sym is ∙ h)

pub if_some : {X : Type 0} (P : X → Type 0) (o : Option X) → ((x : X) → o ≡ Some x → P x) → IfSome o P
if_some P None h = tt
if_some P (Some x) h = h x refl

pub made_rows : (o : Option ScheduleState) (s : ScheduleState) (p : Position) (rows : List Row) → o ≡ Some (record { position = p; rows = rows }) → o ≡ Some s → s.rows ≡ rows
made_rows o s p rows is h = let e : s ≡ record { position = p; rows = rows } = cc in ap (λ (x : ScheduleState). x.rows) e

pub positions_at : (schedules : List (Option ScheduleState)) (i car : ℕ) (o : Option ScheduleState) (p : Position) (rows : List Row) → i ≡ car
    → o ≡ Some (record { position = p; rows = rows }) → positions_of (set schedules i o) ≡ set (positions_of schedules) car (Some p)
positions_at schedules i car o p rows at is =
    let f : Option ScheduleState → Option Position = option_map (λ (x : ScheduleState). x.position) in
    map-set f schedules i o ∙ ap (λ (j : ℕ). set (positions_of schedules) j (f o)) at ∙ ap (λ (q : Option Position). set (positions_of schedules) car q) (ap f is)

with_row-position : (row : Row) (o : Option ScheduleState) → option_map (λ (s : ScheduleState). s.position) (with_row row o) ≡ option_map (λ (s : ScheduleState). s.position) o
with_row-position row None = refl
with_row-position row (Some s) = refl

-- one call more moves no car
pub positions_kept : (schedules : List (Option ScheduleState)) (i : ℕ) (o taken d : Option ScheduleState) (row : Row) → o ≡ with_row row taken → taken ≡ get_or schedules i d
    → positions_of (set schedules i o) ≡ positions_of schedules
positions_kept schedules i o taken d row e is =
    let f : Option ScheduleState → Option Position = option_map (λ (x : ScheduleState). x.position) in
    map-set_same f schedules i o d (ap f e ∙ with_row-position row taken ∙ ap f is)

pub with_row-rows : (row : Row) (o : Option ScheduleState) (rows : List Row) → ((s : ScheduleState) → o ≡ Some s → s.rows ≡ rows)
    → (t : ScheduleState) → with_row row o ≡ Some t → t.rows ≡ rows ++ row ∷ []
with_row-rows row None rows own t h = cc
with_row-rows row (Some s) rows own t h =
    let e : record s { rows = s.rows ++ row ∷ [] } ≡ t = cc in
    ap (λ (x : ScheduleState). x.rows) (sym e) ∙ ap (λ (l : List Row). l ++ row ∷ []) (own s refl)

-- the cars stand at the building's floors
pub set_here : (plan : Plan) (positions : List (Option Position)) (car : ℕ) (p : Position) → p.floor < plan.floors
    → ((k : ℕ) (q : Position) → position_of positions k ≡ Some q → q.floor < plan.floors)
    → (k : ℕ) (q : Position) → position_of (set positions car (Some p)) k ≡ Some q → q.floor < plan.floors
set_here plan [] car p lt here k q at = here k q at
set_here plan (o ∷ positions) zero p lt here zero q at = let e : p ≡ q = cc in let f : p.floor ≡ q.floor = ap (λ (x : Position). x.floor) e in omega arith
set_here plan (o ∷ positions) zero p lt here (suc k) q at = here (suc k) q at
set_here plan (o ∷ positions) (suc car) p lt here zero q at = here zero q at
set_here plan (o ∷ positions) (suc car) p lt here (suc k) q at = set_here plan positions car p lt (λ j r e. here (suc j) r e) k q at
