-- What stays true of a register when a row, a stop, a last command or a count is taken in.
use Rattle.std.proofs.Common.{◌≡◌, ℕ, ◌+◌, ◌<◌, ◌≤◌, ◌==◌, ◌&&◌, true, false, if◌then◌else◌, Bool}
use Rattle.std.proofs.Common.{Some, None, List, [], ◌∷◌, ◌++◌, All, length, sum_by, get_or, subst}
use Rattle.std.proofs.Common.{Option, refl, sym, ◌∙◌, ap, arith, length-append}
use Rattle.std.specs.List.{flat_map}
use Rattle.std.specs.Option.{option_map_or}
use Rattle.std.proofs.Math.ListN.{set}
use Rattle.std.proofs.lemmas.List.{length-set, get_or-set_same, get_or-set_other}
use Rattle.std.proofs.lemmas.List.Sums.{sum_by-cons, sum_by-append, sum_by_push}
use Rattle.std.proofs.lemmas.List.Elements.{All-nil, All-cons, All-head, All-tail, All-append}
use Rattle.std.proofs.lemmas.List.Elements.{All-push}
use Rattle.std.proofs.lemmas.Option.{same_Some}
use Rattle.lift_building.specs.Plan.{Plan, places_of}
use Rattle.lift_base.specs.Travel.{same_dir}
use Rattle.lift_base.specs.History.{dir_of, row_after}
use Rattle.lift_base.specs.Records.{IsRecord}
use Rattle.lift_base.specs.declared.limits.TheConstants.{FIRST_KIOSK, MOST_CARS, MOST_DONE, MOST_PLACES, MOST_ROWS, MOST_TERMINALS}
use Rattle.lift_base.specs.declared.travel.Stop.{Stop as CarStop}
use Rattle.lift_base.specs.declared.history.Record.TheVariants.{Row as RowRecord}
use Rattle.lift_base.specs.declared.history.Record.TheVariants.{Last as LastRecord}
use Rattle.lift_base.specs.declared.history.Last.{Last}
use Rattle.lift_base.specs.declared.history.Row.{Row}
use Rattle.lift_register.specs.Register.{RegisterState, rows_of, last_of, last_number}
use Rattle.lift_register.specs.Fits.{IsPossibleCall, IsPossibleLast, persons_of, HasPlace}
use Rattle.lift_register.specs.Balanced.{open_count, numbered_calls, IsBalanced}
use Rattle.lift_register.specs.Base.{with_record}
use Rattle.lift_register.specs.Steps.{with_stop, ended_by}
use Rattle.lift_register.specs.WellFormed.{IsWellFormed}
use Rattle.lift_register.specs.Belongs.{BelongsTo}
use Rattle.lift_register.specs.lemmas.Sums.{after_set, more_at_one_car, more_at_one_kiosk}
use Rattle.lift_register.specs.lemmas.Sums.{same_sum_over_kiosks, at_most_over_cars, kiosks_below}
use Rattle.lift_register.specs.lemmas.EntryLemmas.{row_after-fewer}

-- what a stop leaves of each row: all but whether it is aboard
pub All-row_after : (P : Row → Type 0)
    → ((row : Row) (b : Bool) → P row → P (record row { aboard = b }))
    → (rows : List Row) (stop : CarStop) → All P rows → All P (flat_map (row_after stop) rows)
All-row_after P stays [] stop all = all
All-row_after P stays (row ∷ rows) stop all =
    let here : P row = All-head P row rows all in
    let one : All P (row_after stop row) =
    elim (row.aboard) as (λ b.
    All P (if b then (if stop.floor == row.to then [] else row
    ∷ []) else record row {
      aboard =
          stop.floor == row.from && same_dir stop.dir (dir_of row.from row.to);
    } ∷ [])) [
      | true ↦ elim (stop.floor == row.to) as (λ b.
          All P (if b then [] else row ∷ [])) [
            | true ↦ All-nil P
            | false ↦ All-cons P row [] here
                (All-nil P)
          ]
      | false ↦ All-cons P _ [] (stays row _ here) (All-nil P)
    ] in
    All-append P (row_after stop row) (flat_map (row_after stop) rows) one
    (All-row_after P stays rows stop (All-tail P row rows all))

-- a stop adds no persons
pub row_after-persons : (rows : List Row) (stop : CarStop)
    → persons_of (flat_map (row_after stop) rows) ≤ persons_of rows
row_after-persons [] stop = omega arith
row_after-persons (row ∷ rows) stop =
    let party : Row → ℕ = λ (r : Row). r.party in
    let one : sum_by party (row_after stop row) ≤ row.party =
    elim (row.aboard) as (λ b.
    sum_by party (if b then (if stop.floor == row.to then [] else row
    ∷ []) else record row {
      aboard =
          stop.floor == row.from && same_dir stop.dir (dir_of row.from row.to);
    } ∷ []) ≤ row.party) [
      | true ↦ elim (stop.floor == row.to) as (λ b.
          sum_by party (if b then [] else row ∷ [])
          ≤ row.party) [ true ↦ omega arith | false ↦ omega arith ]
      | false ↦ omega arith
    ] in
    rw (
      sum_by-append party (row_after stop row) (flat_map (row_after stop) rows),
      sum_by-cons party
          row rows,
    ) (omega (arith, one, row_after-persons rows stop))

pub IsWellFormed-row : (register : RegisterState) (row : Row) → IsWellFormed register
    → IsRecord (RowRecord row) → length (rows_of register row.car) < MOST_ROWS
    → IsWellFormed (with_record register (RowRecord row))
IsWellFormed-row register row lawful written room =
    let within : row.car < length register.rows =
    omega (arith, lawful.row_count, written.0.1.car_range) in
    let rows : List Row = rows_of register row.car ++ row ∷ [] in
    record {
      row_count = length-set register.rows row.car rows ∙ lawful.row_count;
      last_count = lawful.last_count;
      own_cars = after_set (λ (car : ℕ) (list : List Row).
          All (λ (r : Row). r.car ≡ car) list) register.rows row.car rows [] within
          (All-push (λ (r : Row). r.car ≡ row.car) (rows_of register row.car) row
          (lawful.own_cars row.car) refl) lawful.own_cars;
      few_rows = after_set (λ (car : ℕ) (list : List Row).
          length list ≤ MOST_ROWS) register.rows row.car rows [] within
          (omega (arith, length-append (rows_of register row.car) (row ∷ []), room))
          lawful.few_rows;
      rows = after_set (λ (car : ℕ) (list : List Row).
          All (λ (r : Row). IsRecord (RowRecord r)) list) register.rows row.car rows [] within
          (All-push (λ (r : Row). IsRecord (RowRecord r)) (rows_of register row.car) row
          (lawful.rows row.car) written) lawful.rows;
      lasts = lawful.lasts;
      done = lawful.done;
    }

-- what is true of each terminal's last command is so after one is kept
pub lasts-kept : (P : ℕ → Last → Type 0) (lasts : List (Option Last)) (terminal : ℕ) (last : Last)
    → terminal < length lasts → P terminal last
    → ((k : ℕ) (l : Last) → get_or lasts k None ≡ Some l → P k l) → (k : ℕ) (l : Last)
    → get_or (set lasts terminal (Some last)) k None ≡ Some l → P k l
lasts-kept P lasts terminal last within here others =
    after_set (λ (k : ℕ) (o : Option Last). (l : Last) → o ≡ Some l
    → P k l) lasts terminal (Some last) None within (λ (l : Last) (same : Some last ≡ Some l).
    subst (λ (x : Last). P terminal x) (same_Some last l same) here) others

pub IsWellFormed-last : (register : RegisterState) (terminal : ℕ) (last : Last)
    → IsWellFormed register → IsRecord (LastRecord terminal last)
    → IsWellFormed (with_record register (LastRecord terminal last))
IsWellFormed-last register terminal last lawful written =
    let within : terminal < length register.lasts =
    omega (arith, lawful.last_count, written.0.0.terminal_range) in
    record {
      row_count = lawful.row_count;
      last_count = length-set register.lasts terminal (Some last) ∙ lawful.last_count;
      own_cars = lawful.own_cars;
      few_rows = lawful.few_rows;
      rows = lawful.rows;
      lasts = lasts-kept (λ (k : ℕ) (l : Last).
          IsRecord (LastRecord k l)) register.lasts terminal last within written lawful.lasts;
      done = lawful.done;
    }

pub IsWellFormed-stop : (register : RegisterState) (car : ℕ) (stop : CarStop)
    → IsWellFormed register → car < MOST_CARS → register.done + length (rows_of register car) ≤ MOST_DONE
    → IsWellFormed (with_stop register car stop)
IsWellFormed-stop register car stop lawful is_car countable =
    let within : car < length register.rows = omega (arith, lawful.row_count) in
    let rows : List Row = flat_map (row_after stop) (rows_of register car) in
    record {
      row_count = length-set register.rows car rows ∙ lawful.row_count;
      last_count = lawful.last_count;
      own_cars = after_set (λ (k : ℕ) (list : List Row).
          All (λ (r : Row). r.car ≡ k) list) register.rows car rows [] within
          (All-row_after (λ (r : Row). r.car ≡ car) (λ r b own.
          own) (rows_of register car) stop (lawful.own_cars car)) lawful.own_cars;
      few_rows = after_set (λ (k : ℕ) (list : List Row).
          length list ≤ MOST_ROWS) register.rows car rows [] within
          (omega (arith, row_after-fewer (rows_of register car) stop, lawful.few_rows car))
          lawful.few_rows;
      rows = after_set (λ (k : ℕ) (list : List Row).
          All (λ (r : Row). IsRecord (RowRecord r)) list) register.rows car rows [] within
          (All-row_after (λ (r : Row). IsRecord (RowRecord r)) (λ r b written.
          written) (rows_of register car) stop (lawful.rows car)) lawful.rows;
      lasts = lawful.lasts;
      done = (omega (arith, countable), omega (arith, countable));
    }

pub BelongsTo-row : (plan : Plan) (register : RegisterState) (row : Row) → BelongsTo plan register
    → row.car < length register.rows → IsPossibleCall plan row.kiosk row.from row.to row.car
    → HasPlace plan register row.car row.party
    → BelongsTo plan (with_record register (RowRecord row))
BelongsTo-row plan register row belongs within possible place =
    let rows : List Row = rows_of register row.car ++ row ∷ [] in
    record {
      rows = after_set (λ (car : ℕ) (list : List Row).
          All (λ (r : Row). IsPossibleCall plan r.kiosk r.from r.to car) list) register.rows row.car
          rows [] within (All-push (λ (r : Row).
          IsPossibleCall plan r.kiosk r.from r.to row.car) (rows_of register row.car) row
          (belongs.rows row.car) possible) belongs.rows;
      places = after_set (λ (car : ℕ) (list : List Row).
          persons_of list ≤ places_of plan car) register.rows row.car rows [] within
          (omega (arith, sum_by_push (λ (r : Row). r.party) (rows_of register row.car) row, place))
          belongs.places;
      lasts = belongs.lasts;
    }

pub BelongsTo-last : (plan : Plan) (register : RegisterState) (terminal : ℕ) (last : Last)
    → BelongsTo plan register → terminal < length register.lasts
    → IsPossibleLast plan terminal last.content
    → BelongsTo plan (with_record register (LastRecord terminal last))
BelongsTo-last plan register terminal last belongs within possible = record {
  rows = belongs.rows;
  places = belongs.places;
  lasts = lasts-kept (λ (k : ℕ) (l : Last).
      IsPossibleLast plan k l.content) register.lasts terminal last within possible belongs.lasts;
}

pub BelongsTo-stop : (plan : Plan) (register : RegisterState) (car : ℕ) (stop : CarStop)
    → BelongsTo plan register → car < length register.rows
    → BelongsTo plan (with_stop register car stop)
BelongsTo-stop plan register car stop belongs within =
    let rows : List Row = flat_map (row_after stop) (rows_of register car) in
    record {
      rows = after_set (λ (k : ℕ) (list : List Row).
          All (λ (r : Row). IsPossibleCall plan r.kiosk r.from r.to k) list) register.rows car rows
          [] within (All-row_after (λ (r : Row).
          IsPossibleCall plan r.kiosk r.from r.to car) (λ r b possible.
          possible) (rows_of register car) stop (belongs.rows car)) belongs.rows;
      places = after_set (λ (k : ℕ) (list : List Row).
          persons_of list ≤ places_of plan k) register.rows car rows [] within
          (omega (arith, row_after-persons (rows_of register car) stop, belongs.places car))
          belongs.places;
      lasts = belongs.lasts;
    }

-- one open call more
pub open_count-row : (register : RegisterState) (row : Row) → length register.rows ≡ MOST_CARS
    → row.car < MOST_CARS → open_count (with_record register (RowRecord row)) ≡ open_count register + 1
open_count-row register row long is_car =
    let rows : List Row = rows_of register row.car ++ row ∷ [] in
    more_at_one_car (λ car. length (rows_of register car)) (λ car.
    length (get_or (set register.rows row.car rows) car [])) row.car 1
    (λ k other. ap (λ (list : List Row).
    length list) (get_or-set_other register.rows row.car k rows [] other))
    is_car
    (ap (λ (list : List Row).
    length list) (get_or-set_same register.rows row.car rows [] (omega (arith, long))) ∙
    length-append (rows_of register row.car) (row ∷ []))

-- the calls that a stop ends are open no more
pub open_count-stop : (register : RegisterState) (car : ℕ) (stop : CarStop)
    → length register.rows ≡ MOST_CARS → car < MOST_CARS
    → open_count register ≡ open_count (with_stop register car stop) + ended_by stop register car
open_count-stop register car stop long is_car =
    let rows : List Row = flat_map (row_after stop) (rows_of register car) in
    more_at_one_car (λ k. length (get_or (set register.rows car rows) k [])) (λ k.
    length (rows_of register k)) car (ended_by stop register car)
    (λ k other. ap (λ (list : List Row).
    length list) (sym (get_or-set_other register.rows car k rows [] other)))
    is_car
    (omega (
      arith,
      ap (λ (list : List Row).
          length list) (get_or-set_same register.rows car rows [] (omega (arith, long))),
      row_after-fewer (rows_of register car) stop,
    ))

abbrev pub number_in : Option Last → ℕ
number_in o = option_map_or (λ (last : Last). last.number) o 0

-- a kiosk's next number is one call more
pub numbered_calls-kiosk : (register : RegisterState) (terminal : ℕ) (last : Last)
    → length register.lasts ≡ MOST_TERMINALS → FIRST_KIOSK ≤ terminal → terminal < MOST_TERMINALS
    → last.number ≡ last_number register terminal + 1
    → numbered_calls (with_record register (LastRecord terminal last)) ≡ numbered_calls register + 1
numbered_calls-kiosk register terminal last long above below next =
    more_at_one_kiosk (last_number register) (λ k.
    number_in (get_or (set register.lasts terminal (Some last)) k None)) terminal 1
    (λ k other. ap number_in (get_or-set_other register.lasts terminal k (Some last) None other))
    above below
    (ap number_in (get_or-set_same register.lasts terminal (Some last) None (omega (arith, long))) ∙
    next)

pub numbered_calls-car : (register : RegisterState) (terminal : ℕ) (last : Last) → terminal < MOST_CARS
    → numbered_calls (with_record register (LastRecord terminal last)) ≡ numbered_calls register
numbered_calls-car register terminal last below =
    same_sum_over_kiosks (last_number register) (λ k.
    number_in (get_or (set register.lasts terminal (Some last)) k None))
    (λ k above under. ap number_in
    (get_or-set_other register.lasts terminal k (Some last) None (omega arith)))

pub number_in-few : (o : Option Last) (terminal : ℕ)
    → ((last : Last) → o ≡ Some last → IsRecord (LastRecord terminal last)) → number_in o ≤ 16777215
number_in-few None terminal each = omega arith
number_in-few (Some last) terminal each = omega (arith, (each last refl).0.0.number_range)

-- no kiosk numbers more calls than its numbers reach
pub numbered_calls-few : (register : RegisterState) → IsWellFormed register
    → numbered_calls register ≤ MOST_DONE
numbered_calls-few register lawful =
    kiosks_below (last_number register) (λ k.
    number_in-few (last_of register k) k
    (λ (last : Last) (same : last_of register k ≡ Some last). lawful.lasts k last same))

-- the calls that a car may end can be counted
pub countable : (register : RegisterState) (car : ℕ) → IsWellFormed register → IsBalanced register
    → car < MOST_CARS → register.done + length (rows_of register car) ≤ MOST_DONE
countable register car lawful balanced is_car =
    omega (
      arith,
      balanced,
      numbered_calls-few register lawful,
      at_most_over_cars (λ k.
          length (rows_of register k)) car is_car,
    )

pub length-le-persons : (rows : List Row) → All (λ (row : Row). IsRecord (RowRecord row)) rows
    → length rows ≤ persons_of rows
length-le-persons [] all = omega arith
length-le-persons (row ∷ rows) all =
    let P : Row → Type 0 = λ (r : Row). IsRecord (RowRecord r) in
    let here : IsRecord (RowRecord row) = All-head P row rows all in
    rw (sum_by-cons (λ (r : Row). r.party) row rows)
    (omega (arith, here.0.1.party_range.0, length-le-persons rows (All-tail P row rows all)))

-- a car with a place for one more person has room for one more row
pub has_room : (plan : Plan) (register : RegisterState) (row : Row) → IsWellFormed register
    → IsRecord (RowRecord row) → HasPlace plan register row.car row.party
    → places_of plan row.car ≤ MOST_PLACES → length (rows_of register row.car) < MOST_ROWS
has_room plan register row lawful written place few =
    omega (
      arith,
      length-le-persons (rows_of register row.car)
          (lawful.rows row.car),
      written.0.1.party_range.0,
      place,
      few,
    )
