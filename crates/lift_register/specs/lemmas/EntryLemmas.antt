-- What one entry does to the register.
use Rattle.std.proofs.Common.{◌≡◌, ◌≢◌, ℕ, suc, ◌+◌, ◌<◌, ◌≤◌, ◌==◌, ◌&&◌, ◌||◌, subst, true, false}
use Rattle.std.proofs.Common.{cond, if◌then◌else◌, Bool, Some, None, List, [], ◌∷◌, ◌++◌, All}
use Rattle.std.proofs.Common.{length, map, slice_set, refl, sym, ap, arith, length-append}
use Rattle.std.specs.List.{flat_map}
use Rattle.std.proofs.lemmas.List.{append-nil}
use Rattle.std.proofs.lemmas.Grind.{flat_map-append}
use Rattle.std.proofs.lemmas.List.Elements.{All-tail}
use Rattle.std.proofs.lemmas.Bool.{ne_eqb, eq-eqb}
use Rattle.lift_base.specs.Travel.{same_dir}
use Rattle.lift_base.specs.History.{terminal_of, dir_of, row_after}
use Rattle.lift_base.specs.declared.limits.TheConstants.{MOST_CARS, MOST_TERMINALS}
use Rattle.lift_base.specs.declared.travel.Dir.{Dir}
use Rattle.lift_base.specs.declared.travel.Stop.{Stop as CarStop}
use Rattle.lift_base.specs.declared.history.Entry.{Entry}
use Rattle.lift_base.specs.declared.history.Entry.TheVariants.{Allot, Stop}
use Rattle.lift_base.specs.declared.history.Record.TheVariants.{Row as RowRecord}
use Rattle.lift_base.specs.declared.history.Record.TheVariants.{Last as LastRecord}
use Rattle.lift_base.specs.declared.history.Row.{Row}
use Rattle.lift_register.specs.Status.{Status, Waiting, Aboard, Done, status_of, row_with, is_done}
use Rattle.lift_register.specs.Register.{Call, RegisterState, open_part, calls_before, calls_of}
use Rattle.lift_register.specs.Register.{rows_of, rows_after, done_among, last_of, last_after}
use Rattle.lift_register.specs.Register.{kept_of, register_of, waiting_row, terminals}
use Rattle.lift_register.specs.Base.{with_record}
use Rattle.lift_register.specs.Steps.{with_stop, ended_by}
use Rattle.lift_register.specs.WellFormed.{IsWellFormed}
use Rattle.lift_register.specs.lemmas.HistoryLemmas.{same_state, done_among-cons, done_among-append}
use Rattle.lift_register.specs.lemmas.Sums.{list_on_cars, list_on_terminals, set_on_cars}
use Rattle.lift_register.specs.lemmas.Sums.{set_on_terminals, only_at_one_car, nothing_over_cars}

-- a row is as it was where nothing happens to it
pub open_part-nothing : (row : Row) → row_with row (status_of row []) ≡ row ∷ []
open_part-nothing row =
    elim (row.aboard) as (λ b.
    row_with row (if b then Aboard else Waiting) ≡ record row { aboard = b }
    ∷ []) [ true ↦ refl | false ↦ refl ]

pub rows-nothing : (rows : List Row) → flat_map open_part (calls_before rows []) ≡ rows
rows-nothing [] = refl
rows-nothing (row ∷ rows) = rw (open_part-nothing row, rows-nothing rows) refl

pub open_part-allot : (row : Row) (kiosk number from to car party : ℕ)
    → row_with row (status_of row (Allot kiosk number from to car party ∷ [])) ≡ row ∷ []
open_part-allot row kiosk number from to car party =
    elim (row.aboard) as (λ b.
    row_with row (if b then Aboard else Waiting) ≡ record row { aboard = b }
    ∷ []) [ true ↦ refl | false ↦ refl ]

pub rows-allot : (rows : List Row) (kiosk number from to car party : ℕ)
    → flat_map open_part (calls_before rows (Allot kiosk number from to car party ∷ [])) ≡ rows
rows-allot [] kiosk number from to car party = refl
rows-allot (row ∷ rows) kiosk number from to car party =
    rw (
      open_part-allot row kiosk number from to car party,
      rows-allot rows kiosk number from to car
          party,
    ) refl

pub done-or-open_part : (row : Row) (s : Status)
    → cond (is_done s) 1 0 + length (row_with row s) ≡ 1
done-or-open_part row Waiting = refl
done-or-open_part row Aboard = refl
done-or-open_part row Done = refl

pub length-cons : (row : Row) (rows : List Row) → length (row ∷ rows) ≡ suc (length rows)
length-cons row rows = refl

-- of the calls of rows, those that are done and those that stay open are all
pub done_or_open : (rows : List Row) (entries : List Entry)
    → done_among (calls_before rows entries)
    + length (flat_map open_part (calls_before rows entries)) ≡ length rows
done_or_open [] entries = refl
done_or_open (row ∷ rows) entries =
    rw (
      done_among-cons (record { row = row; later = entries })
          (calls_before rows entries),
      length-append
          (open_part (record { row = row; later = entries }))
          (flat_map open_part (calls_before rows entries)),
    )
    (omega (
      arith,
      done-or-open_part row (status_of row entries),
      done_or_open rows entries,
      length-cons row rows,
    ))

pub waits-or-boards : (row : Row) (b : Bool)
    → row_with row (if b then Aboard else Waiting) ≡ record row { aboard = b } ∷ []
waits-or-boards row true = refl
waits-or-boards row false = refl

-- the row after a stop of its own car is what its status says after that one entry
pub open_part-stop : (row : Row) (number floor : ℕ) (dir : Dir)
    → row_with row (status_of row (Stop row.car number floor dir ∷ []))
    ≡ row_after (record { floor = floor; dir = dir }) row
open_part-stop row number floor dir =
    rw (eq-eqb row.car row.car refl)
    (elim (row.aboard) as (λ b.
    row_with row (if b then (if ((floor == row.to) || false) then Done else Aboard)
    else (if (floor == row.from && same_dir dir (dir_of row.from row.to)) then Aboard
    else Waiting)) ≡ (if b then (if floor == row.to then [] else record row { aboard = b }
    ∷ []) else record row { aboard = floor == row.from && same_dir dir (dir_of row.from row.to) }
    ∷ [])) [
      | true ↦ elim (floor == row.to) as (λ b. row_with row (if (b || false) then Done else Aboard)
          ≡ (if b then [] else record row { aboard = true } ∷ [])) [ true ↦ refl | false ↦ refl ]
      | false ↦ waits-or-boards row (floor == row.from && same_dir dir (dir_of row.from row.to))
    ])

-- a stop changes the rows of its car alone
pub rows-stop : (rows : List Row) (car number floor : ℕ) (dir : Dir)
    → All (λ (row : Row). row.car ≡ car) rows
    → flat_map open_part (calls_before rows (Stop car number floor dir ∷ []))
    ≡ flat_map (row_after (record { floor = floor; dir = dir })) rows
rows-stop [] car number floor dir own = refl
rows-stop (row ∷ rows) car number floor dir own =
    let here : row.car ≡ car = own 0 row (omega arith) in
    let this : row_with row (status_of row (Stop car number floor dir ∷ []))
    ≡ row_after (record { floor = floor; dir = dir }) row =
    subst (λ (c : ℕ). row_with row (status_of row (Stop c number floor dir ∷ []))
    ≡ row_after (record { floor = floor; dir = dir }) row) here
    (open_part-stop row number floor dir) in
    rw (this, rows-stop rows car number floor dir (All-tail (λ row. row.car ≡ car) row rows own))
    refl

-- of another car: nothing happens to a row
pub status-other : (row : Row) (car number floor : ℕ) (dir : Dir) → row.car ≢ car
    → row_with row (status_of row (Stop car number floor dir ∷ [])) ≡ row ∷ []
status-other row car number floor dir other =
    rw (ne_eqb car row.car (λ same. other (sym same)))
    (elim (row.aboard) as (λ b.
    row_with row (if b then Aboard else Waiting) ≡ record row { aboard = b }
    ∷ []) [ true ↦ refl | false ↦ refl ])

pub rows-other_stop : (rows : List Row) (own car number floor : ℕ) (dir : Dir) → own ≢ car
    → All (λ (row : Row). row.car ≡ own) rows
    → flat_map open_part (calls_before rows (Stop car number floor dir ∷ [])) ≡ rows
rows-other_stop [] own car number floor dir other all = refl
rows-other_stop (row ∷ rows) own car number floor dir other all =
    let here : row.car ≡ own = all 0 row (omega arith) in
    rw (
      status-other row car number floor dir (rw here other),
      rows-other_stop rows own car number
          floor dir other (All-tail (λ row. row.car ≡ own) row rows all),
    ) refl

-- the rows of a car after one stop of it
pub rows_after-stop : (register : RegisterState) (car number floor : ℕ) (dir : Dir)
    → All (λ (row : Row). row.car ≡ car) (rows_of register car)
    → rows_after register (Stop car number floor dir ∷ []) car
    ≡ flat_map (row_after (record { floor = floor; dir = dir })) (rows_of register car)
rows_after-stop register car number floor dir own =
    rw (append-nil (calls_before (rows_of register car) (Stop car number floor dir ∷ [])))
    (rows-stop (rows_of register car) car number floor dir own)

-- those of another car stay
pub rows_after-other_stop : (register : RegisterState) (own car number floor : ℕ) (dir : Dir)
    → own ≢ car → All (λ (row : Row). row.car ≡ own) (rows_of register own)
    → rows_after register (Stop car number floor dir ∷ []) own ≡ rows_of register own
rows_after-other_stop register own car number floor dir other all =
    rw (append-nil (calls_before (rows_of register own) (Stop car number floor dir ∷ [])))
    (rows-other_stop (rows_of register own) own car number floor dir other all)

-- the rows of a car after a call was allotted to it
pub rows_after-allot : (register : RegisterState) (kiosk number from to car party : ℕ)
    → rows_after register (Allot kiosk number from to car party ∷ []) car
    ≡ rows_of register car ++ waiting_row kiosk number from to car party ∷ []
rows_after-allot register kiosk number from to car party =
    rw (
      eq-eqb car car refl,
      flat_map-append open_part
          (calls_before (rows_of register car) (Allot kiosk number from to car party ∷ []))
          (record { row = waiting_row kiosk number from to car party; later = [] } ∷ []),
      rows-allot
          (rows_of register car) kiosk number from to car party,
    ) refl

pub rows_after-other_allot : (register : RegisterState) (own kiosk number from to car party : ℕ)
    → own ≢ car → rows_after register (Allot kiosk number from to car party ∷ []) own
    ≡ rows_of register own
rows_after-other_allot register own kiosk number from to car party other =
    rw (
      ne_eqb car own (λ same.
          other (sym same)),
      append-nil
          (calls_before (rows_of register own) (Allot kiosk number from to car party ∷ [])),
    )
    (rows-allot (rows_of register own) kiosk number from to car party)

-- the last commands after one entry
pub last_after-own : (register : RegisterState) (entry : Entry)
    → last_after register (entry ∷ []) (terminal_of entry) ≡ Some (kept_of entry)
last_after-own register entry = rw (eq-eqb (terminal_of entry) (terminal_of entry) refl) refl

pub last_after-other : (register : RegisterState) (entry : Entry) (terminal : ℕ)
    → terminal ≢ terminal_of entry
    → last_after register (entry ∷ []) terminal ≡ last_of register terminal
last_after-other register entry terminal other =
    rw (ne_eqb (terminal_of entry) terminal (λ same. other (sym same))) refl

pub lasts-one : (register : RegisterState) (entry : Entry) → length register.lasts ≡ MOST_TERMINALS
    → terminal_of entry < MOST_TERMINALS
    → slice_set register.lasts (terminal_of entry) (Some (kept_of entry))
    ≡ map (last_after register (entry ∷ [])) terminals
lasts-one register entry long below =
    rw (sym (last_after-own register entry))
    (set_on_terminals (last_after register (entry ∷ [])) register.lasts
    (terminal_of entry) None long below (λ k within other.
    last_after-other register entry k other))

-- an allotment ends no call
pub done-allot : (register : RegisterState) (own kiosk number from to car party : ℕ)
    → done_among (calls_of register (Allot kiosk number from to car party ∷ []) own) ≡ 0
done-allot register own kiosk number from to car party =
    let entries : List Entry = Allot kiosk number from to car party ∷ [] in
    let call : Call = record { row = waiting_row kiosk number from to car party; later = [] } in
    let new : done_among (cond (car == own) (call ∷ []) []) ≡ 0 =
    elim (car == own) as (λ b.
    done_among (cond b (call ∷ []) []) ≡ 0) [ true ↦ refl | false ↦ refl ] in
    rw (
      done_among-append (calls_before (rows_of register own) entries)
          (cond (car == own) (call ∷ []) []),
      new,
    )
    (omega (
      arith,
      done_or_open (rows_of register own) entries,
      ap length
          (rows-allot (rows_of register own) kiosk number from to car party),
    ))

-- a stop ends the calls that leave the rows of its car, and no others
pub done-stop : (register : RegisterState) (car number floor ended : ℕ) (dir : Dir)
    → All (λ (row : Row). row.car ≡ car) (rows_of register car)
    → ended + length (flat_map (row_after (record { floor = floor; dir = dir }))
    (rows_of register car)) ≡ length (rows_of register car)
    → done_among (calls_of register (Stop car number floor dir ∷ []) car) ≡ ended
done-stop register car number floor ended dir own count =
    rw (append-nil (calls_before (rows_of register car) (Stop car number floor dir ∷ [])))
    (omega (
      arith,
      count,
      done_or_open (rows_of register car) (Stop car number floor dir
          ∷ []),
      ap length (rows-stop (rows_of register car) car number floor dir own),
    ))

pub done-other_stop : (register : RegisterState) (own car number floor : ℕ) (dir : Dir) → own ≢ car
    → All (λ (row : Row). row.car ≡ own) (rows_of register own)
    → done_among (calls_of register (Stop car number floor dir ∷ []) own) ≡ 0
done-other_stop register own car number floor dir other all =
    rw (append-nil (calls_before (rows_of register own) (Stop car number floor dir ∷ [])))
    (omega (
      arith,
      done_or_open (rows_of register own) (Stop car number floor dir ∷ []),
      ap length
          (rows-other_stop (rows_of register own) own car number floor dir other all),
    ))

pub row_after-fewer : (rows : List Row) (stop : CarStop)
    → length (flat_map (row_after stop) rows) ≤ length rows
row_after-fewer [] stop = omega arith
row_after-fewer (row ∷ rows) stop =
    let one : length (row_after stop row) ≤ 1 =
    elim (row.aboard) as (λ b.
    length (if b then (if stop.floor == row.to then [] else row
    ∷ []) else record row {
      aboard =
          stop.floor == row.from && same_dir stop.dir (dir_of row.from row.to);
    } ∷ []) ≤ 1) [
      | true ↦ elim (stop.floor == row.to) as (λ b.
          length (if b then [] else row ∷ []) ≤ 1) [ true ↦ omega arith | false ↦ omega arith ]
      | false ↦ omega arith
    ] in
    rw (length-append (row_after stop row) (flat_map (row_after stop) rows))
    (omega (arith, one, row_after-fewer rows stop, length-cons row rows))

-- the register after an allotment: one row more, and the kiosk's last command
pub register_of-allot : (register : RegisterState) (kiosk number from to car party : ℕ)
    → length register.rows ≡ MOST_CARS → length register.lasts ≡ MOST_TERMINALS → kiosk < MOST_TERMINALS → car < MOST_CARS →
    with_record (with_record register (RowRecord (waiting_row kiosk number from to car party)))
    (LastRecord kiosk (kept_of (Allot kiosk number from to car party)))
    ≡ register_of register (Allot kiosk number from to car party ∷ [])
register_of-allot register kiosk number from to car party long_rows long_lasts is_terminal is_car =
    let entry : Entry = Allot kiosk number from to car party in
    same_state _ _ _ _ _ _
    (rw (sym (rows_after-allot register kiosk number from to car party))
    (set_on_cars (rows_after register (entry ∷ [])) register.rows car [] long_rows is_car
    (λ k within other. rows_after-other_allot register k kiosk number from to car party other)))
    (lasts-one register entry long_lasts is_terminal)
    (omega (
      arith,
      nothing_over_cars (λ k. done_among (calls_of register (entry ∷ []) k)) (λ k.
          done-allot register k kiosk number from to car party),
    ))

-- the register after a stop: the rows of its car, and the car's last command
pub register_of-stop : (register : RegisterState) (car number floor : ℕ) (dir : Dir)
    → length register.rows ≡ MOST_CARS → length register.lasts ≡ MOST_TERMINALS → car < MOST_CARS
    → ((k : ℕ) → All (λ (row : Row). row.car ≡ k) (rows_of register k)) →
    with_record (with_stop register car (record { floor = floor; dir = dir }))
    (LastRecord car (kept_of (Stop car number floor dir)))
    ≡ register_of register (Stop car number floor dir ∷ [])
register_of-stop register car number floor dir long_rows long_lasts is_car own =
    let entry : Entry = Stop car number floor dir in
    let stop : CarStop = record { floor = floor; dir = dir } in
    let at_car : done_among (calls_of register (entry ∷ []) car) ≡ ended_by stop register car =
    done-stop register car number floor (ended_by stop register car) dir (own car)
    (omega (arith, row_after-fewer (rows_of register car) stop)) in
    same_state _ _ _ _ _ _
    (rw (sym (rows_after-stop register car number floor dir (own car)))
    (set_on_cars (rows_after register (entry ∷ [])) register.rows car [] long_rows is_car
    (λ k within other. rows_after-other_stop register k car number floor dir other (own k))))
    (lasts-one register entry long_lasts (omega arith))
    (omega (
      arith,
      at_car,
      only_at_one_car (λ k. done_among (calls_of register (entry ∷ []) k)) car
          (λ k other. done-other_stop register k car number floor dir other (own k)) is_car,
    ))

pub rows_after-nothing : (register : RegisterState) (car : ℕ)
    → rows_after register [] car ≡ rows_of register car
rows_after-nothing register car =
    rw (append-nil (calls_before (rows_of register car) [])) (rows-nothing (rows_of register car))

pub done-nothing : (register : RegisterState) (car : ℕ) → done_among (calls_of register [] car) ≡ 0
done-nothing register car =
    rw (append-nil (calls_before (rows_of register car) []))
    (omega (
      arith,
      done_or_open (rows_of register car) [],
      ap length
          (rows-nothing (rows_of register car)),
    ))

-- the register after no entry
pub register_of-nothing : (register : RegisterState) → IsWellFormed register
    → register_of register [] ≡ register
register_of-nothing register lawful =
    same_state _ _ _ _ _ _
    (sym (list_on_cars (rows_after register []) register.rows [] lawful.row_count (λ k below.
    sym (rows_after-nothing register k))))
    (sym (list_on_terminals (last_after register []) register.lasts None lawful.last_count
    (λ k below. refl)))
    (omega (
      arith,
      nothing_over_cars (λ k. done_among (calls_of register [] k)) (λ k.
          done-nothing register k),
    ))
