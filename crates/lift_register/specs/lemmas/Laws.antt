-- The laws of registers: what a fitting entry, and a list of them, keeps; what the empty register
-- is.
use Rattle.std.proofs.Common.{◌≡◌, ℕ, ◌<◌, ◌≤◌, ◌∷◌, [], ◌++◌, None, List, All, length, map, subst}
use Rattle.std.proofs.Common.{Option, sym, ◌∙◌, ap, arith, inl, inr}
use Rattle.std.proofs.lemmas.List.{get_or_past}
use Rattle.std.proofs.lemmas.List.Elements.{All-nil}
use Rattle.std.proofs.lemmas.Option.{none-some}
use Rattle.std.proofs.lemmas.Bool.{cases_lt}
use Rattle.lift_building.specs.Plan.{Plan, places_of}
use Rattle.lift_base.specs.declared.history.Record.TheVariants.{Entry as EntryRecord}
use Rattle.lift_base.specs.Records.{IsRecord, IsTyped}
use Rattle.lift_base.specs.declared.limits.TheConstants.{MOST_CARS, MOST_PLACES, MOST_ROWS, MOST_TERMINALS}
use Rattle.lift_base.specs.declared.travel.Stop.{Stop as CarStop}
use Rattle.lift_base.specs.declared.history.Entry.{Entry}
use Rattle.lift_base.specs.declared.history.Entry.TheVariants.{Allot, Stop}
use Rattle.lift_base.specs.declared.history.Record.TheVariants.{Row as RowRecord}
use Rattle.lift_base.specs.declared.history.Last.{Last}
use Rattle.lift_base.specs.declared.history.Row.{Row}
use Rattle.lift_register.specs.Register.{RegisterState, rows_of, last_of, last_number, register_of}
use Rattle.lift_register.specs.Register.{waiting_row, kept_of, cars, terminals, empty}
use Rattle.lift_register.specs.Fits.{IsPossibleCall, persons_of, Fits, FitFrom}
use Rattle.lift_register.specs.Balanced.{IsBalanced}
use Rattle.lift_register.specs.Base.{with_record}
use Rattle.lift_register.specs.Steps.{with_stop}
use Rattle.lift_register.specs.WellFormed.{IsWellFormed}
use Rattle.lift_register.specs.Belongs.{BelongsTo}
use Rattle.lift_register.specs.lemmas.HistoryLemmas.{register_of-append}
use Rattle.lift_register.specs.lemmas.Sums.{nothing_over_cars, nothing_over_kiosks, get_or-on_cars}
use Rattle.lift_register.specs.lemmas.Sums.{get_or-on_terminals, length-on_cars}
use Rattle.lift_register.specs.lemmas.Sums.{length-on_terminals}
use Rattle.lift_register.specs.lemmas.EntryLemmas.{register_of-allot, register_of-stop}
use Rattle.lift_register.specs.lemmas.KeptLemmas.{IsWellFormed-row, IsWellFormed-last}
use Rattle.lift_register.specs.lemmas.KeptLemmas.{IsWellFormed-stop, BelongsTo-row, BelongsTo-last}
use Rattle.lift_register.specs.lemmas.KeptLemmas.{BelongsTo-stop, open_count-row, open_count-stop}
use Rattle.lift_register.specs.lemmas.KeptLemmas.{numbered_calls-kiosk, numbered_calls-car}
use Rattle.lift_register.specs.lemmas.KeptLemmas.{countable, has_room, number_in}

-- what fits can be written
pub IsRecord-fitting : (plan : Plan) (register : RegisterState) (entry : Entry)
    → IsTyped (EntryRecord entry) → Fits plan register entry → IsRecord (EntryRecord entry)
IsRecord-fitting plan register (Allot kiosk number from to car party) typed fits = (
  typed,
  record {
    of_kiosk = fits.0.of_kiosk.0;
    numbered = omega (arith, fits.1);
    apart = fits.0.apart;
  },
)
IsRecord-fitting plan register (Stop car number floor dir) typed fits =
    (typed, omega (arith, fits.1))

-- a register after one fitting entry: well formed, balanced, and of the same building
pub IsWellFormed-entry : (plan : Plan) (register : RegisterState) (entry : Entry)
    → ((car : ℕ) → places_of plan car ≤ MOST_PLACES) → IsWellFormed register → IsBalanced register
    → IsTyped (EntryRecord entry) → Fits plan register entry
    → IsWellFormed (register_of register (entry ∷ []))
IsWellFormed-entry plan register (Allot kiosk number from to car party) few lawful balanced typed
    fits =
    let row : Row = waiting_row kiosk number from to car party in
    let last : Last = kept_of (Allot kiosk number from to car party) in
    let written : IsRecord (EntryRecord (Allot kiosk number from to car party)) =
    IsRecord-fitting plan register (Allot kiosk number from to car party) typed fits in
    let with_row : IsWellFormed (with_record register (RowRecord row)) =
    IsWellFormed-row register row lawful written
    (has_room plan register row lawful written fits.2 (few car)) in
    subst IsWellFormed (register_of-allot register kiosk number from to car party lawful.row_count
    lawful.last_count (omega (arith, typed.0.terminal_range))
    (omega (arith, typed.1.car_range)))
    (IsWellFormed-last (with_record register (RowRecord row)) kiosk last with_row written)
IsWellFormed-entry plan register (Stop car number floor dir) few lawful balanced typed fits =
    let stop : CarStop = record { floor = floor; dir = dir } in
    let last : Last = kept_of (Stop car number floor dir) in
    let is_car : car < MOST_CARS = omega (arith, typed.1) in
    subst IsWellFormed (register_of-stop register car number floor dir lawful.row_count
    lawful.last_count is_car lawful.own_cars)
    (IsWellFormed-last (with_stop register car stop) car last
    (IsWellFormed-stop register car stop lawful is_car
    (countable register car lawful balanced is_car))
    ((typed.0, typed.2), record { of_car = typed.1; numbered = omega (arith, fits.1) }))

pub IsBalanced-entry : (plan : Plan) (register : RegisterState) (entry : Entry)
    → IsWellFormed register → IsBalanced register → IsTyped (EntryRecord entry)
    → Fits plan register entry → IsBalanced (register_of register (entry ∷ []))
IsBalanced-entry plan register (Allot kiosk number from to car party) lawful balanced typed fits =
    let row : Row = waiting_row kiosk number from to car party in
    let last : Last = kept_of (Allot kiosk number from to car party) in
    let is_terminal : kiosk < MOST_TERMINALS = omega (arith, typed.0.terminal_range) in
    let is_car : car < MOST_CARS = omega (arith, typed.1.car_range) in
    subst IsBalanced (register_of-allot register kiosk number from to car party lawful.row_count
    lawful.last_count is_terminal is_car)
    (omega (
      arith,
      balanced,
      open_count-row register row lawful.row_count is_car,
      numbered_calls-kiosk register kiosk last lawful.last_count fits.0.of_kiosk.0 is_terminal
          fits.1,
    ))
IsBalanced-entry plan register (Stop car number floor dir) lawful balanced typed fits =
    let stop : CarStop = record { floor = floor; dir = dir } in
    let last : Last = kept_of (Stop car number floor dir) in
    let is_car : car < MOST_CARS = omega (arith, typed.1) in
    subst IsBalanced (register_of-stop register car number floor dir lawful.row_count
    lawful.last_count is_car lawful.own_cars)
    (omega (
      arith,
      balanced,
      open_count-stop register car stop lawful.row_count is_car,
      numbered_calls-car register car last is_car,
    ))

pub BelongsTo-entry : (plan : Plan) (register : RegisterState) (entry : Entry)
    → IsWellFormed register → BelongsTo plan register → IsTyped (EntryRecord entry)
    → Fits plan register entry → BelongsTo plan (register_of register (entry ∷ []))
BelongsTo-entry plan register (Allot kiosk number from to car party) lawful belongs typed fits =
    let row : Row = waiting_row kiosk number from to car party in
    let last : Last = kept_of (Allot kiosk number from to car party) in
    let is_terminal : kiosk < MOST_TERMINALS = omega (arith, typed.0.terminal_range) in
    let is_car : car < MOST_CARS = omega (arith, typed.1.car_range) in
    subst (BelongsTo plan) (register_of-allot register kiosk number from to car party
    lawful.row_count lawful.last_count is_terminal is_car)
    (BelongsTo-last plan (with_record register (RowRecord row)) kiosk last
    (BelongsTo-row plan register row belongs (omega (arith, lawful.row_count)) fits.0 fits.2)
    (omega (arith, lawful.last_count)) fits.0)
BelongsTo-entry plan register (Stop car number floor dir) lawful belongs typed fits =
    let stop : CarStop = record { floor = floor; dir = dir } in
    let last : Last = kept_of (Stop car number floor dir) in
    let is_car : car < MOST_CARS = omega (arith, typed.1) in
    subst (BelongsTo plan) (register_of-stop register car number floor dir lawful.row_count
    lawful.last_count is_car lawful.own_cars)
    (BelongsTo-last plan (with_stop register car stop) car last
    (BelongsTo-stop plan register car stop belongs (omega (arith, lawful.row_count)))
    (omega (arith, lawful.last_count)) fits.0)

-- two lists fit one after the other where the second fits the register after the first
pub FitFrom-append : (plan : Plan) (register : RegisterState) (first later : List Entry)
    → register_of register [] ≡ register → FitFrom plan register first
    → FitFrom plan (register_of register first) later → FitFrom plan register (first ++ later)
FitFrom-append plan register [] later same fit more =
    subst (λ (r : RegisterState). FitFrom plan r later) same more
FitFrom-append plan register (entry ∷ first) later same fit more = (
  fit.0,
  FitFrom-append plan (register_of register (entry ∷ [])) first later
      (register_of-append register (entry ∷ []) []) fit.1 (subst (λ (r : RegisterState).
      FitFrom plan r later) (sym (register_of-append register (entry ∷ []) first)) more),
)

pub FitFrom-parts : (plan : Plan) (register : RegisterState) (first later : List Entry)
    → register_of register [] ≡ register → FitFrom plan register (first ++ later)
    → FitFrom plan register first × FitFrom plan (register_of register first) later
FitFrom-parts plan register [] later same fit =
    (record {}, subst (λ (r : RegisterState). FitFrom plan r later) (sym same) fit)
FitFrom-parts plan register (entry ∷ first) later same fit =
    let rest = FitFrom-parts plan (register_of register (entry ∷ [])) first later
    (register_of-append register (entry ∷ []) []) fit.1 in (
      (fit.0, rest.0),
      subst (λ (r : RegisterState).
          FitFrom plan r later) (register_of-append register (entry ∷ []) first) rest.1,
    )

pub rows_of-empty : (car : ℕ) → rows_of empty car ≡ []
rows_of-empty car = elim (cases_lt car MOST_CARS) [
  | inl below ↦ get_or-on_cars (λ (k : ℕ). []) car [] below
  | inr past ↦ get_or_past (map (λ (k : ℕ). []) cars) car []
      (omega (arith, past, length-on_cars {X = List Row} (λ (k : ℕ). [])))
]

pub last_of-empty : (terminal : ℕ) → last_of empty terminal ≡ None
last_of-empty terminal = elim (cases_lt terminal MOST_TERMINALS) [
  | inl below ↦ get_or-on_terminals (λ (k : ℕ). None) terminal None below
  | inr past ↦ get_or_past (map (λ (k : ℕ). None) terminals) terminal None
      (omega (arith, past, length-on_terminals {X = Option Last} (λ (k : ℕ). None)))
]

pub IsWellFormed-empty : IsWellFormed empty
IsWellFormed-empty = record {
  row_count = length-on_cars {X = List Row} (λ (k : ℕ). []);
  last_count = length-on_terminals {X = Option Last} (λ (k : ℕ). None);
  own_cars = λ car. subst (λ (rows : List Row).
      All (λ (row : Row). row.car ≡ car) rows) (sym (rows_of-empty car))
      (All-nil (λ (row : Row). row.car ≡ car));
  few_rows = λ car. subst (λ (rows : List Row).
      length rows ≤ MOST_ROWS) (sym (rows_of-empty car)) (omega arith);
  rows = λ car. subst (λ (rows : List Row). All (λ (row : Row). IsRecord (RowRecord row)) rows)
      (sym (rows_of-empty car)) (All-nil (λ (row : Row). IsRecord (RowRecord row)));
  lasts = λ terminal last same. absurd (none-some last (sym (last_of-empty terminal) ∙ same));
  done = (omega arith, omega arith);
}

pub BelongsTo-empty : (plan : Plan) → BelongsTo plan empty
BelongsTo-empty plan = record {
  rows = λ car. subst (λ (rows : List Row).
      All (λ (row : Row). IsPossibleCall plan row.kiosk row.from row.to car) rows)
      (sym (rows_of-empty car))
      (All-nil (λ (row : Row). IsPossibleCall plan row.kiosk row.from row.to car));
  places = λ car. subst (λ (rows : List Row).
      persons_of rows ≤ places_of plan car) (sym (rows_of-empty car)) (omega arith);
  lasts = λ terminal last same. absurd (none-some last (sym (last_of-empty terminal) ∙ same));
}

pub IsBalanced-empty : IsBalanced empty
IsBalanced-empty =
    omega (
      arith,
      nothing_over_cars (λ car. length (rows_of empty car)) (λ car.
          ap (λ (rows : List Row). length rows) (rows_of-empty car)),
      nothing_over_kiosks (last_number empty) (λ k. ap number_in (last_of-empty k)),
    )

-- after one entry more, the register of a history is that of the history with it
pub history-step : (now base : RegisterState) (entries : List Entry) (entry : Entry)
    → now ≡ register_of base entries
    → register_of now (entry ∷ []) ≡ register_of base (entries ++ entry ∷ [])
history-step now base entries entry same = rw same (register_of-append base entries (entry ∷ []))
