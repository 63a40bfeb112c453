-- What entries do to the register one after another.
use Rattle.std.proofs.Common.{◌≡◌, ℕ, ◌+◌, ◌<◌, true, false, cond, zero, suc, Option, Some, None}
use Rattle.std.proofs.Common.{reverse, find, sum_by, List, [], ◌∷◌, ◌++◌, map, filter, refl, sym}
use Rattle.std.proofs.Common.{ap, arith, if◌then◌else◌, append_assoc, ◌||◌}
use Rattle.std.specs.List.{list_any, flat_map, range_with_len}
use Rattle.std.specs.Option.{option_map_or, option_or}
use Rattle.std.proofs.lemmas.List.FromFn.{get_or-map-range_with_len}
use Rattle.std.proofs.lemmas.List.Folds.{find-append}
use Rattle.std.proofs.lemmas.List.{reverse-append}
use Rattle.std.proofs.lemmas.Grind.{flat_map-append}
use Rattle.std.proofs.lemmas.List.{map-append}
use Rattle.std.proofs.lemmas.List.Elements.{filter-append}
use Rattle.std.proofs.lemmas.List.Sums.{sum_by-append, sum_by-cons}
use Rattle.lift_base.specs.declared.limits.TheConstants.{MOST_CARS, MOST_TERMINALS}
use Rattle.lift_base.specs.declared.history.Entry.{Entry}
use Rattle.lift_base.specs.declared.history.Entry.TheVariants.{Allot, Stop}
use Rattle.lift_base.specs.declared.history.Last.{Last}
use Rattle.lift_base.specs.declared.history.Row.{Row}
use Rattle.lift_register.specs.Status.{Status, Waiting, Aboard, Done, is_boarding, is_leaving}
use Rattle.lift_register.specs.Status.{status_aboard, status_waiting, status_of, row_with, is_done}
use Rattle.lift_register.specs.Register.{Call, RegisterState, status, open_part, calls_in}
use Rattle.lift_register.specs.Register.{calls_before, calls_of, is_of_car, rows_of, rows_after}
use Rattle.lift_register.specs.Register.{done_among, last_of, last_after, is_of_terminal, kept_of}
use Rattle.lift_register.specs.Register.{register_of, done_after, waiting_row, cars, terminals}

-- the status after more entries, from the one before
abbrev pub status_then : Row → Status → List Entry → Status
status_then row Waiting later = status_waiting row.car row.from row.to later
status_then row Aboard later = status_aboard row.car row.to later
status_then row Done later = Done

pub status_aboard-append : (row : Row) (first later : List Entry)
    → status_aboard row.car row.to (first ++ later)
    ≡ status_then row (status_aboard row.car row.to first) later
status_aboard-append row [] later = refl
status_aboard-append row (entry ∷ first) later =
    elim (is_leaving row.car row.to entry) as (λ b.
    (if (b || list_any (is_leaving row.car row.to) (first ++ later)) then Done else Aboard)
    ≡ status_then row (if (b || list_any (is_leaving row.car row.to) first) then Done
    else Aboard) later) [
      | true ↦ refl
      | false ↦ status_aboard-append row first later
    ]

pub status_waiting-append : (row : Row) (first later : List Entry)
    → status_waiting row.car row.from row.to (first ++ later)
    ≡ status_then row (status_waiting row.car row.from row.to first) later
status_waiting-append row [] later = refl
status_waiting-append row (entry ∷ first) later =
    elim (is_boarding row.car row.from row.to entry) as (λ b.
    (if b then status_aboard row.car row.to
    (first ++ later) else status_waiting row.car row.from row.to (first ++ later))
    ≡ status_then row (if b then status_aboard row.car row.to first else status_waiting row.car
    row.from row.to first) later) [
      | true ↦ status_aboard-append row first later
      | false ↦ status_waiting-append row first later
    ]

pub status_of-append : (row : Row) (first later : List Entry)
    → status_of row (first ++ later) ≡ status_then row (status_of row first) later
status_of-append row first later =
    elim (row.aboard) as (λ b.
    (if b then status_aboard row.car row.to
    (first ++ later) else status_waiting row.car row.from row.to (first ++ later))
    ≡ status_then row (if b then status_aboard row.car row.to first else status_waiting row.car
    row.from row.to first) later) [
      | true ↦ status_aboard-append row first later
      | false ↦ status_waiting-append row first later
    ]

-- a call's row after more entries is that of the row as it stood before them
pub row_with-then : (row : Row) (s : Status) (later : List Entry)
    → row_with row (status_then row s later)
    ≡ flat_map open_part (calls_before (row_with row s) later)
row_with-then row Waiting later =
    elim (status_waiting row.car row.from row.to later) as (λ v.
    row_with row v ≡ row_with (record row { aboard = false }) v
    ++ []) [ Waiting ↦ refl | Aboard ↦ refl | Done ↦ refl ]
row_with-then row Aboard later =
    elim (status_aboard row.car row.to later) as (λ v.
    row_with row v ≡ row_with (record row { aboard = true }) v
    ++ []) [ Waiting ↦ refl | Aboard ↦ refl | Done ↦ refl ]
row_with-then row Done later = refl

-- a call is done by the later entries where its row before them is
pub done-then : (row : Row) (s : Status) (later : List Entry)
    → cond (is_done (status_then row s later)) 1 0
    ≡ cond (is_done s) 1 0 + done_among (calls_before (row_with row s) later)
done-then row Waiting later = omega arith
done-then row Aboard later = omega arith
done-then row Done later = refl

-- the call with more entries after it
abbrev pub call_then : List Entry → Call → Call
call_then more call = record { row = call.row; later = call.later ++ more }

pub calls_in-append : (first later : List Entry)
    → calls_in (first ++ later) ≡ map (call_then later) (calls_in first) ++ calls_in later
calls_in-append [] later = refl
calls_in-append (Allot kiosk number from to car party ∷ first) later = ap (λ calls. record {
  row = waiting_row kiosk number from to car party;
  later = first ++ later;
} ∷ calls) (calls_in-append first later)
calls_in-append (Stop car number floor dir ∷ first) later = calls_in-append first later

pub calls_before-append : (rows : List Row) (first later : List Entry)
    → calls_before rows (first ++ later) ≡ map (call_then later) (calls_before rows first)
calls_before-append [] first later = refl
calls_before-append (row ∷ rows) first later =
    ap (λ calls. record { row = row; later = first ++ later } ∷ calls)
    (calls_before-append rows first later)

pub filter_calls_then : (car : ℕ) (more : List Entry) (calls : List Call)
    → filter (is_of_car car) (map (call_then more) calls)
    ≡ map (call_then more) (filter (is_of_car car) calls)
filter_calls_then car more [] = refl
filter_calls_then car more (call ∷ calls) =
    elim (is_of_car car call) as (λ b.
    cond b (call_then more call ∷ filter (is_of_car car) (map (call_then more) calls))
    (filter (is_of_car car) (map (call_then more) calls))
    ≡ map (call_then more) (cond b (call ∷ filter (is_of_car car) calls)
    (filter (is_of_car car) calls))) [
      | true ↦ ap (λ rest. call_then more call ∷ rest) (filter_calls_then car more calls)
      | false ↦ filter_calls_then car more calls
    ]

-- the calls of a car after both lists: those after the first, with more after them, and those of
-- the second
pub calls_of-append : (base : RegisterState) (first later : List Entry) (car : ℕ)
    → calls_of base (first ++ later) car ≡ map (call_then later) (calls_of base first car)
    ++ filter (is_of_car car) (calls_in later)
calls_of-append base first later car =
    rw (
      calls_before-append (rows_of base car) first later,
      calls_in-append first later,
      filter-append (is_of_car car) (map (call_then later) (calls_in first))
          (calls_in later),
      filter_calls_then car later (calls_in first),
      map-append (call_then later)
          (calls_before (rows_of base car) first) (filter (is_of_car car) (calls_in first)),
    )
    (sym (append_assoc (map (call_then later) (calls_before (rows_of base car) first))
    (map (call_then later) (filter (is_of_car car) (calls_in first)))
    (filter (is_of_car car) (calls_in later))))

pub open_part-then : (call : Call) (more : List Entry)
    → open_part (call_then more call) ≡ flat_map open_part (calls_before (open_part call) more)
open_part-then call more =
    rw (status_of-append call.row call.later more) (row_with-then call.row (status call) more)

pub done_of-then : (call : Call) (more : List Entry)
    → cond (is_done (status (call_then more call))) 1 0
    ≡ cond (is_done (status call)) 1 0 + done_among (calls_before (open_part call) more)
done_of-then call more =
    rw (status_of-append call.row call.later more) (done-then call.row (status call) more)

pub calls_before-rows-append : (rows others : List Row) (more : List Entry)
    → calls_before (rows ++ others) more ≡ calls_before rows more ++ calls_before others more
calls_before-rows-append rows others more =
    map-append (λ row. record { row = row; later = more }) rows others

pub open_parts-then : (calls : List Call) (more : List Entry)
    → flat_map open_part (map (call_then more) calls)
    ≡ flat_map open_part (calls_before (flat_map open_part calls) more)
open_parts-then [] more = refl
open_parts-then (call ∷ calls) more =
    rw (
      open_part-then call more,
      open_parts-then calls more,
      calls_before-rows-append
          (open_part call) (flat_map open_part calls) more,
      flat_map-append open_part
          (calls_before (open_part call) more) (calls_before (flat_map open_part calls) more),
    ) refl

pub done_among-append : (calls others : List Call)
    → done_among (calls ++ others) ≡ done_among calls + done_among others
done_among-append calls others =
    sum_by-append (λ call. cond (is_done (status call)) 1 0) calls others

pub done_among-cons : (call : Call) (calls : List Call)
    → done_among (call ∷ calls) ≡ cond (is_done (status call)) 1 0 + done_among calls
done_among-cons call calls = sum_by-cons (λ call. cond (is_done (status call)) 1 0) call calls

pub done_among-then : (calls : List Call) (more : List Entry)
    → done_among (map (call_then more) calls)
    ≡ done_among calls + done_among (calls_before (flat_map open_part calls) more)
done_among-then [] more = refl
done_among-then (call ∷ calls) more =
    rw (
      calls_before-rows-append (open_part call) (flat_map open_part calls) more,
      done_among-append
          (calls_before (open_part call) more)
          (calls_before (flat_map open_part calls) more),
      done_among-cons (call_then more call)
          (map (call_then more) calls),
      done_among-cons call calls,
    )
    (omega (arith, done_of-then call more, done_among-then calls more))

-- the open calls of a car after both lists are those after the second, from the rows after the
-- first
pub rows-then : (base next : RegisterState) (first later : List Entry) (car : ℕ)
    → rows_of next car ≡ rows_after base first car
    → rows_after base (first ++ later) car ≡ rows_after next later car
rows-then base next first later car same =
    rw (
      calls_of-append base first later car,
      same,
      flat_map-append open_part
          (map (call_then later) (calls_of base first car))
          (filter (is_of_car car) (calls_in later)),
      open_parts-then (calls_of base first car) later,
    )
    (sym (flat_map-append open_part (calls_before (rows_after base first car) later)
    (filter (is_of_car car) (calls_in later))))

pub done_among-both : (base next : RegisterState) (first later : List Entry) (car : ℕ)
    → rows_of next car ≡ rows_after base first car
    → done_among (calls_of base (first ++ later) car)
    ≡ done_among (calls_of base first car) + done_among (calls_of next later car)
done_among-both base next first later car same =
    rw (
      calls_of-append base first later car,
      same,
      done_among-append
          (map (call_then later) (calls_of base first car))
          (filter (is_of_car car) (calls_in later)),
      done_among-then (calls_of base first car) later,
    )
    (omega (
      arith,
      done_among-append (calls_before (rows_after base first car) later)
          (filter (is_of_car car) (calls_in later)),
    ))

-- maps and sums over cars, terminals and kiosks, by the numbers
pub same_on_range : {X : Type 0} (f g : ℕ → X) (a n : ℕ) → ((k : ℕ) → k < a + n → f k ≡ g k)
    → map f (range_with_len a n) ≡ map g (range_with_len a n)
same_on_range f g a zero same = refl
same_on_range f g a (suc n) same =
    rw (same a (omega arith), same_on_range f g (a + 1) n (λ k below. same k (omega arith))) refl

pub same_sum_on_range : (f g h : ℕ → ℕ) (a n : ℕ) → ((k : ℕ) → k < a + n → f k ≡ g k + h k)
    → sum_by f (range_with_len a n) ≡ sum_by g (range_with_len a n) + sum_by h (range_with_len a n)
same_sum_on_range f g h a zero same = refl
same_sum_on_range f g h a (suc n) same =
    rw (
      sum_by-cons f a (range_with_len (a + 1) n),
      sum_by-cons g a
          (range_with_len (a + 1) n),
      sum_by-cons h a (range_with_len (a + 1) n),
    )
    (omega (
      arith,
      same a (omega arith),
      same_sum_on_range f g h (a + 1) n (λ k below.
          same k (omega arith)),
    ))

pub same_on_cars : {X : Type 0} (f g : ℕ → X) → ((k : ℕ) → k < MOST_CARS → f k ≡ g k)
    → map f cars ≡ map g cars
unfolding cars
same_on_cars f g same = same_on_range f g 0 MOST_CARS same

pub same_on_terminals : {X : Type 0} (f g : ℕ → X) → ((k : ℕ) → k < MOST_TERMINALS → f k ≡ g k)
    → map f terminals ≡ map g terminals
unfolding terminals
same_on_terminals f g same = same_on_range f g 0 MOST_TERMINALS same

pub same_sum_on_cars : (f g h : ℕ → ℕ) → ((k : ℕ) → k < MOST_CARS → f k ≡ g k + h k)
    → sum_by f cars ≡ sum_by g cars + sum_by h cars
unfolding cars
same_sum_on_cars f g h same = same_sum_on_range f g h 0 MOST_CARS same

pub rows_of-register_of : (base : RegisterState) (entries : List Entry) (car : ℕ) → car < MOST_CARS
    → rows_of (register_of base entries) car ≡ rows_after base entries car
unfolding cars
rows_of-register_of base entries car below =
    get_or-map-range_with_len (rows_after base entries) 0 MOST_CARS car car [] below (omega arith)

pub last_of-register_of : (base : RegisterState) (entries : List Entry) (terminal : ℕ)
    → terminal < MOST_TERMINALS → last_of (register_of base entries) terminal ≡ last_after base entries terminal
unfolding terminals
last_of-register_of base entries terminal below =
    get_or-map-range_with_len (last_after base entries) 0 MOST_TERMINALS terminal terminal None below
    (omega arith)

-- the newest entry of both lists is that of the later one, if it has one
pub last-then : (base next : RegisterState) (first later : List Entry) (terminal : ℕ)
    → last_of next terminal ≡ last_after base first terminal
    → last_after base (first ++ later) terminal ≡ last_after next later terminal
last-then base next first later terminal same =
    rw (
      reverse-append first later,
      find-append (is_of_terminal terminal) (reverse later)
          (reverse first),
      same,
    )
    (elim (find (is_of_terminal terminal) (reverse later)) as (λ found.
    option_map_or (λ entry. Some (kept_of entry))
    (option_or found (find (is_of_terminal terminal) (reverse first))) (last_of base terminal)
    ≡ option_map_or (λ entry. Some (kept_of entry)) found (last_after base first terminal)) [
      | Some entry ↦ refl
      | None ↦ refl
    ])

abbrev pub state_of : List (List Row) → List (Option Last) → ℕ → RegisterState
state_of rows lasts done = record { rows = rows; lasts = lasts; done = done }

pub same_state : (rows others : List (List Row)) (lasts kept : List (Option Last)) (done count : ℕ)
    → rows ≡ others → lasts ≡ kept → done ≡ count
    → state_of rows lasts done ≡ state_of others kept count
same_state rows others lasts kept done count same_rows same_lasts same_done = cc

pub done-then_all : (base : RegisterState) (first later : List Entry)
    → done_after (register_of base first) later ≡ done_after base (first ++ later)
done-then_all base first later =
    let next : RegisterState = register_of base first in
    omega (
      arith,
      same_sum_on_cars (λ car. done_among (calls_of base (first ++ later) car)) (λ car.
          done_among (calls_of base first car)) (λ car.
          done_among (calls_of next later car)) (λ car below.
          done_among-both base next first later car (rows_of-register_of base first car below)),
    )

-- The register of a base and two lists of entries is that of the register after the first, and the
-- second.
pub register_of-append : (base : RegisterState) (first later : List Entry)
    → register_of (register_of base first) later ≡ register_of base (first ++ later)
register_of-append base first later =
    let next : RegisterState = register_of base first in
    same_state _ _ _ _ _ _
    (same_on_cars (rows_after next later) (rows_after base (first ++ later)) (λ car below.
    sym (rows-then base next first later car (rows_of-register_of base first car below))))
    (same_on_terminals (last_after next later) (last_after base (first ++ later)) (λ terminal below.
    sym (last-then base next first later terminal
    (last_of-register_of base first terminal below))))
    (done-then_all base first later)
