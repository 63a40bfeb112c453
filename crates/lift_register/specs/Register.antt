-- What a register holds, and what it holds after a list of entries.
use Rattle.std.specs.Prelude.{ℕ, ◌==◌, ◌+◌, Bool, false, List, [], ◌∷◌, ◌++◌, map, filter, count_by}
use Rattle.std.specs.Prelude.{sum_by, find, reverse, slice_index_or, Option, Some, None}
use Rattle.std.specs.Option.{option_map_or}
use Rattle.std.specs.List.{flat_map, range_with_len}
use Rattle.lift_base.specs.declared.limits.TheConstants.{FIRST_KIOSK, MOST_CARS, MOST_KIOSKS, MOST_TERMINALS}
use Rattle.lift_base.specs.History.{terminal_of}
use Rattle.lift_base.specs.declared.history.Content.TheVariants.{Letter, Stopped}
use Rattle.lift_base.specs.declared.history.Entry.{Entry}
use Rattle.lift_base.specs.declared.history.Entry.TheVariants.{Allot, Stop}
use Rattle.lift_base.specs.declared.history.Last.{Last}
use Rattle.lift_base.specs.declared.history.Row.{Row}
use Rattle.lift_register.specs.Status.{Status, status_of, row_with, is_done}

pub record RegisterState : Type 0 where
  pub rows : List (List Row)  -- for each car, its open calls in order of allotment
  pub lasts : List (Option Last)  -- for each terminal, its last accepted command
  pub done : ℕ  -- how many calls are done

-- the cars A to P, the terminals, and the kiosks among them
unfoldable pub cars : List ℕ
cars = range_with_len 0 MOST_CARS

unfoldable pub terminals : List ℕ
terminals = range_with_len 0 MOST_TERMINALS

unfoldable pub kiosk_terminals : List ℕ
kiosk_terminals = range_with_len FIRST_KIOSK MOST_KIOSKS

-- the open calls of a car, in order of allotment
abbrev pub rows_of : RegisterState → ℕ → List Row
rows_of register car = slice_index_or register.rows car []

-- the last accepted command of a terminal
abbrev pub last_of : RegisterState → ℕ → Option Last
last_of register terminal = slice_index_or register.lasts terminal None

-- the number of that command, 0 for none
abbrev pub last_number : RegisterState → ℕ → ℕ
last_number register terminal =
    option_map_or (λ (last : Last). last.number) (last_of register terminal) 0

-- a call, and the entries after its allotment
pub record Call : Type 0 where
  pub row : Row
  pub later : List Entry

abbrev pub status : Call → Status
status call = status_of call.row call.later

-- the call as it stands, none once it is done
abbrev pub open_part : Call → List Row
open_part call = row_with call.row (status call)

-- a call whose passengers wait
abbrev pub waiting_row : (kiosk number from to car party : ℕ) → Row
waiting_row kiosk number from to car party = record {
  kiosk = kiosk;
  number = number;
  from = from;
  to = to;
  car = car;
  party = party;
  aboard = false;
}

-- the calls that these entries allot
abbrev pub calls_in : List Entry → List Call
calls_in [] = []
calls_in (Allot kiosk number from to car party ∷ later) =
    record { row = waiting_row kiosk number from to car party; later = later } ∷ calls_in later
calls_in (Stop car number floor dir ∷ later) = calls_in later

-- the calls of these rows, which stand before all of the entries
abbrev pub calls_before : List Row → List Entry → List Call
calls_before rows entries = map (λ row. record { row = row; later = entries }) rows

abbrev pub is_of_car : ℕ → Call → Bool
is_of_car car call = call.row.car == car

-- the calls of a car, in order of allotment
abbrev pub calls_of : RegisterState → List Entry → ℕ → List Call
calls_of base entries car =
    calls_before (rows_of base car) entries ++ filter (is_of_car car) (calls_in entries)

-- the open calls of a car after these entries
abbrev pub rows_after : RegisterState → List Entry → ℕ → List Row
rows_after base entries car = flat_map open_part (calls_of base entries car)

-- what is kept of an entry as its terminal's last command
abbrev pub kept_of : Entry → Last
kept_of (Allot kiosk number from to car party) =
    record { number = number; content = Letter from to car party }
kept_of (Stop car number floor dir) = record { number = number; content = Stopped floor dir }

abbrev pub is_of_terminal : ℕ → Entry → Bool
is_of_terminal terminal entry = terminal_of entry == terminal

-- the newest entry of a terminal, or what was kept before
abbrev pub last_after : RegisterState → List Entry → ℕ → Option Last
last_after base entries terminal =
    option_map_or (λ entry. Some (kept_of entry))
    (find (is_of_terminal terminal) (reverse entries))
    (last_of base terminal)

-- how many of these calls are done
abbrev pub done_among : List Call → ℕ
done_among calls = count_by (λ call. is_done (status call)) calls

-- how many calls are done after these entries
abbrev pub done_after : RegisterState → List Entry → ℕ
done_after base entries = base.done + sum_by (λ car. done_among (calls_of base entries car)) cars

-- the register of a base and the entries after it
abbrev pub register_of : RegisterState → List Entry → RegisterState
register_of base entries = record {
  rows = map (rows_after base entries) cars;
  lasts = map (last_after base entries) terminals;
  done = done_after base entries;
}

-- no calls and no commands
abbrev pub empty : RegisterState
empty = record { rows = map (λ car. []) cars; lasts = map (λ terminal. None) terminals; done = 0 }
