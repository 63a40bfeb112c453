-- What became of a call, by the entries after its allotment.
use Rattle.std.specs.Prelude.{ℕ, ◌==◌, ◌&&◌, if◌then◌else◌, Bool, true, false, List, [], ◌∷◌}
use Rattle.std.specs.List.{list_any}
use Rattle.lift_base.specs.Travel.{same_dir}
use Rattle.lift_base.specs.History.{dir_of}
use Rattle.lift_base.specs.declared.history.Entry.{Entry}
use Rattle.lift_base.specs.declared.history.Entry.TheVariants.{Allot, Stop}
use Rattle.lift_base.specs.declared.history.Row.{Row}

-- a stop of this car at which passengers from one floor to another board: there, and in the
-- passengers' direction
abbrev pub is_boarding : (car from to : ℕ) → Entry → Bool
is_boarding car from to (Allot kiosk number f t c party) = false
is_boarding car from to (Stop c number floor dir) =
    c == car && floor == from && same_dir dir (dir_of from to)

-- a stop of this car at which passengers to this floor leave, whatever its direction
abbrev pub is_leaving : (car to : ℕ) → Entry → Bool
is_leaving car to (Allot kiosk number f t c party) = false
is_leaving car to (Stop c number floor dir) = c == car && floor == to

-- how far a call is
pub data Status : Type 0 where
  Waiting : Status
  Aboard : Status
  Done : Status

-- passengers are aboard until the first stop to leave at
abbrev pub status_aboard : (car to : ℕ) → List Entry → Status
status_aboard car to entries = if list_any (is_leaving car to) entries then Done else Aboard

-- passengers wait until the first stop to board at, and are aboard after it
abbrev pub status_waiting : (car from to : ℕ) → List Entry → Status
status_waiting car from to [] = Waiting
status_waiting car from to (entry ∷ later) =
    if is_boarding car from to entry then status_aboard car to later else status_waiting car from to
    later

-- what became of the call of a row by the entries after it
abbrev pub status_of : Row → List Entry → Status
status_of row entries =
    if row.aboard then status_aboard row.car row.to entries else status_waiting row.car row.from
    row.to entries

-- the call as a row with this status, none once it is done
abbrev pub row_with : Row → Status → List Row
row_with row Waiting = record row { aboard = false } ∷ []
row_with row Aboard = record row { aboard = true } ∷ []
row_with row Done = []

abbrev pub is_done : Status → Bool
is_done Waiting = false
is_done Aboard = false
is_done Done = true
