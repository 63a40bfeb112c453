-- How the stops of a car, one after another, make a call's row what its status says.
use Rattle.std.specs.Prelude.{◌≡◌, ◌==◌, if◌then◌else◌, List, [], ◌∷◌}
use Rattle.std.specs.List.{flat_map}
use Rattle.lift_base.specs.History.{row_after}
use Rattle.lift_base.specs.declared.history.Entry.{Entry}
use Rattle.lift_base.specs.declared.history.Entry.TheVariants.{Allot, Stop}
use Rattle.lift_base.specs.declared.history.Row.{Row}
use Rattle.lift_register.specs.Status.{status_of, row_with}

-- an open call after an entry: a stop of its own car serves it, and no other entry changes it
abbrev pub row_left_by : Entry → Row → List Row
row_left_by (Allot kiosk number from to car party) row = row ∷ []
row_left_by (Stop car number floor dir) row =
    if row.car == car then row_after (record { floor = floor; dir = dir }) row else row ∷ []

-- open calls after entries, one after another
abbrev pub rows_left_by : List Entry → List Row → List Row
rows_left_by [] rows = rows
rows_left_by (entry ∷ later) rows = rows_left_by later (flat_map (row_left_by entry) rows)

-- After any entries an open call is what its status says.
abbrev pub RowsFollow : Type 0
RowsFollow = (row : Row) (entries : List Entry)
    → rows_left_by entries (row ∷ []) ≡ row_with row (status_of row entries)
