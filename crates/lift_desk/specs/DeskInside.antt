-- A desk has a table of two words for each terminal, and 1 to 63 terminals.
use Rattle.std.specs.Prelude.{◌≡◌, ℕ, ◌<◌, ◌≤◌, List, map, length, slice_index_or}
use Rattle.atomic_table.specs.Seated.{TableId}
use Rattle.lift_base.specs.declared.limits.TheConstants.{MOST_TERMINALS}
use Rattle.lift_desk.specs.declared.desk.Desk.TheInside.{Inside}
use Rattle.lift_desk.specs.Seats.{no_table}

abbrev pub seen : Inside → List TableId
seen s = map (λ t. t.shared.table_id) s.tables.items

pub record IsDesk (s : Inside) : Type 0 where
  pub words : (k : ℕ) → k < length s.tables.items → (slice_index_or (seen s) k no_table).words ≡ 2
  pub at_least : 1 ≤ length s.tables.items
  pub at_most : length s.tables.items ≤ MOST_TERMINALS
