-- How many persons leave a car at its halts.
use Rattle.std.specs.Prelude.{◌≡◌, ℕ, ◌+◌, ◌-◌, ◌*◌, ◌<◌, ◌≤◌, List, length, slice_index, sum_by}
use Rattle.std.specs.Prelude.{if◌then◌else◌}
use Rattle.lift_base.specs.Travel.{pass_number}
use Rattle.lift_base.specs.declared.limits.TheConstants.{MOST_FLOORS}
use Rattle.lift_base.specs.declared.travel.Position.{Position}
use Rattle.lift_base.specs.declared.travel.Halt.{Halt}
use Rattle.lift_base.specs.declared.history.Row.{Row}
use Rattle.lift_stops.specs.StopList.{same_halt, halt_at}

-- where a halt stands in a table with a place for each floor of each pass
abbrev pub place_of : Halt → ℕ
place_of halt = MOST_FLOORS * (pass_number halt.pass - 1) + halt.floor

-- how many persons of a call leave at a halt
abbrev pub leaving_of : Position → Halt → Row → ℕ
leaving_of position halt row = if same_halt (halt_at position row row.to) halt then row.party else 0

-- how many persons of these calls leave at a halt
abbrev pub leaving_at : List Row → Position → Halt → ℕ
leaving_at rows position halt = sum_by (leaving_of position halt) rows

-- a party has 1 to 15 persons
abbrev pub HasParty : Row → Type 0
HasParty row = (1 ≤ row.party) × (row.party ≤ 15)

-- A table tells at each halt's place how many persons leave there: at most 15 of each call.
pub record AreLeaving (rows : List Row) (position : Position) (table : List ℕ) : Type 0 where
  pub size : length table ≡ 3 * MOST_FLOORS
  pub at_each : (halt : Halt) → halt.floor < MOST_FLOORS
      → slice_index table (place_of halt) ≡ leaving_at rows position halt
  pub limit : (halt : Halt) → leaving_at rows position halt ≤ 15 * length rows
