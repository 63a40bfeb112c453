-- The halts of a car as bits, a number for each pass.
use Rattle.std.specs.Prelude.{◌≡◌, ℕ, ◌-◌, ◌<◌, ◌==◌, Bool, List, ◌++◌, map, filter}
use Rattle.std.specs.Prelude.{length, slice_index}
use Rattle.std.specs.Int.{bit_at}
use Rattle.std.specs.List.{range_with_len}
use Rattle.lift_base.specs.Travel.{pass_number, reverse_of}
use Rattle.lift_base.specs.declared.limits.TheConstants.{MOST_FLOORS}
use Rattle.lift_base.specs.declared.travel.Dir.{Dir}
use Rattle.lift_base.specs.declared.travel.Pass.{Pass}
use Rattle.lift_base.specs.declared.travel.Pass.TheVariants.{First, Second, Third}
use Rattle.lift_base.specs.declared.travel.Position.{Position}
use Rattle.lift_base.specs.declared.travel.Halt.{Halt}
use Rattle.lift_base.specs.declared.history.Row.{Row}
use Rattle.lift_stops.specs.declared.marks.Marks.{Marks}
use Rattle.lift_stops.specs.Insertion.{floor_rank}
use Rattle.lift_stops.specs.StopList.{is_needed}

-- a floor is in a set
abbrev pub has_bit : ℕ → ℕ → Bool
has_bit set place = bit_at set place == 1

-- the places of a pass: how many floors a car that travels all of them reaches before
unfoldable pub places : List ℕ
places = range_with_len 0 MOST_FLOORS

-- the places of a pass in this direction whose floors are in a set, in order
abbrev pub marked : Dir → ℕ → List ℕ
marked dir set = filter (λ place. has_bit set (floor_rank dir place)) places

-- the halt at a place of a pass in this direction
abbrev pub halt_on : Pass → Dir → ℕ → Halt
halt_on pass dir place = record { pass = pass; floor = floor_rank dir place }

-- the halts at these floors
abbrev pub halts_marked : Pass → Dir → ℕ → List Halt
halts_marked pass dir set = map (halt_on pass dir) (marked dir set)

-- the set of a pass
abbrev pub set_in : Marks → Pass → ℕ
set_in marks pass = slice_index marks.sets (pass_number pass - 1)

-- the halts of all three passes of a car in this direction
abbrev pub all_marked : Marks → Dir → List Halt
all_marked marks dir =
    halts_marked First dir (set_in marks First)
    ++ halts_marked Second (reverse_of dir) (set_in marks Second)
    ++ halts_marked Third dir (set_in marks Third)

-- Those halts are marked that some call needs.
pub record HasHalts (rows : List Row) (position : Position) (marks : Marks) : Type 0 where
  pub size : length marks.sets ≡ 3
  pub needed : (pass : Pass) (floor : ℕ) → floor < MOST_FLOORS
      → has_bit (set_in marks pass) floor
      ≡ is_needed rows position (record { pass = pass; floor = floor })
