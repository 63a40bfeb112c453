-- The halts that a car still has to make, in the order in which it makes them.
use Rattle.std.specs.Prelude.{◌≡◌, ℕ, ◌<◌, All, ◌==◌, ◌&&◌, if◌then◌else◌, nat_le, Bool, true}
use Rattle.std.specs.Prelude.{false, List, [], ◌∷◌, ◌++◌, ◌-◌, map, filter, slice_get, Option}
use Rattle.std.specs.Prelude.{option_map}
use Rattle.std.specs.List.{list_any, range_with_len}
use Rattle.lift_base.specs.Travel.{reverse_of, same_dir}
use Rattle.lift_base.specs.History.{dir_of}
use Rattle.lift_base.specs.declared.limits.TheConstants.{MOST_FLOORS, TOP_FLOOR}
use Rattle.lift_base.specs.declared.travel.Dir.{Dir}
use Rattle.lift_base.specs.declared.travel.Dir.TheVariants.{Up, Down}
use Rattle.lift_base.specs.declared.travel.Pass.{Pass}
use Rattle.lift_base.specs.declared.travel.Pass.TheVariants.{First, Second, Third}
use Rattle.lift_base.specs.declared.travel.Position.{Position}
use Rattle.lift_base.specs.declared.travel.Stop.{Stop}
use Rattle.lift_base.specs.declared.travel.Halt.{Halt}
use Rattle.lift_base.specs.declared.history.Row.{Row}

-- the floors that a call still needs its car at: where its passengers board, unless aboard, and
-- then where they leave
abbrev pub legs_of : Row → List ℕ
legs_of row = if row.aboard then row.to ∷ [] else row.from ∷ row.to ∷ []

-- the legs are floors that a building may have
abbrev pub HasFloors : Row → Type 0
HasFloors row = All (λ leg. leg < MOST_FLOORS) (legs_of row)

abbrev pub first_leg : Row → ℕ
first_leg row = if row.aboard then row.to else row.from

-- a floor at another one, or ahead of it in a direction
abbrev pub is_ahead : Dir → (floor other : ℕ) → Bool
is_ahead Up floor other = nat_le other floor
is_ahead Down floor other = nat_le floor other

-- the pass in which a car makes a call: the first where the call goes the car's way and starts
-- ahead, the second where it goes the other way, the third where it starts behind
abbrev pub pass_of : Position → Row → Pass
pass_of position row =
    if same_dir (dir_of row.from row.to) position.dir
    then (if is_ahead position.dir (first_leg row) position.floor then First else Third)
    else Second

-- the direction in which a car of this direction makes a pass
abbrev pub dir_in : Dir → Pass → Dir
dir_in dir First = dir
dir_in dir Second = reverse_of dir
dir_in dir Third = dir

abbrev pub same_pass : Pass → Pass → Bool
same_pass First First = true
same_pass Second Second = true
same_pass Third Third = true
same_pass _ _ = false

abbrev pub same_halt : Halt → Halt → Bool
same_halt a b = same_pass a.pass b.pass && a.floor == b.floor

-- the halt that a car makes for a call at a floor
abbrev pub halt_at : Position → Row → ℕ → Halt
halt_at position row floor = record { pass = pass_of position row; floor = floor }

-- a call needs this halt
abbrev pub is_halt_of : Position → Row → Halt → Bool
is_halt_of position row halt =
    same_pass (pass_of position row) halt.pass && list_any (λ leg. leg == halt.floor) (legs_of row)

-- some call needs this halt
abbrev pub is_needed : List Row → Position → Halt → Bool
is_needed rows position halt = list_any (λ (row : Row). is_halt_of position row halt) rows

-- all floors, in a direction
abbrev pub floors_along : Dir → List ℕ
floors_along Up = range_with_len 0 MOST_FLOORS
floors_along Down = map (λ floor. TOP_FLOOR - floor) (range_with_len 0 MOST_FLOORS)

-- every halt of a pass, in the order of travel
abbrev pub halts_in : Dir → Pass → List Halt
halts_in dir pass = map (λ floor.
    record { pass = pass; floor = floor }) (floors_along (dir_in dir pass))

-- every halt, in the order in which a car of this direction would make them all
abbrev pub all_halts : Dir → List Halt
all_halts dir = halts_in dir First ++ halts_in dir Second ++ halts_in dir Third

-- those that are needed
unfoldable pub stop_list : List Row → Position → List Halt
stop_list rows position = filter (is_needed rows position) (all_halts position.dir)

-- the stop that a car makes at a halt
abbrev pub stop_of : Halt → Position → Stop
stop_of halt position = record { floor = halt.floor; dir = dir_in position.dir halt.pass }

-- the stop at the first halt
abbrev pub next_stop : List Row → Position → Option Stop
next_stop rows position =
    option_map (λ halt. stop_of halt position) (slice_get (stop_list rows position) 0)

-- a call's own halts, in the order in which its passengers need them
abbrev pub halts_of : Position → Row → List Halt
halts_of position row = map (λ floor. record { pass = pass_of position row; floor = floor })
    (legs_of row)

-- Wherever the car is, its list without the halts of the other calls is this call's halts in the
-- order in which its passengers need them.
abbrev pub StopsInOrder : List Row → Row → Type 0
StopsInOrder rows row = (position : Position)
    → filter (is_halt_of position row) (stop_list rows position) ≡ halts_of position row
