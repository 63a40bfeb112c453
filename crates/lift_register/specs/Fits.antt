-- Which entries a register can take in a building.
use Rattle.std.specs.Prelude.{
  ℕ,
  ◌≡◌,
  ◌≢◌,
  ◌+◌,
  ◌-◌,
  ◌<◌,
  ◌≤◌,
  List,
  [],
  ◌∷◌,
  length,
  sum_by,
  IsTrue,
}
use Rattle.lift_base.specs.declared.limits.TheConstants.{FIRST_KIOSK}
use Rattle.lift_building.specs.Plan.{Plan, kiosk_floor_of, places_of, serves_floor}
use Rattle.lift_base.specs.declared.history.Content.{Content}
use Rattle.lift_base.specs.declared.history.Content.TheVariants.{Letter, Stopped}
use Rattle.lift_base.specs.declared.history.Entry.{Entry}
use Rattle.lift_base.specs.declared.history.Entry.TheVariants.{Allot, Stop}
use Rattle.lift_base.specs.declared.history.Row.{Row}
use Rattle.lift_register.specs.Register.{RegisterState, rows_of, last_number, register_of}

-- a call that the building allows: of one of its kiosks and from that kiosk's floor, to another
-- floor, with a car that serves both
pub record IsPossibleCall (plan : Plan) (terminal from to car : ℕ) : Type 0 where
  pub of_kiosk : (FIRST_KIOSK ≤ terminal) × (terminal - FIRST_KIOSK < length plan.kiosks)
  pub from_kiosk : from ≡ kiosk_floor_of plan (terminal - FIRST_KIOSK)
  pub apart : from ≢ to
  pub by_car : car < length plan.cars
  pub served_from : IsTrue (serves_floor plan car from)
  pub served_to : IsTrue (serves_floor plan car to)

-- a stop that the building allows: of one of its cars, at a floor that the car serves
pub record IsPossibleStop (plan : Plan) (car floor : ℕ) : Type 0 where
  pub by_car : car < length plan.cars
  pub served : IsTrue (serves_floor plan car floor)

-- what a terminal of the building may have said last
abbrev pub IsPossibleLast : Plan → ℕ → Content → Type 0
IsPossibleLast plan terminal (Letter from to car party) = IsPossibleCall plan terminal from to car
IsPossibleLast plan terminal (Stopped floor dir) = IsPossibleStop plan terminal floor

-- how many persons these calls are for
abbrev pub persons_of : List Row → ℕ
persons_of rows = sum_by (λ (row : Row). row.party) rows

-- beside its open calls the car has places for these persons
abbrev pub HasPlace : Plan → RegisterState → (car party : ℕ) → Type 0
HasPlace plan register car party = persons_of (rows_of register car) + party ≤ places_of plan car

-- an entry that can be taken now: possible, with its terminal's next number, and for a call with
-- places in the car
abbrev pub Fits : Plan → RegisterState → Entry → Type 0
Fits plan register (Allot kiosk number from to car party) =
    IsPossibleCall plan kiosk from to car
    × (number ≡ last_number register kiosk + 1)
    × HasPlace plan register car party
Fits plan register (Stop car number floor dir) =
    IsPossibleStop plan car floor × (number ≡ last_number register car + 1)

-- each entry fits where it comes
abbrev pub FitFrom : Plan → RegisterState → List Entry → Type 0
FitFrom plan register [] = Unit {0}
FitFrom plan register (entry ∷ later) =
    Fits plan register entry × FitFrom plan (register_of register (entry ∷ [])) later
