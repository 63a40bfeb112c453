use Rattle.std.specs.Prelude.{ℕ, ◌≤◌, ◌==◌, ◌&&◌, List, [], ◌∷◌, nat_lt, if◌then◌else◌}
use Rattle.lift_base.specs.declared.limits.TheConstants.{LEAST_HALF, MOST_CARS, MOST_FLOORS, MOST_KIOSKS}
use Rattle.lift_base.specs.declared.travel.Dir.{Dir}
use Rattle.lift_base.specs.declared.travel.Dir.TheVariants.{Up, Down}
use Rattle.lift_base.specs.declared.history.Content.{Content}
use Rattle.lift_base.specs.declared.history.Content.TheVariants.{Letter, Stopped}
use Rattle.lift_base.specs.declared.history.Entry.{Entry}
use Rattle.lift_base.specs.declared.history.Entry.TheVariants.{Allot, Stop}
use Rattle.lift_base.specs.declared.history.Row.{Row}
use Rattle.lift_base.specs.declared.history.Shape.{Shape}
use Rattle.lift_base.specs.declared.travel.Stop.{Stop as CarStop}
use Rattle.lift_base.specs.Travel.{same_dir}

-- the terminal whose command an entry keeps; a car's terminal has the car's number
abbrev pub terminal_of : Entry → ℕ
terminal_of (Allot kiosk number from to car party) = kiosk
terminal_of (Stop car number floor dir) = car

-- the number of that command
abbrev pub number_of : Entry → ℕ
number_of (Allot kiosk number from to car party) = number
number_of (Stop car number floor dir) = number

-- what that command said, with the letter that a call was answered
abbrev pub content_of : Entry → Content
content_of (Allot kiosk number from to car party) = Letter from to car party
content_of (Stop car number floor dir) = Stopped floor dir

-- a call goes up where its goal is above the floor that it starts from, else down
abbrev pub dir_of : ℕ → ℕ → Dir
dir_of from to = if nat_lt from to then Up else Down

-- an open call after a stop of its car: none once its passengers have left, aboard once they have
-- boarded
abbrev pub row_after : CarStop → Row → List Row
row_after stop row =
    if row.aboard
    then (if stop.floor == row.to then [] else row ∷ [])
    else (record row {
      aboard = stop.floor
          == row.from && same_dir stop.dir (dir_of row.from row.to);
    }) ∷ []

-- what the controller is made for
pub record IsWithinLimits (shape : Shape) : Type 0 where
  pub floors : (2 ≤ shape.floors) × (shape.floors ≤ MOST_FLOORS)
  pub cars : (1 ≤ shape.cars) × (shape.cars ≤ MOST_CARS)
  pub kiosks : (1 ≤ shape.kiosks) × (shape.kiosks ≤ MOST_KIOSKS)
  pub half : (LEAST_HALF ≤ shape.half) × (shape.half ≤ 1000000)
