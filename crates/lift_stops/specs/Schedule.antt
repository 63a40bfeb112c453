-- What a schedule stands for.
use Rattle.std.specs.Prelude.{◌≡◌, ℕ, ◌≤◌, Bool, true, List, All, length}
use Rattle.lift_base.specs.declared.limits.TheConstants.{MOST_WEIGHED}
use Rattle.lift_base.specs.declared.travel.Halt.{Halt}
use Rattle.lift_base.specs.declared.travel.Position.{Position}
use Rattle.lift_base.specs.declared.travel.Stop.{Stop}
use Rattle.lift_base.specs.declared.history.Row.{Row}
use Rattle.lift_stops.specs.StopList.{HasFloors, pass_of, stop_list}
use Rattle.lift_stops.specs.Leaving.{AreLeaving, HasParty}

-- where a car is, and its open calls
pub record ScheduleState : Type 0 where
  pub position : Position
  pub rows : List Row

-- where a car is after a stop
abbrev pub position_after : Stop → Position
position_after stop = record { floor = stop.floor; dir = stop.dir }

-- At another position a car makes each call in the pass in which it made it before.
pub record PassesStay (rows : List Row) (position next : Position) : Type 0 where
  pub dir : next.dir ≡ position.dir
  pub passes : All (λ row. pass_of next row ≡ pass_of position row) rows

-- The halts are the stop list of the calls, and the table tells how many persons leave there. Each
-- leg is a floor that a building may have, and each party has 1 to 15 persons.
pub record AreListed (position : Position) (rows : List Row) (halts : List Halt)
    (table : List ℕ) : Type 0 where
  pub listed : halts ≡ stop_list rows position
  pub floors : All HasFloors rows
  pub parties : All HasParty rows
  pub leaving : AreLeaving rows position table

-- A car has at most so many calls. Where its schedule is listed, halts and table are those of the calls.
pub record IsPlanned (position : Position) (rows : List Row) (is_listed : Bool) (halts : List Halt)
    (table : List ℕ) : Type 0 where
  pub few : length rows ≤ MOST_WEIGHED
  pub listed : is_listed ≡ true → AreListed position rows halts table
