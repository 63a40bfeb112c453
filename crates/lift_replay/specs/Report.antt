-- The lines of a report.
use Rattle.std.specs.Prelude.{ℕ, ◌≡◌, Bool, true, false, List, [], ◌∷◌, ◌++◌, codes, nat_lt}
use Rattle.std.specs.Prelude.{if◌then◌else◌, Option}
use Rattle.std.specs.Fmt.{decimal}
use Rattle.std.specs.List.{flat_map}
use Rattle.std.specs.Io.KnownBytes.{Appends}
use mathlib.Core.List.{IsPrefix}
use Rattle.lift_base.specs.Travel.{pass_number}
use Rattle.lift_base.specs.Text.{letter_text, terminal_text, reply_text}
use Rattle.lift_base.specs.declared.history.Row.{Row}
use Rattle.lift_base.specs.declared.travel.Halt.{Halt}
use Rattle.lift_base.specs.Command.{reason_number}
use Rattle.lift_base.specs.declared.command.Reply.{Reply}
use Rattle.lift_base.specs.declared.command.Reason.{Reason}
use Rattle.lift_register.specs.Prelude.{RegisterState, cars, rows_of, open_count}
use Rattle.lift_building.specs.Text.{fault_number}
use Rattle.lift_building.specs.declared.fault.BuildingFault.{BuildingFault}
use Rattle.lift_building.specs.declared.fault.BuildingFault.TheVariants.{Detour}

-- whether a call's passengers wait or ride
abbrev pub status_text : Bool → List ℕ
status_text false = codes "waiting"
status_text true = codes "aboard"

-- the party, where it is more than one person
abbrev pub party_text : ℕ → List ℕ
party_text party = if nat_lt 1 party then codes " x" ++ decimal party else []

-- one open call
abbrev pub row_text : Row → List ℕ
row_text row =
    letter_text row.car ++ 32 ∷ terminal_text row.kiosk ++ 32 ∷ decimal row.number ++ 32
    ∷ decimal row.from ++ 32 ∷ decimal row.to ++ 32 ∷ status_text row.aboard
    ++ party_text row.party ++ 10 ∷ []

-- the head of the open calls: how many are open, and how many are done
abbrev pub rows_text : (calls done : ℕ) → List ℕ
rows_text calls done = codes "rows " ++ decimal calls ++ 32 ∷ decimal done ++ 10 ∷ []

-- the open calls of a car, a line each
abbrev pub car_text : RegisterState → ℕ → List ℕ
car_text register car = flat_map row_text (rows_of register car)

-- the open calls of a register by rising car, in each in order of allotment, after how many are
-- open and how many are done
abbrev pub register_text : RegisterState → List ℕ
register_text register =
    rows_text (open_count register) register.done ++ flat_map (car_text register) cars

-- a halt, as a stop list shows it
abbrev pub halt_text : Halt → List ℕ
halt_text halt = 32 ∷ decimal (pass_number halt.pass) ++ 58 ∷ decimal halt.floor

-- what a terminal is told of the ask with this number
abbrev pub told_text : (terminal number : ℕ) → List ℕ → List ℕ
told_text terminal number text =
    terminal_text terminal ++ 32 ∷ decimal number ++ 32 ∷ text ++ 10 ∷ []

-- what it hears
abbrev pub heard_text : (terminal number : ℕ) → Reply → List ℕ
heard_text terminal number reply = told_text terminal number (reply_text reply)

-- how many calls are open once the power has come back
abbrev pub cut_text : ℕ → List ℕ
cut_text calls = codes "cut " ++ decimal calls ++ 10 ∷ []

-- what a segment reports before its lines: after a power cut how many calls are open
abbrev pub start_text : (is_after_cut : Bool) → (calls : ℕ) → List ℕ
start_text true calls = cut_text calls
start_text false calls = []

-- how many commands a turn took, and how many it accepted
abbrev pub turn_text : (taken accepted : ℕ) → List ℕ
turn_text taken accepted = codes "turn " ++ decimal taken ++ 32 ∷ decimal accepted ++ 10 ∷ []

-- what a call would cost an eligible car
abbrev pub cost_text : (car cost : ℕ) → List ℕ
cost_text car cost = 32 ∷ letter_text car ++ 61 ∷ decimal cost

-- a malformed line ends the run
abbrev pub bad_text : ℕ → List ℕ
bad_text line = codes "BAD " ++ decimal line ++ 10 ∷ []

-- the fault in place of what a line shows
abbrev pub fault_text : List ℕ → ℕ → List ℕ
fault_text line fault = line ++ codes " FAULT " ++ decimal fault ++ 10 ∷ []

-- why there are no costs
abbrev pub refused_text : Reason → List ℕ
refused_text reason = codes " NO " ++ decimal (reason_number reason)

-- the floors of the first flight that a stop would shorten, with that stop between them, of a fault
-- that names some
abbrev pub floors_text : BuildingFault → List ℕ
floors_text (Detour from by to) = 32 ∷ decimal from ++ 32 ∷ decimal by ++ 32 ∷ decimal to
floors_text _ = []

-- a text is no building
abbrev pub building_text : BuildingFault → List ℕ
building_text fault = codes "BUILDING " ++ decimal (fault_number fault) ++ floors_text fault ++ 10
    ∷ []

-- a prefix of this text was written
abbrev pub AppendsPrefix : (old new : Option (List ℕ)) → List ℕ → Type 0
AppendsPrefix old new text = (written : List ℕ) × IsPrefix written text × Appends old new written

-- The report grew by this. A part of it was written, after what had been kept back, and the rest
-- is kept back.
pub record Reports (old new : Option (List ℕ)) (before after added : List ℕ) : Type 0 where
  pub written : List ℕ
  pub appends : Appends old new written
  pub same : before ++ added ≡ written ++ after

-- The report grew by a prefix of this. What was written, with what is kept back, is a prefix of
-- what had been kept back and this.
pub record ReportsPart (old new : Option (List ℕ)) (before after all : List ℕ) : Type 0 where
  pub written : List ℕ
  pub appends : Appends old new written
  pub front : IsPrefix (written ++ after) (before ++ all)
