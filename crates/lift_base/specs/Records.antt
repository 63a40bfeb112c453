-- What a record of the journal is: as its types hold it, and as the journal may hold it.
use Rattle.std.specs.Prelude.{ℕ, ◌≢◌, ◌<◌, ◌≤◌, ◌^◌}
use Rattle.lift_base.specs.declared.limits.TheConstants.{FIRST_KIOSK, LAST_CAR, LAST_TERMINAL, MOST_DONE, TOP_FLOOR}
use Rattle.lift_base.specs.declared.history.Content.{Content}
use Rattle.lift_base.specs.declared.history.Content.TheVariants.{Letter, Stopped}
use Rattle.lift_base.specs.declared.history.Entry.TheVariants.{Allot, Stop}
use Rattle.lift_base.specs.declared.history.Record.{Record}
use Rattle.lift_base.specs.declared.history.Record.TheVariants.{Entry, Row, Last, Done}

-- a command as its types hold it
pub record IsTypedCommand (terminal number : ℕ) : Type 0 where
  pub terminal_range : terminal ≤ LAST_TERMINAL
  pub number_range : number ≤ 16777215

-- a call as its types hold it
pub record IsTypedCall (from to car party : ℕ) : Type 0 where
  pub from_range : from ≤ TOP_FLOOR
  pub to_range : to ≤ TOP_FLOOR
  pub car_range : car ≤ LAST_CAR
  pub party_range : (1 ≤ party) × (party ≤ 15)

-- a call that the journal may hold: of a kiosk, numbered from 1, between two floors
pub record IsLawfulCall (kiosk number from to : ℕ) : Type 0 where
  pub of_kiosk : FIRST_KIOSK ≤ kiosk
  pub numbered : 1 ≤ number
  pub apart : from ≢ to

-- a stop that the journal may hold: of a car, numbered from 1
pub record IsLawfulStop (terminal number : ℕ) : Type 0 where
  pub of_car : terminal ≤ LAST_CAR
  pub numbered : 1 ≤ number

abbrev pub IsTypedContent : Content → Type 0
IsTypedContent (Letter from to car party) = IsTypedCall from to car party
IsTypedContent (Stopped floor dir) = floor ≤ TOP_FLOOR

abbrev pub IsLawfulLast : ℕ → ℕ → Content → Type 0
IsLawfulLast terminal number (Letter from to car party) = IsLawfulCall terminal number from to
IsLawfulLast terminal number (Stopped floor dir) = IsLawfulStop terminal number

-- what each record of the program is by its types: floors to 63, cars to 15, terminals to 62,
-- numbers to 16,777,215, parties of 1 to 15
abbrev pub IsTyped : Record → Type 0
IsTyped (Entry (Allot kiosk number from to car party)) = IsTypedCommand kiosk number
    × IsTypedCall from to car party
IsTyped (Entry (Stop car number floor dir)) = IsTypedCommand car number × (car ≤ LAST_CAR) × (floor ≤ TOP_FLOOR)
IsTyped (Row row) = IsTypedCommand row.kiosk row.number
    × IsTypedCall row.from row.to row.car row.party
IsTyped (Last terminal last) = IsTypedCommand terminal last.number × IsTypedContent last.content
IsTyped (Done count) = count < 2 ^ 32

-- the rules that a record's types don't say
abbrev pub IsLawful : Record → Type 0
IsLawful (Entry (Allot kiosk number from to car party)) = IsLawfulCall kiosk number from to
IsLawful (Entry (Stop car number floor dir)) = 1 ≤ number
IsLawful (Row row) = IsLawfulCall row.kiosk row.number row.from row.to
IsLawful (Last terminal last) = IsLawfulLast terminal last.number last.content
IsLawful (Done count) = count ≤ MOST_DONE

-- the records that the journal may hold
abbrev pub IsRecord : Record → Type 0
IsRecord content = IsTyped content × IsLawful content
