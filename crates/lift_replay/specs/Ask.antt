-- What a line may have a terminal ask: its words, what it names of the building, and the command
-- that it is.
use Rattle.std.specs.Prelude.{ℕ, ◌≡◌, ◌+◌, ◌<◌, ◌≤◌, List, [], ◌∷◌, codes, length, Option, Some, None}
use Rattle.std.specs.Fmt.{decimal}
use Rattle.lift_base.specs.Text.{ArePartyWords, letter_text, dir_text}
use Rattle.lift_base.specs.declared.command.Body.{Body}
use Rattle.lift_base.specs.declared.command.Body.TheVariants.{Call as Calls, Stop as Stopping}
use Rattle.lift_base.specs.declared.command.Body.TheVariants.{Place as Placing}
use Rattle.lift_building.specs.Plan.{Plan}
use Rattle.lift_base.specs.declared.limits.TheConstants.{FIRST_KIOSK, MOST_CARS, MOST_FLOORS, MOST_KIOSKS}
use Rattle.lift_policy.specs.declared.command.Command.{Command}
use Rattle.lift_replay.specs.declared.ask.ScriptAsk.{ScriptAsk}
use Rattle.lift_replay.specs.declared.ask.ScriptAsk.TheVariants.{Place, Call, Stop}

-- These words have a terminal ask this: of cars A to P, kiosks 0 to 46, floors 0 to 63, numbers up
-- to 16,777,215 and parties of 1 to 15.
abbrev pub AskToAsk : List (List ℕ) → ScriptAsk → Type 0
AskToAsk words (Place car at) = (car < MOST_CARS) × (at.floor < MOST_FLOORS)
    × (words ≡ codes "place" ∷ letter_text car ∷ decimal at.floor ∷ dir_text at.dir ∷ [])
AskToAsk words (Call kiosk number floor party) = (kiosk < MOST_KIOSKS) × (number < 16777216) × (floor < MOST_FLOORS)
    × (1 ≤ party) × (party ≤ 15) × (last : List (List ℕ)) × ArePartyWords last party
    × (words ≡ codes "call" ∷ decimal kiosk ∷ decimal number ∷ decimal floor ∷ last)
AskToAsk words (Stop car number stop) = (car < MOST_CARS) × (number < 16777216) × (stop.floor < MOST_FLOORS)
    × (words
    ≡ codes "stop" ∷ letter_text car ∷ decimal number ∷ decimal stop.floor ∷ dir_text stop.dir ∷ [])

-- what is read from these words, and none exactly where they have no terminal ask anything
abbrev pub AreReadAsAsk : List (List ℕ) → Option ScriptAsk → Type 0
AreReadAsAsk words (Some ask) = AskToAsk words ask
AreReadAsAsk words None = (ask : ScriptAsk) → AskToAsk words ask → ⊥

-- the building has the car or the kiosk that asks
abbrev pub IsKnownAsk : Plan → ScriptAsk → Type 0
IsKnownAsk plan (Place car position) = car < length plan.cars
IsKnownAsk plan (Call kiosk number floor party) = kiosk < length plan.kiosks
IsKnownAsk plan (Stop car number stop) = car < length plan.cars

-- which terminal asks what, with which number
abbrev pub asked_by : (terminal number : ℕ) → Body → Command
asked_by terminal number body = record { terminal = terminal; number = number; body = body }

abbrev pub asked_command : ScriptAsk → Command
asked_command (Place car position) = asked_by car 0 (Placing position.floor position.dir)
asked_command (Call kiosk number floor party) = asked_by (FIRST_KIOSK + kiosk) number (Calls floor party)
asked_command (Stop car number stop) = asked_by car number (Stopping stop.floor stop.dir)
