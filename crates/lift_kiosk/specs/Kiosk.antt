-- What a kiosk's lines ask for, and which answers it keeps.
use Rattle.std.specs.Prelude.{ℕ, ◌≡◌, ◌<◌, ◌≤◌, List, ◌∷◌, codes, Some}
use Rattle.std.specs.Fmt.{decimal}
use Rattle.lift_base.specs.Text.{AreWords, ArePartyWords}
use Rattle.lift_base.specs.declared.command.Body.TheVariants.{Call}
use Rattle.lift_base.specs.declared.command.Reply.{Reply}
use Rattle.lift_base.specs.declared.command.Reply.TheVariants.{Car, Stopped, Placed, Refused}
use Rattle.lift_base.specs.declared.command.Reply.TheVariants.{Unknown}
use Rattle.lift_kiosk.specs.Lines.{IsShortLine}
use Rattle.lift_kiosk.specs.Session.{later}
use Rattle.lift_base.specs.declared.limits.TheConstants.{MOST_FLOORS}
use Rattle.lift_kiosk.specs.declared.terms.LastLetter.{LastLetter}
use Rattle.lift_kiosk.specs.declared.dialect.Wanted.{Wanted}
use Rattle.lift_kiosk.specs.declared.dialect.Wanted.TheVariants.{Ask as Asks, NoFloor}

-- the words after CALL: a number up to 16,777,215, a floor up to 999, and a party of 1 to 15
pub record AreCallWords (words : List (List ℕ)) (number floor party : ℕ) : Type 0 where
  pub last : List (List ℕ)
  pub persons : ArePartyWords last party
  pub spelled : words ≡ decimal number ∷ decimal floor ∷ last
  pub number_range : number < 16777216
  pub floor_range : floor < 1000
  pub party_range : (1 ≤ party) × (party ≤ 15)

-- a line of a session that spells a call
pub record SpellsCall (line : List ℕ) (number floor party : ℕ) : Type 0 where
  pub short : IsShortLine line
  pub words : List (List ℕ)
  pub spaced : AreWords line (codes "CALL" ∷ words)
  pub call : AreCallWords words number floor party

-- A call to a floor from 64 on is for no building.
abbrev pub WantsCall : List ℕ → Wanted → Type 0
WantsCall line (Asks ask) = (floor party : ℕ) × SpellsCall line ask.number floor party
    × (floor < MOST_FLOORS) × (ask.body ≡ Call floor party)
WantsCall line NoFloor = (number floor party : ℕ) × SpellsCall line number floor party
    × (MOST_FLOORS ≤ floor)

-- A letter is kept where its number is above the last one's.
abbrev pub keeps_letter : LastLetter → ℕ → Reply → LastLetter
keeps_letter last number (Car car) = later last number (Some car)
keeps_letter last number (Stopped next) = last
keeps_letter last number (Placed next) = last
keeps_letter last number (Refused reason) = last
keeps_letter last number Unknown = last

-- what a kiosk's line asks for is spelled in a short line
pub calls_are_short : (line : List ℕ) (wanted : Wanted) → WantsCall line wanted → IsShortLine line
calls_are_short line (Asks ask) spells = spells.2.short
calls_are_short line NoFloor spells = spells.3.short
