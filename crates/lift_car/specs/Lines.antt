-- What a car's lines ask for, and which answers it keeps.
use Rattle.std.specs.Prelude.{ℕ, ◌≡◌, ◌<◌, ◌≤◌, List, [], ◌∷◌, codes, Option, Some, None}
use Rattle.std.specs.Prelude.{IfSome, IfNone}
use Rattle.std.specs.Fmt.{decimal}
use Rattle.lift_base.specs.Text.{AreWords, dir_text}
use Rattle.lift_base.specs.declared.limits.TheConstants.{MOST_FLOORS}
use Rattle.lift_base.specs.declared.travel.Dir.{Dir}
use Rattle.lift_base.specs.declared.command.Body.TheVariants.{Stop, Place}
use Rattle.lift_base.specs.declared.command.Reply.{Reply}
use Rattle.lift_base.specs.declared.command.Reply.TheVariants.{Car, Stopped, Placed, Refused}
use Rattle.lift_base.specs.declared.command.Reply.TheVariants.{Unknown}
use Rattle.lift_desk.specs.declared.words.Ask.{Ask}
use Rattle.lift_car.specs.declared.lines.Move.{Move}
use Rattle.lift_kiosk.specs.Lines.{IsShortLine}
use Rattle.lift_kiosk.specs.Session.{later}
use Rattle.lift_kiosk.specs.declared.terms.LastLetter.{LastLetter}
use Rattle.lift_kiosk.specs.declared.dialect.Wanted.{Wanted}
use Rattle.lift_kiosk.specs.declared.dialect.Wanted.TheVariants.{Ask as Asks, NoFloor}

-- these words say where a car is, or report a stop
abbrev pub move_words : Option ℕ → (floor : ℕ) → Dir → List (List ℕ)
move_words None floor dir = codes "PLACE" ∷ decimal floor ∷ dir_text dir ∷ []
move_words (Some number) floor dir =
    codes "STOP" ∷ decimal number ∷ decimal floor ∷ dir_text dir ∷ []

-- the number of a stop is up to 16,777,215
abbrev pub IsNumber : Option ℕ → Type 0
IsNumber None = Unit {0}
IsNumber (Some number) = number < 16777216

-- floors are up to 999
pub record IsMove (words : List (List ℕ)) (move : Move) : Type 0 where
  pub spelled : words ≡ move_words move.number move.floor move.dir
  pub number_range : IsNumber move.number
  pub floor_range : move.floor < 1000

-- the move that these words spell, and none where they spell none
pub record ReadsMove (words : List (List ℕ)) (found : Option Move) : Type 0 where
  pub some : IfSome found (IsMove words)
  pub none : IfNone found ((move : Move) → IsMove words move → ⊥)

-- a line of a session that spells a move
pub record SpellsMove (line : List ℕ) (move : Move) : Type 0 where
  pub short : IsShortLine line
  pub words : List (List ℕ)
  pub spaced : AreWords line words
  pub moves : IsMove words move

abbrev pub asked : Option ℕ → (floor : ℕ) → Dir → Ask
asked None floor dir = record { number = 0; body = Place floor dir }
asked (Some number) floor dir = record { number = number; body = Stop floor dir }

-- what a move asks: a place has number 0
abbrev pub ask_of : Move → Ask
ask_of move = asked move.number move.floor move.dir

-- A floor from 64 on is in no building.
abbrev pub WantsMove : List ℕ → Wanted → Type 0
WantsMove line (Asks ask) = (move : Move) × SpellsMove line move × (move.floor < MOST_FLOORS)
    × (ask ≡ ask_of move)
WantsMove line NoFloor = (move : Move) × SpellsMove line move × (MOST_FLOORS ≤ move.floor)

-- A stop is kept where its number is above the last one's.
abbrev pub keeps_stop : LastLetter → ℕ → Reply → LastLetter
keeps_stop last number (Car car) = last
keeps_stop last number (Stopped next) = later last number None
keeps_stop last number (Placed next) = last
keeps_stop last number (Refused reason) = last
keeps_stop last number Unknown = last

-- what a car's line asks for is spelled in a short line
pub moves_are_short : (line : List ℕ) (wanted : Wanted) → WantsMove line wanted → IsShortLine line
moves_are_short line (Asks ask) wants = wants.1.short
moves_are_short line NoFloor wants = wants.1.short

-- a car's last command has a number and no letter
abbrev pub stop_numbered : ℕ → LastLetter
stop_numbered number = record { number = number; letter = None }
