-- What each line of a script spells, and which lines a building knows.
use Rattle.std.specs.Prelude.{ℕ, ◌≡◌, List, [], ◌∷◌, codes, Option, Some, None}
use Rattle.lift_base.specs.Text.{AreWords}
use Rattle.lift_building.specs.Plan.{Plan}
use Rattle.lift_replay.specs.declared.line.ScriptLine.{ScriptLine}
use Rattle.lift_replay.specs.declared.line.ScriptLine.TheVariants.{Ask, Turn, Show, Device}
use Rattle.lift_replay.specs.Ask.{AskToAsk, IsKnownAsk}
use Rattle.lift_replay.specs.DeviceAction.{AskToDo}
use Rattle.lift_replay.specs.Query.{AskToShow, IsKnownQuery}

-- these words ask for this; what is out of range they don't ask for
abbrev pub AskFor : List (List ℕ) → ScriptLine → Type 0
AskFor words (Ask ask) = AskToAsk words ask
AskFor words Turn = words ≡ codes "turn" ∷ []
AskFor words (Show query) = AskToShow words query
AskFor words (Device action) = AskToDo words action

-- what is read from these words: a line that they ask for, and none exactly where they ask for none
abbrev pub AreReadAsLine : List (List ℕ) → Option ScriptLine → Type 0
AreReadAsLine words (Some wanted) = AskFor words wanted
AreReadAsLine words None = (wanted : ScriptLine) → AskFor words wanted → ⊥

-- The words of this line ask for this. What spells nothing is malformed.
abbrev pub Spells : List ℕ → ScriptLine → Type 0
Spells line wanted = (words : List (List ℕ)) × AreWords line words × AskFor words wanted

-- empty lines, and those that begin with `#`, ask for nothing
abbrev pub IsSkipped : List ℕ → Type 0
IsSkipped [] = Unit {0}
IsSkipped (first ∷ others) = first ≡ 35

-- the building has the car or the kiosk that the line names, if it names one
abbrev pub IsKnown : Plan → ScriptLine → Type 0
IsKnown plan (Ask ask) = IsKnownAsk plan ask
IsKnown plan (Show query) = IsKnownQuery plan query
IsKnown plan _ = Unit {0}
