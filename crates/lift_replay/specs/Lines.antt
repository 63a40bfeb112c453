-- What each line of a script reports, and how it leaves the group: by its kind.
use Rattle.std.specs.Prelude.{ℕ, ◌≡◌, ◌⊎◌, List, [], Option, Some, None}
use Rattle.std.specs.Option.{is_some}
use Rattle.lift_building.specs.Plan.{Plan}
use Rattle.lift_disk.specs.declared.outcome.Outcome.{Outcome}
use Rattle.lift_policy.specs.Step.{view_of}
use Rattle.lift_policy.specs.declared.command.Command.{Command}
use Rattle.lift_desk.specs.Seats.{TerminalSeat}
use Rattle.lift_replay.specs.declared.line.ScriptLine.{ScriptLine}
use Rattle.lift_replay.specs.declared.line.ScriptLine.TheVariants.{Ask, Turn, Show, Device}
use Rattle.lift_replay.specs.declared.lines.End.{End}
use Rattle.lift_replay.specs.declared.lines.End.TheVariants.{Run as Over, Cut as Power}
use Rattle.lift_replay.specs.declared.lines.Verdict.TheVariants.{Bad}
use Rattle.lift_replay.specs.Ask.{asked_command}
use Rattle.lift_replay.specs.DeviceAction.{DoesToDevice, cut_by, action_text, after_action}
use Rattle.lift_replay.specs.Grammar.{Spells, IsSkipped, IsKnown}
use Rattle.lift_replay.specs.Group.{ScriptGroup, asking_at, ask_text, after_asking, turn_report}
use Rattle.lift_replay.specs.Group.{turned, state_to_decide_on}
use Rattle.lift_replay.specs.Query.{shown_text}
use Rattle.lift_replay.specs.Report.{bad_text}
use Rattle.lift_replay.specs.Script.{IsBadLine}
use Rattle.lift_replay.specs.Told.{ScriptClerk, Asks, KeeperStays, OutcomeTells, ScriptRests}

-- a terminal asks this command
abbrev pub CommandTells : (old new : ScriptClerk) → (seats after : List TerminalSeat) → Command
    → List ℕ → Type 0
CommandTells old new seats after c text =
    Asks seats after old.seat new.seat c.terminal c.number c.body text × KeeperStays old new

-- what a line reports in a building, to a clerk and terminals, and how it leaves them
abbrev pub Tells : Plan → (old new : ScriptClerk) → (seats after : List TerminalSeat) → ScriptLine
    → List ℕ → Type 0
Tells plan old new seats after (Ask ask) text =
    CommandTells old new seats after (asked_command ask) text
Tells plan old new seats after Turn text = OutcomeTells old new seats after text
Tells plan old new seats after (Show query) text =
    (text ≡ shown_text old.keeper.writer.is_broken plan (view_of old.keeper.state) query)
    × ScriptRests old new seats after
Tells plan old new seats after (Device action) text =
    (text ≡ []) × DoesToDevice action old new × (after ≡ seats)

-- a power cut ends the lines at this desk, and no other line does
abbrev pub end_by : Option Outcome → Option End
end_by (Some outcome) = Some (Power outcome)
end_by None = None

abbrev pub end_of : ScriptLine → Option End
end_of (Device action) = end_by (cut_by action)
end_of line = None

-- the line is skipped
abbrev pub Skips : (old new : ScriptClerk) → (seats after : List TerminalSeat) → List ℕ → Option End
    → List ℕ → Type 0
Skips old new seats after line end text = IsSkipped line × (end ≡ None) × (text ≡ [])
    × ScriptRests old new seats after

-- the line asks for something that the building knows, and it is carried out
abbrev pub CarriesOutLine : Plan → (old new : ScriptClerk) → (seats after : List TerminalSeat)
    → List ℕ
    → Option End → List ℕ → Type 0
CarriesOutLine plan old new seats after line end text =
    (wanted : ScriptLine) × Spells line wanted × IsKnown plan wanted
    × Tells plan old new seats after wanted text × (end ≡ end_of wanted) × (¬ IsSkipped line)

-- the line is malformed, or names what the building lacks, and ends the run
abbrev pub RefusesLine : Plan → (old new : ScriptClerk) → (seats after : List TerminalSeat) → List ℕ
    → ℕ
    → Option End → List ℕ → Type 0
RefusesLine plan old new seats after line number end text =
    IsBadLine plan line × (end ≡ Some (Over Bad)) × (text ≡ bad_text number)
    × ScriptRests old new seats after

abbrev pub LineTells : Plan → (old new : ScriptClerk) → (seats after : List TerminalSeat) → List ℕ
    → ℕ → Option End → List ℕ → Type 0
LineTells plan old new seats after line number end text =
    Skips old new seats after line end text
    ⊎ (CarriesOutLine plan old new seats after line end text
    ⊎ RefusesLine plan old new seats after line number end text)

-- what each line reports of a group
abbrev pub line_text : Plan → ScriptGroup → ScriptLine → List ℕ
line_text plan g (Ask ask) =
    ask_text (asking_at g.terminals (asked_command ask).terminal) (asked_command ask)
line_text plan g Turn = turn_report g.failed plan g
line_text plan g (Show query) =
    shown_text (is_some g.failed) plan (view_of (state_to_decide_on g)) query
line_text plan g (Device action) = action_text g action

-- what each makes of the group
abbrev pub after : Plan → ScriptGroup → ScriptLine → ScriptGroup
after plan g (Ask ask) = after_asking g (asked_command ask)
after plan g Turn = turned g.failed plan g
after plan g (Show query) = g
after plan g (Device action) = after_action plan g action
