-- What the lines of a script report, from one to the next: the report as a function of the script.
use Rattle.std.specs.Prelude.{ℕ, suc, ◌≡◌, ◌⊎◌, Option, List, [], ◌∷◌, ◌++◌}
use Rattle.lift_building.specs.Plan.{Plan}
use Rattle.lift_desk.specs.Seats.{TerminalSeat}
use Rattle.lift_disk.specs.Outcomes.{state_of}
use Rattle.lift_register.specs.Balanced.{open_count}
use Rattle.lift_replay.specs.declared.line.ScriptLine.{ScriptLine}
use Rattle.lift_replay.specs.declared.lines.End.{End}
use Rattle.lift_replay.specs.declared.lines.End.TheVariants.{Run as Over, Cut as Power}
use Rattle.lift_replay.specs.declared.lines.Verdict.{Verdict}
use Rattle.lift_replay.specs.declared.lines.Verdict.TheVariants.{Good, Bad}
use Rattle.lift_replay.specs.declared.segment.SegmentEnd.{SegmentEnd}
use Rattle.lift_replay.specs.declared.segment.SegmentEnd.TheVariants.{Run, Cut}
use Rattle.lift_replay.specs.Grammar.{Spells, IsSkipped, IsKnown}
use Rattle.lift_replay.specs.Group.{ScriptGroup, Found, left_by, recovered}
use Rattle.lift_replay.specs.Lines.{line_text, after}
use Rattle.lift_replay.specs.Report.{ReportsPart, bad_text, cut_text}
use Rattle.lift_replay.specs.Script.{IsBadLine}
use Rattle.lift_replay.specs.Shows.{Shows, IsFound}
use Rattle.lift_replay.specs.Told.{ScriptClerk}

-- These lines, after `count` others, report this of a group, and the run of them has this verdict:
-- skipped ones report nothing, a malformed one ends the run, and each other what it asks for
-- and leaves the group to the next.
abbrev pub TellsLines : Plan → ℕ → ScriptGroup → List (List ℕ) → List ℕ → Verdict → Type 0
TellsLines plan count g [] text verdict = (text ≡ []) × (verdict ≡ Good)
TellsLines plan count g (line ∷ lines) text verdict =
    (IsSkipped line × TellsLines plan (suc count) g lines text verdict)
    ⊎ (((wanted : ScriptLine) × (more : List ℕ) × (¬ IsSkipped line) × Spells line wanted
    × IsKnown plan wanted × TellsLines plan (suc count) (after plan g wanted) lines more verdict
    × (text ≡ line_text plan g wanted ++ more))
    ⊎ (IsBadLine plan line × (text ≡ bad_text (suc count)) × (verdict ≡ Bad)))

-- What the later lines report of the later group, after this text, all of them report of the first
-- one.
abbrev pub Continues : Plan → (count : ℕ) → ScriptGroup → List (List ℕ) → List ℕ → (later : ℕ)
    → ScriptGroup → List (List ℕ) → Type 0
Continues plan count g script text later next rest =
    (more : List ℕ) (verdict : Verdict) → TellsLines plan later next rest more verdict
    → TellsLines plan count g script (text ++ more) verdict

-- The lines report some text of the group, and the report grew by a prefix of it behind this start.
abbrev pub TellsPartAfter : (start : List ℕ) → Plan → (count : ℕ) → ScriptGroup → List (List ℕ)
    → (old new : Option (List ℕ))
    → (before after : List ℕ) → Type 0
TellsPartAfter start plan count g script old new before after =
    (all : List ℕ) × (verdict : Verdict) × TellsLines plan count g script all verdict
    × ReportsPart old new before after (start ++ all)

abbrev pub TellsPart : Plan → (count : ℕ) → ScriptGroup → List (List ℕ)
    → (old new : Option (List ℕ))
    → (before after : List ℕ) → Type 0
TellsPart = TellsPartAfter []

-- Where lines end at a desk: all are carried out, or a power cut is left to do.
abbrev pub LinesEnd : Plan → (count : ℕ) → ScriptGroup → List (List ℕ) → List ℕ → (later : ℕ)
    → List (List ℕ) → ScriptClerk → List TerminalSeat → End → Type 0
LinesEnd plan count g script text later rest clerk seats (Over verdict) =
    TellsLines plan count g script text verdict
LinesEnd plan count g script text later rest clerk seats (Power outcome) =
    (next : ScriptGroup) × Shows plan next clerk seats
    × Continues plan count g script (text ++ cut_text (open_count (left_by outcome next).register))
    later (recovered plan (left_by outcome next)) rest

-- Where a segment ends: all lines are carried out, or a device is left, over which the others go on
-- once it was reported how many calls are open.
abbrev pub SegmentEnds : Plan → (count : ℕ) → ScriptGroup → List (List ℕ) → List ℕ → (later : ℕ)
    → List (List ℕ) → SegmentEnd → Type 0
SegmentEnds plan count g script text later rest (Run verdict) =
    TellsLines plan count g script text verdict
SegmentEnds plan count g script text later rest (Cut disk) =
    (found : Found) × IsFound plan found (state_of disk).image
    × Continues plan count g script (text ++ cut_text (open_count found.register)) later
    (recovered plan found) rest
