-- The report of a script, and its verdict, as a function of its bytes.
use Rattle.std.specs.Prelude.{ℕ, ◌≡◌, ◌⊎◌, ◌<◌, ◌≤◌, List, ◌++◌, codes, length, Option, IfSome}
use Rattle.std.specs.Str.{IsUtf8}
use Rattle.std.specs.Io.KnownBytes.{Appends}
use Rattle.lift_building.specs.Plan.{Plan}
use Rattle.lift_replay.specs.declared.lines.Verdict.{Verdict}
use Rattle.lift_replay.specs.declared.lines.Verdict.TheVariants.{Bad}
use Rattle.lift_replay.specs.Group.{first_group}
use Rattle.lift_replay.specs.Reading.{most_bytes}
use Rattle.lift_replay.specs.Report.{AppendsPrefix}
use Rattle.lift_replay.specs.Running.{TellsLines}
use Rattle.lift_replay.specs.Script.{RefusesBuilding, SaysBuilding}
use Rattle.lift_replay.specs.Source.{IsScript, LacksDivider}

-- a building that is refused, or what the lines report from an empty journal on
abbrev pub IsPartsReport : (building : List ℕ) → List (List ℕ) → List ℕ → Verdict → Type 0
IsPartsReport building script report verdict = (RefusesBuilding building report × (verdict ≡ Bad))
    ⊎ ((plan : Plan) × SaysBuilding building plan
    × TellsLines plan 0 (first_group plan) script report verdict)

abbrev pub IsTextReport : (text report : List ℕ) → Verdict → Type 0
IsTextReport text report verdict =
    (LacksDivider text × (report ≡ codes "NO SCRIPT\n") × (verdict ≡ Bad))
    ⊎ ((building : List ℕ) × (script : List (List ℕ)) × IsScript text building script
    × IsPartsReport building script report verdict)

-- The first of these that is so: it is too long, it is no UTF-8, it has no divider, its building is
-- refused, or else what its lines report.
abbrev pub IsReport : (bytes report : List ℕ) → Verdict → Type 0
IsReport bytes report verdict =
    ((most_bytes < length bytes) × (report ≡ codes "TOO LONG\n") × (verdict ≡ Bad))
    ⊎ (((length bytes ≤ most_bytes) × (¬ IsUtf8 bytes) × (report ≡ codes "NOT TEXT\n")
    × (verdict ≡ Bad))
    ⊎ ((length bytes ≤ most_bytes) × IsUtf8 bytes × IsTextReport bytes report verdict))

-- what was written is such a report, with this verdict
abbrev pub WritesReport : (List ℕ → Verdict → Type 0) → (before after : Option (List ℕ)) → Verdict
    → Type 0
WritesReport IsSuch before after verdict = (report : List ℕ) × IsSuch report verdict
    × Appends before after report

-- what was written is a prefix of such a report
abbrev pub WritesPrefix : (List ℕ → Verdict → Type 0) → (before after : Option (List ℕ)) → Type 0
WritesPrefix IsSuch before after = (report : List ℕ) × (verdict : Verdict) × IsSuch report verdict
    × AppendsPrefix before after report

-- What was written is the report of the input of a reader that has so much left; of one that doesn't
-- say, it may be any.
abbrev pub ReportsInput : (input before after : Option (List ℕ)) → Verdict → Type 0
ReportsInput input before after verdict = (bytes : List ℕ) × IfSome input (λ all. bytes ≡ all)
    × WritesReport (IsReport bytes) before after verdict

-- or a prefix of it
abbrev pub ReportsPrefix : (input before after : Option (List ℕ)) → Type 0
ReportsPrefix input before after = (bytes : List ℕ) × IfSome input (λ all. bytes ≡ all)
    × WritesPrefix (IsReport bytes) before after

-- What was written is the report of the bytes that came of a reader, and the verdict is that of it.
abbrev pub ReportsWhatCame : (old new : List ℕ) (before after : Option (List ℕ)) → Verdict → Type 0
ReportsWhatCame old new before after verdict = (bytes : List ℕ) × (new ≡ old ++ bytes)
    × WritesReport (IsReport bytes) before after verdict

-- or a prefix of it
abbrev pub ReportsPrefixOfWhatCame : (old new : List ℕ) (before after : Option (List ℕ)) → Type 0
ReportsPrefixOfWhatCame old new before after = (bytes : List ℕ) × (new ≡ old ++ bytes)
    × WritesPrefix (IsReport bytes) before after
