-- What is true of all scripts.
use Rattle.std.specs.Prelude.{ℕ, ◌≡◌, List}
use Rattle.lift_building.specs.Plan.{Plan}
use Rattle.lift_replay.specs.declared.lines.Verdict.{Verdict}
use Rattle.lift_replay.specs.Group.{ScriptGroup}
use Rattle.lift_replay.specs.Replaying.{IsReport}
use Rattle.lift_replay.specs.Running.{TellsLines}

-- There is a text with a verdict of which this is so, and no other.
abbrev pub HasOne : (List ℕ → Verdict → Type 0) → Type 0
HasOne IsSuch = (text : List ℕ) × (verdict : Verdict) × IsSuch text verdict
    × ((other : List ℕ) (second : Verdict) → IsSuch other second
    → (other ≡ text) × (second ≡ verdict))

-- Any lines report one text of a group of a building, and have one verdict.
abbrev pub EachTellsOneText : Type 0
EachTellsOneText = (plan : Plan) (count : ℕ) (g : ScriptGroup) (script : List (List ℕ))
    → HasOne (TellsLines plan count g script)

-- Any bytes, as a script, have one report, and one verdict.
abbrev pub EachHasOneReport : Type 0
EachHasOneReport = (bytes : List ℕ) → HasOne (IsReport bytes)
