-- What a line may do to the group's device: its words, what it does, and what it reports.
use Rattle.std.specs.Prelude.{ℕ, ◌≡◌, ◌<◌, ◌≤◌, List, [], ◌∷◌, codes, Option, Some, None}
use Rattle.std.specs.Fmt.{decimal}
use Rattle.lift_building.specs.Plan.{Plan}
use Rattle.lift_disk.specs.Disk.{IsUnchanged, IsArmedWith}
use Rattle.lift_disk.specs.Faults.{AllAfter, fuse_state_of}
use Rattle.lift_disk.specs.declared.outcome.Outcome.{Outcome}
use Rattle.lift_disk.specs.declared.outcome.Outcome.TheVariants.{Keep, Lose, Fill}
use Rattle.lift_register.specs.Prelude.{open_count}
use Rattle.lift_replay.specs.declared.device_action.DeviceAction.{DeviceAction}
use Rattle.lift_replay.specs.declared.device_action.DeviceAction.TheVariants.{Fuse, Cut}
use Rattle.lift_replay.specs.Group.{ScriptGroup, left_by, recovered}
use Rattle.lift_replay.specs.Report.{cut_text}
use Rattle.lift_replay.specs.Told.{ScriptClerk}

-- these words say what becomes of the sectors that weren't safe
abbrev pub SayOutcome : List (List ℕ) → Outcome → Type 0
SayOutcome words Keep = words ≡ codes "keep" ∷ []
SayOutcome words Lose = words ≡ codes "lose" ∷ []
SayOutcome words (Fill byte) = (byte < 256) × (words ≡ codes "fill" ∷ decimal byte ∷ [])

-- these words ask for this
abbrev pub AskToDo : List (List ℕ) → DeviceAction → Type 0
AskToDo words (Fuse calls) = (calls ≤ 1000000) × (words ≡ codes "fuse" ∷ decimal calls ∷ [])
AskToDo words (Cut outcome) =
    (last : List (List ℕ)) × SayOutcome last outcome × (words ≡ codes "cut" ∷ last)

-- what is read from these words, and none exactly where they ask for none
abbrev pub AreReadAsAction : List (List ℕ) → Option DeviceAction → Type 0
AreReadAsAction words (Some action) = AskToDo words action
AreReadAsAction words None = (action : DeviceAction) → AskToDo words action → ⊥

-- The device of the clerk is armed to fail every call after this many, and nothing else changes.
pub record IsArmed (calls : ℕ) (old new : ScriptClerk) : Type 0 where
  pub armed : IsArmedWith (AllAfter calls (fuse_state_of old.keeper.writer.device).calls)
      (fuse_state_of new.keeper.writer.device)
  pub unchanged : IsUnchanged (fuse_state_of old.keeper.writer.device)
      (fuse_state_of new.keeper.writer.device)
  pub rest : new ≡ record old { keeper = record old.keeper { writer = record old.keeper.writer { device = new.keeper.writer.device } } }

-- what it does to the clerk; the power is cut once the lines at this desk have ended
abbrev pub DoesToDevice : DeviceAction → (old new : ScriptClerk) → Type 0
DoesToDevice (Fuse calls) old new = IsArmed calls old new
DoesToDevice (Cut outcome) old new = new ≡ old

-- what the power cut makes of what wasn't safe, if it is one
abbrev pub cut_by : DeviceAction → Option Outcome
cut_by (Fuse calls) = None
cut_by (Cut outcome) = Some outcome

-- what it reports
abbrev pub action_text : ScriptGroup → DeviceAction → List ℕ
action_text g (Fuse calls) = []
action_text g (Cut outcome) = cut_text (open_count (left_by outcome g).register)

-- what it makes of the group
abbrev pub after_action : Plan → ScriptGroup → DeviceAction → ScriptGroup
after_action plan g (Fuse calls) = record g { passing = Some calls }
after_action plan g (Cut outcome) = recovered plan (left_by outcome g)
