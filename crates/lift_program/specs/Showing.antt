-- The open calls of a group, begun again from its image.
use Rattle.std.specs.Prelude.{ℕ, ◌≡◌, ◌⊎◌, Bool, List, take, Option}
use Rattle.std.specs.Io.KnownBytes.{Appends}
use Rattle.lift_building.specs.Plan.{Plan}
use Rattle.lift_disk.specs.Disk.{DiskState}
use Rattle.lift_keeper.specs.Reopening.{Reopens}
use Rattle.lift_register.specs.Balanced.{IsBalanced}
use Rattle.lift_register.specs.Belongs.{BelongsTo}
use Rattle.lift_register.specs.Register.{RegisterState}
use Rattle.lift_register.specs.WellFormed.{IsWellFormed}
use Rattle.lift_replay.specs.Report.{register_text}
use Rattle.lift_program.specs.Images.{CommandFiles}
use Rattle.lift_program.specs.Stages.{HasOpened}

-- The recovery has opened a device of the building: this is the register that it gave, and it is
-- possible in the building.
pub record RecoversRegister (plan : Plan) (old new : DiskState)
    (register : RegisterState) : Type 0 where
  pub half : ℕ
  pub is_in_second_half : Bool
  pub used : ℕ
  pub reopens : Reopens plan old new register half is_in_second_half used
  pub lawful : IsWellFormed register
  pub belongs : BelongsTo plan register
  pub balanced : IsBalanced register

-- The open calls of the register that the recovery gave were written so.
pub record ShowsRegister (plan : Plan) (old new : DiskState) (is_written : List ℕ → Type 0) : Type 0 where
  pub register : RegisterState
  pub recovers : RecoversRegister plan old new register
  pub written : is_written (register_text register)

-- a prefix of this was written
abbrev pub WritesFront : (before after : Option (List ℕ)) → List ℕ → Type 0
WritesFront before after text = (count : ℕ) × Appends before after (take count text)

-- A prefix of the open calls of a journal was written, of the file that was opened at this path, and of
-- a building that the text describes which was read from its file.
pub record ShowsPrefixOfFile (files : CommandFiles) (image building : List ℕ)
    (before after : Option (List ℕ)) : Type 0 where
  pub from : HasOpened files building (files.image.is_to_be_shown image)
  pub left : files.image.Shown
  pub front : ShowsRegister from.plan (files.image.shown_state from.opened) (files.image.shown_state left)
      (WritesFront before after)

-- nothing was written, or such a prefix
abbrev pub ShowsPart : CommandFiles → (image building : List ℕ)
    → (before after : Option (List ℕ)) → Type 0
ShowsPart files image building before after =
    (after ≡ before) ⊎ ShowsPrefixOfFile files image building before after

-- The open calls of the journal in the file that was opened at this path were written, of a building
-- that the text describes which was read from its file. Of the image's no call failed, and none was a
-- write.
pub record IsShown (files : CommandFiles) (image building : List ℕ) (disk : files.image.Shown)
    (before after : Option (List ℕ)) : Type 0 where
  pub from : HasOpened files building (files.image.is_to_be_shown image)
  pub shows : ShowsRegister from.plan (files.image.shown_state from.opened) (files.image.shown_state disk)
      (Appends before after)
  pub only_read : files.image.is_only_read disk
