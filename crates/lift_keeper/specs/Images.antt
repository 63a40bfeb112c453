-- Which register an image reads as.
use Rattle.std.specs.Prelude.{◌≡◌, ◌⊎◌, ℕ, Bool, List}
use Rattle.lift_base.specs.declared.history.Entry.{Entry}
use Rattle.lift_base.specs.declared.history.Record.{Record}
use Rattle.lift_building.specs.Plan.{Plan, shape_of}
use Rattle.lift_disk.specs.Disk.{Image}
use Rattle.lift_register.specs.Register.{RegisterState, register_of}
use Rattle.lift_journal.specs.Journal.{ReadsAs}
use Rattle.lift_journal.specs.Layout.{Picks, used}
use Rattle.lift_keeper.specs.Recovery.{IsRegisterOf}

-- the image is a journal of the building; it reads as a checkpoint and entries that fit, and this
-- is their register
pub record IsImageOf (plan : Plan) (register : RegisterState) (image : Image) : Type 0 where
  pub half : ℕ
  pub base : List Record
  pub entries : List Record
  pub reads : ReadsAs (shape_of plan half) base entries image
  pub is : IsRegisterOf plan base entries register

-- the image reads as this register, or as the one with this batch
abbrev pub IsInDoubt : Plan → RegisterState → List Entry → Image → Type 0
IsInDoubt plan register batch image = IsImageOf plan register image
    ⊎ IsImageOf plan (register_of register batch) image

-- the image reads as this register, with this many sectors in a half: this half is picked, and this
-- many of its sectors are used
pub record IsImageIn (plan : Plan) (half : ℕ) (is_in_second_half : Bool) (taken : ℕ)
    (register : RegisterState) (image : Image) : Type 0 where
  pub found : IsImageOf plan register image
  pub sectors : found.half ≡ half
  pub picks : Picks is_in_second_half image
  pub counts : taken ≡ used found.reads.batches
