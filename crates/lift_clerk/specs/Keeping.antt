-- What is kept, over power cuts, of all that was answered.
use Rattle.std.specs.Prelude.{◌⊎◌, List, ◌++◌, All}
use Rattle.std.specs.List.{flat_map}
use mathlib.Core.List.{IsPrefix}
use Rattle.lift_base.specs.declared.history.Entry.{Entry}
use Rattle.lift_building.specs.Plan.{Plan}
use Rattle.lift_disk.specs.Disk.{DiskState, Image, LeavesNow, LeavesOnly}
use Rattle.lift_register.specs.Register.{RegisterState, register_of}
use Rattle.lift_keeper.specs.Images.{IsImageOf, IsInDoubt}
use Rattle.lift_keeper.specs.Writer.{WriterView}
use Rattle.lift_world.specs.declared.event.Taken.{Taken}
use Rattle.lift_world.specs.World.{acknowledged_in}
use Rattle.lift_world.specs.Headline.{IsHeld, StillNames}
use Rattle.lift_clerk.specs.Steps.{GroupState, MayAdd}
use Rattle.lift_clerk.specs.Machine.{kept_after}
use Rattle.lift_clerk.specs.History.{History, BeginsOver}

-- The image keeps these entries and answers. It reads as the register of the entries over what the
-- journal began with, which holds each entry that a `Car` or `Stopped` among the answers
-- acknowledged, and still names the car of each letter given; and whoever begins over it goes on with
-- a history of just these.
pub record ImageKeeps (D : Type 0) (plan : Plan) (base : RegisterState) (entries : List Entry)
    (given : List Taken) (left : Image) : Type 0 where
  pub reads : IsImageOf plan (register_of base entries) left
  pub holds : All (IsHeld base entries) (flat_map (acknowledged_in plan) given)
  pub letters : All (StillNames base entries) (flat_map (acknowledged_in plan) given)
  pub goes_on : (clerk : GroupState D) → BeginsOver plan left clerk
      → History base clerk entries given

-- It keeps what is safe, or that with the batch on its way.
abbrev pub KeepsEither : Type 0 → Plan → RegisterState → (safe batch : List Entry) → List Taken → Image → Type 0
KeepsEither D plan base safe batch given left = ImageKeeps D plan base safe given left
    ⊎ ImageKeeps D plan base (safe ++ batch) given left

-- It keeps some prefix of what was accepted.
abbrev pub KeepsPrefix : Type 0 → Plan → RegisterState → (accepted : List Entry) → List Taken → Image → Type 0
KeepsPrefix D plan base accepted given left = (entries : List Entry) × IsPrefix entries accepted
    × ImageKeeps D plan base entries given left

-- It keeps all these answers, with some entries, and maybe later answers too.
abbrev pub KeepsAll : Type 0 → Plan → RegisterState → List Taken → Image → Type 0
KeepsAll D plan base given left = (entries : List Entry) × (now : List Taken) × IsPrefix given now
    × ImageKeeps D plan base entries now left

-- Each image that a crash now may leave reads as the register that is safe, or as that with the
-- batch in doubt. Every writer promises that of itself.
abbrev pub LeavesSafe : {D : Type 0} → WriterView D → DiskState → Type 0
LeavesSafe writer disk = LeavesNow disk (IsInDoubt writer.plan writer.register writer.doubt)

-- Whatever has happened, each image that a crash may leave now or at any moment of the next call
-- keeps what was given: with what is safe, or with that and the batch on its way.
abbrev pub CrashesKeep : Type 0 → Type 0
CrashesKeep D =
    (base : RegisterState) (group : GroupState D) (safe batch : List Entry) (given : List Taken) (left : Image)
    → History base group safe given → MayAdd group.keeper batch
    → (doubt : IsInDoubt group.keeper.writer.plan group.keeper.writer.register batch left)
    → ImageKeeps D group.keeper.writer.plan base (kept_after safe batch doubt) given left

-- One call, whose device was so before it and is so after it, with at most this batch on its way.
-- Each image that a crash at any moment of it may leave keeps what was safe before it, or that with
-- the batch, and all that was given before, whatever had happened before it.
abbrev pub MomentsStand : {D : Type 0} → GroupState D → List Entry → DiskState → DiskState → Type 0
MomentsStand {D} before batch old new = (base : RegisterState) (safe : List Entry)
    (given : List Taken) → History base before safe given
    → LeavesOnly old new (KeepsEither D before.keeper.writer.plan base safe batch given)

-- It does wherever each image that may be left reads as the register that was safe, or as that with
-- the batch.
abbrev pub MomentsKeep : (D : Type 0) → (D → DiskState) → Type 0
MomentsKeep D state =
    (before : GroupState D) (batch : List Entry) (device : D) → MayAdd before.keeper batch
    → LeavesOnly (state before.keeper.writer.device) (state device)
    (IsInDoubt before.keeper.writer.plan before.keeper.writer.register batch)
    → MomentsStand before batch (state before.keeper.writer.device) (state device)

-- One call leads from one group to another, with at most this batch on its way. So much more is safe
-- after it, and just these commands were answered in it. What was given before is kept at each
-- moment of it, and all of it from its end on.
pub record AdvancesFrom {D : Type 0} (base : RegisterState) (before : GroupState D) (safe : List Entry)
    (given : List Taken) (after : GroupState D) (batch more : List Entry) (replied : List Taken)
    (old new : DiskState) : Type 0 where
  pub history : History base after (safe ++ more) (given ++ replied)
  pub stands : LeavesOnly old new (KeepsEither D before.keeper.writer.plan base safe batch given)
  pub now : LeavesNow new (KeepsEither D after.keeper.writer.plan base (safe ++ more)
      after.keeper.writer.doubt (given ++ replied))
