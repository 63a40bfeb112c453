-- What can have happened to a group, at most, over all its clerks and their parts, faults,
-- reopenings and power cuts.
use Rattle.std.specs.Prelude.{◌≡◌, Bool, List, [], ◌++◌}
use Rattle.lift_base.specs.declared.history.Entry.{Entry}
use Rattle.lift_building.specs.Plan.{Plan, IsBuilding}
use Rattle.lift_disk.specs.Disk.{Image}
use Rattle.lift_register.specs.Register.{RegisterState}
use Rattle.lift_keeper.specs.Images.{IsImageOf, IsInDoubt}
use Rattle.lift_world.specs.declared.event.Taken.{Taken}
use Rattle.lift_world.specs.World.{World, safe_list}
use Rattle.lift_world.specs.Headline.{IsOfBuilding}
use Rattle.lift_clerk.specs.Clerk.{ClerkState}
use Rattle.lift_clerk.specs.Steps.{GroupState, TurnAdds, ClerkRests, MayAdd}
use Rattle.lift_clerk.specs.Machine.{IsMachineOf, WaitsNowhere, ClerkReopens, IsNewClerk}
use Rattle.lift_clerk.specs.Machine.{kept_after}

-- a clerk at a new desk, over a keeper of this building that has opened a device with this image,
-- which reads as the keeper's register and as no other
pub record BeginsOver {D P : Type 0} (plan : Plan) (image : Image)
    (clerk : ClerkState D P) : Type 0 where
  pub begins : IsNewClerk clerk
  pub same_plan : clerk.keeper.writer.plan ≡ plan
  pub reads : IsImageOf plan clerk.keeper.writer.register image
  pub only : (other : RegisterState) → IsImageOf plan other image
      → other ≡ clerk.keeper.writer.register

-- What can have happened by now, at most, over a journal that held this register when it began: the
-- group as it is, the entries that are safe since, in the order in which they were accepted, and each
-- command that was ever answered, with its answer. Of a batch that a power cut interrupts it says
-- that its commands may have been asked, and not that they were.
pub data History {D : Type 0} (base : RegisterState) : GroupState D → List Entry → List Taken
    → Type 0 where
  -- It begins at a new desk, over a journal that holds a register of the building.
  Began : {group : GroupState D} → IsBuilding group.keeper.writer.plan
      → IsOfBuilding group.keeper.writer.plan base → IsNewClerk group
      → group.keeper.writer.register ≡ base → History base group [] []
  -- A turn adds to what is safe and to what was answered, whether it fails or not.
  Turned : {before after : GroupState D} {safe batch more : List Entry} {given replied : List Taken}
      {fails : Bool} → History base before safe given → TurnAdds before after fails batch more replied
      → History base after (safe ++ more) (given ++ replied)
  -- A reopening keeps what was safe, or that and the batch in doubt.
  Reopened : {before after : GroupState D} {safe : List Entry} {given : List Taken}
      → History base before safe given → (r : ClerkReopens before after)
      → History base after (kept_after safe before.keeper.writer.doubt r.one_of) given
  -- Nothing happens to it: a reopening is refused or fails, the device or the clerk is told
  -- something, a clerk is split, or is made of parts again.
  Rested : {before after : GroupState D} {safe : List Entry} {given : List Taken}
      → History base before safe given → ClerkRests before after → History base after safe given
  -- The power is cut at any moment, with at most this batch on its way, of commands that may have
  -- been asked, which leaves this image. A clerk begins over it.
  Cut : {before after : GroupState D} {safe batch : List Entry} {given : List Taken}
      {image : Image} → History base before safe given → MayAdd before.keeper batch
      → (doubt : IsInDoubt before.keeper.writer.plan before.keeper.writer.register batch image)
      → BeginsOver before.keeper.writer.plan image after
      → History base after (kept_after safe batch doubt) given

-- Some run of the machine over this register leads to a world of this clerk's. No ask waits there, just these entries
-- are safe, and just these commands were answered.
pub record IsRunOf {D P : Type 0} (base : RegisterState) (clerk : ClerkState D P)
    (safe : List Entry) (given : List Taken) : Type 0 where
  pub world : World
  pub base_is : world.base ≡ base
  pub shows : IsMachineOf world clerk
  pub waits : WaitsNowhere world
  pub safe_is : safe_list world ≡ safe
  pub given_is : world.given ≡ given
  pub building : IsBuilding clerk.keeper.writer.plan
  pub of_building : IsOfBuilding clerk.keeper.writer.plan base

abbrev pub HistoriesAreRuns : Type 0 → Type 0
HistoriesAreRuns D = (base : RegisterState) (group : GroupState D) (safe : List Entry)
    (given : List Taken)
    → History base group safe given → IsRunOf base group safe given
