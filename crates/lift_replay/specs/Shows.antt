-- Which group a script's clerk and terminals are.
use Rattle.std.specs.Prelude.{ℕ, suc, ◌≡◌, ◌<◌, true, false, List, [], ◌∷◌, ◌++◌, length, Option}
use Rattle.std.specs.Prelude.{Some, None}
use Rattle.lift_building.specs.Plan.{Plan}
use Rattle.lift_disk.specs.Disk.{DiskState, Image, MayLeave, IsArmedWith}
use Rattle.lift_disk.specs.Faults.{AllAfter, FusedDisk, IfArmed, fuse_state_of}
use Rattle.lift_disk.specs.Outcomes.{IsLeftBy}
use Rattle.lift_disk.specs.declared.outcome.Outcome.{Outcome}
use Rattle.lift_desk.specs.declared.words.Ask.{Ask}
use Rattle.lift_desk.specs.declared.view.TerminalView.{TerminalView}
use Rattle.lift_desk.specs.declared.view.ClerkView.{ClerkView}
use Rattle.lift_desk.specs.Words.{ask_word}
use Rattle.lift_desk.specs.Spelled.{IsAsk}
use Rattle.lift_desk.specs.Seats.{TerminalSeat, ClerkPlace, view_at}
use Rattle.lift_keeper.specs.Images.{IsImageIn}
use Rattle.lift_keeper.specs.Keeper.{KeeperView}
use Rattle.lift_replay.specs.Group.{Asking, ScriptGroup, FailedBatch, Found, asking_at}
use Rattle.lift_replay.specs.Group.{state_to_decide_on, half, left_by}
use Rattle.lift_replay.specs.Terminals.{seat_at}
use Rattle.lift_replay.specs.Told.{ScriptClerk}

-- all that the terminal asked is taken, or all but the ask that waits
abbrev pub WaitsFor : Option Ask → TerminalView → ClerkView → Type 0
WaitsFor None seat place = seat.asked ≡ place.taken
WaitsFor (Some ask) seat place =
    IsAsk ask × (seat.asked ≡ place.taken ++ ask_word (suc (length place.taken)) ask.number ask.body
    ∷ [])

-- The clerk was told of all that the terminal asked, has answered all that it took, and the
-- terminal was told of all of it, and has heard it.
pub record IsInStep (asking : Asking) (seat : TerminalView) (place : ClerkView) : Type 0 where
  pub turns : length seat.asked ≡ asking.turns
  pub told : place.told ≡ seat.asked
  pub told_answers : seat.told ≡ place.answered
  pub heard : seat.heard ≡ place.answered
  pub even : length place.answered ≡ length place.taken
  pub waits : WaitsFor asking.waiting seat place

-- what is kept of each terminal is so of its seat and of the clerk's
pub record AreInStep (terminals : List Asking) (seats : List TerminalSeat)
    (places : List ClerkPlace) : Type 0 where
  pub seat_count : length seats ≡ length terminals
  pub place_count : length places ≡ length terminals
  pub own : (t : ℕ) → t < length terminals → (seat_at seats t).terminal ≡ t
  pub each : (t : ℕ) → t < length terminals
      → IsInStep (asking_at terminals t) (seat_at seats t).view (view_at places t)

-- the image is a journal of the building, in a half of a script's disk, with what was found
abbrev pub IsFound : Plan → Found → Image → Type 0
IsFound plan found image = IsImageIn plan half found.is_in_second_half found.used found.register
    image

-- of the calls to come just those after this many fail, and no growth was refused
pub record IsFused (passing : Option ℕ) (disk : DiskState) : Type 0 where
  pub armed : IsArmedWith (IfArmed AllAfter passing disk.calls) disk
  pub short : disk.is_short ≡ false

-- what each cut leaves
abbrev pub IsCutAs : Plan → ScriptGroup → DiskState → Type 0
IsCutAs plan g disk = (outcome : Outcome) (image : Image) → IsLeftBy outcome disk image
    → MayLeave disk image → IsFound plan (left_by outcome g) image

-- While nothing has failed the keeper stands there; after that each cut leaves what the failed
-- commit's calls say.
abbrev pub Stands : Option FailedBatch → Plan → ScriptGroup → KeeperView FusedDisk → Type 0
Stands None plan g keeper = (keeper.writer.is_broken ≡ false)
    × (keeper.state ≡ state_to_decide_on g)
    × (keeper.writer.used ≡ g.safe.used) × (keeper.writer.is_in_second_half ≡ g.safe.is_in_second_half)
    × IsFused g.passing (fuse_state_of keeper.writer.device)
Stands (Some failed) plan g keeper = (keeper.writer.is_broken ≡ true)
    × IsCutAs plan g (fuse_state_of keeper.writer.device)

-- the keeper has what the group has, on a device that stands as the group says
pub record IsKeeperOf (plan : Plan) (g : ScriptGroup) (keeper : KeeperView FusedDisk) : Type 0 where
  pub same_plan : keeper.writer.plan ≡ plan
  pub half_is : keeper.writer.half ≡ half
  pub register : keeper.writer.register ≡ g.safe.register
  pub stands : Stands g.failed plan g keeper

-- The clerk and the terminals are this group.
pub record Shows (plan : Plan) (g : ScriptGroup) (clerk : ScriptClerk)
    (seats : List TerminalSeat) : Type 0 where
  pub keeper : IsKeeperOf plan g clerk.keeper
  pub terminals : AreInStep g.terminals seats clerk.seat
