-- What is made before anybody is served.
use Rattle.std.specs.Prelude.{◌≡◌, ◌+◌, List, length}
use Rattle.atomic_table.specs.Seated.{TableId}
use Rattle.lift_base.specs.declared.history.Entry.{Entry}
use Rattle.lift_disk.specs.Disk.{DiskState}
use Rattle.lift_register.specs.Register.{RegisterState}
use Rattle.lift_desk.specs.Seats.{clerk_of, seats_from}
use Rattle.lift_keeper.specs.Keeper.{KeeperView}
use Rattle.lift_base.specs.declared.limits.TheConstants.{MOST_CARS}
use Rattle.lift_world.specs.declared.event.Taken.{Taken}
use Rattle.lift_clerk.specs.Clerk.{ClerkState}
use Rattle.lift_clerk.specs.History.{History}
use Rattle.lift_clerk.specs.Keeping.{LeavesSafe}
use Rattle.lift_clerk.specs.Steps.{group_of}
use Rattle.lift_parts.specs.Allocator.{AllocatorState}
use Rattle.lift_parts.specs.Flusher.{FlusherState, IsFlusher}
use Rattle.lift_parts.specs.History.{group_after}
use Rattle.lift_parts.specs.Parts.{AreParts}
use Rattle.lift_serve.specs.Lobby.{LobbyState, found_seats}

-- Both parts of a clerk with this policy over this keeper, at a desk with a seat for each terminal that its
-- building may have, 16 cars and its kiosks. It had taken and answered nothing there. A crash leaves what
-- the keeper says is safe, or that with its batch in doubt. What has happened to the clerk's group has
-- happened to the flusher's.
pub record IsNewGroup {D P : Type 0} (state : D → DiskState) (policy : P) (keeper : KeeperView D)
    (a : AllocatorState P) (f : FlusherState D) : Type 0 where
  pub clerk : ClerkState D P
  pub begins : clerk.keeper ≡ keeper
  pub unused : clerk.seat ≡ clerk_of clerk.desk
  pub policy_is : clerk.policy ≡ policy
  pub seats : length clerk.desk ≡ MOST_CARS + length keeper.writer.plan.kiosks
  pub leaves : LeavesSafe keeper.writer (state keeper.writer.device)
  pub parts : AreParts clerk a f
  pub first : IsFlusher f
  pub goes_on : (base : RegisterState) (safe : List Entry) (given : List Taken)
      → History base (group_of clerk) safe given → History base (group_after f) safe given

-- All seats of this desk wait in the lobby, with what this register knows of their terminals.
pub record IsFullLobby (register : RegisterState) (desk : List TableId)
    (lobby : LobbyState) : Type 0 where
  pub desk_is : lobby.desk ≡ desk
  pub all : lobby.places ≡ found_seats register desk (seats_from 0 desk)
