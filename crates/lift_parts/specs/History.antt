-- The flusher as a clerk: what it receives goes on from state to state, so what happens to it is a
-- history of its group, whatever the allocator does.
use Rattle.std.specs.Prelude.{◌≡◌, true, false, List, [], ◌++◌, map, Option, Result, if◌then◌else◌}
use Rattle.std.specs.List.{flat_map}
use Rattle.lift_base.specs.declared.history.Entry.{Entry}
use Rattle.lift_disk.specs.Disk.{DiskState, LeavesNow, LeavesOnly}
use Rattle.lift_register.specs.Register.{RegisterState}
use Rattle.lift_desk.specs.Seats.{ClerkPlace, with_looks_of}
use Rattle.lift_keeper.specs.declared.fault.KeeperFault.{KeeperFault}
use Rattle.lift_world.specs.declared.event.Taken.{Taken}
use Rattle.lift_world.specs.Next.{unknown_to}
use Rattle.lift_world.specs.Turns.{with_replies}
use Rattle.lift_clerk.specs.Clerk.{ClerkState}
use Rattle.lift_clerk.specs.Steps.{GroupState, group_of}
use Rattle.lift_clerk.specs.History.{History}
use Rattle.lift_clerk.specs.Keeping.{KeepsEither, LeavesSafe}
use Rattle.lift_parts.specs.declared.counts.FlushCounts.{FlushCounts}
use Rattle.lift_parts.specs.Batch.{BatchState, commands_in, replies_in, entries_of_batches}
use Rattle.lift_parts.specs.Flusher.{FlusherState, entries_received}
use Rattle.lift_parts.specs.Turns.{FlusherTurns, IsFlush}

-- The group as the flusher has it: a clerk of its seats and its writer, which shows what was
-- received.
abbrev pub group_after : {D : Type 0} → FlusherState D → GroupState D
group_after f = record {
  desk = f.desk;
  seat = f.seat;
  keeper = record { state = f.end.state; writer = f.writer };
  policy = tt;
}

-- the commands of these batches, with their replies
abbrev pub held_in : List BatchState → List Taken
held_in all = flat_map (λ b. with_replies (commands_in b.commands) (replies_in b.commands)) all

-- A group's history goes on by what a flusher's turns add. Of the batches that they received the first
-- are safe, and their commands have their replies; those after a fault are not, and theirs were answered
-- Unknown.
pub record GoesOnTo {D : Type 0} (f g : FlusherState D) (base : RegisterState)
    (safe : List Entry) (given : List Taken) : Type 0 where
  pub kept : List BatchState
  pub lost : List BatchState
  pub received : g.end.received ≡ f.end.received ++ (kept ++ lost)
  pub was_broken : f.writer.is_broken ≡ true → (kept ≡ []) × (g.writer.is_broken ≡ true)
  pub is_whole : g.writer.is_broken ≡ false → lost ≡ []
  pub more : List Entry
  pub replied : List Taken
  pub more_is : more ≡ entries_of_batches kept
  pub replied_is : replied ≡ held_in kept ++ map unknown_to (held_in lost)
  pub history : History base (group_after g) (safe ++ more) (given ++ replied)

-- One turn: the history goes on, and at each moment of the turn it stands, with the batch that was
-- received, or the one that a fault left in doubt. From its end on a crash leaves what keeps all of
-- it, where one before it left what was safe or in doubt.
pub record FlushStands {D : Type 0} (f g : FlusherState D) (base : RegisterState)
    (safe : List Entry) (given : List Taken) (old new : DiskState) : Type 0 where
  pub goes_on : GoesOnTo f g base safe given
  pub batch : List Entry
  pub is : batch ≡ (if f.writer.is_broken then f.writer.doubt else entries_received f.end g.end)
  pub stands : LeavesOnly old new (KeepsEither D f.writer.plan base safe batch given)
  pub now : LeavesSafe f.writer old → LeavesNow new (KeepsEither D g.writer.plan base
      (safe ++ goes_on.more) g.writer.doubt (given ++ goes_on.replied))

-- Whatever had happened before it: all that was given is kept at each moment, and what the turn gives
-- from its end on.
abbrev pub FlushKeeps : {D : Type 0} → (D → DiskState) → (f g : FlusherState D) → Type 0
FlushKeeps state f g = (base : RegisterState) (safe : List Entry) (given : List Taken)
    → History base (group_after f) safe given
    → FlushStands f g base safe given (state f.writer.device) (state g.writer.device)

-- So it is of each turn of a flusher,
abbrev pub FlushesStand : (D : Type 0) → (D → DiskState) → Type 0
FlushesStand D state = (f g : FlusherState D) (answer : Result FlushCounts KeeperFault)
    → IsFlush state f g answer → FlushKeeps state f g

-- and of any number of them the history goes on.
abbrev pub TurnsGoOn : (D : Type 0) → (D → DiskState) → Type 0
TurnsGoOn D state = (f g : FlusherState D) (first last : Option KeeperFault)
    → FlusherTurns state f first g last
    → (base : RegisterState) (safe : List Entry) (given : List Taken)
    → History base (group_after f) safe given → GoesOnTo f g base safe given

-- A clerk may be split: what has happened to it has happened to the flusher,
abbrev pub SplitsGoOn : (D P : Type 0) → Type 0
SplitsGoOn D P = (clerk : ClerkState D P) (f : FlusherState D) (base : RegisterState)
    (safe : List Entry) (given : List Taken) → f.desk ≡ clerk.desk → f.seat ≡ clerk.seat → f.writer ≡ clerk.keeper.writer
    → (clerk.keeper.writer.is_broken ≡ false → f.end.state ≡ clerk.keeper.state)
    → History base (group_of clerk) safe given → History base (group_after f) safe given

-- and of a clerk that is joined of both parts, and counts the looks of the seats ahead too.
abbrev pub JoinedGoOn : (D P : Type 0) → Type 0
JoinedGoOn D P = (clerk : ClerkState D P) (f : FlusherState D) (ahead : List ClerkPlace)
    (base : RegisterState) (safe : List Entry) (given : List Taken) → clerk.desk ≡ f.desk
    → clerk.seat ≡ with_looks_of ahead f.seat → clerk.keeper.writer ≡ f.writer
    → clerk.keeper.state ≡ f.end.state
    → History base (group_after f) safe given → History base (group_of clerk) safe given
