-- The flusher's turns in the machine's world of its group, with the terminals of its desk. Terminals
-- ask and hear meanwhile as at a whole clerk: what they do is an event whatever the group is.
use Rattle.std.specs.Prelude.{ℕ, ◌≡◌, Bool, true, false, List, [], ◌∷◌, ◌++◌, length, Option}
use Rattle.std.specs.Prelude.{Result, is_ok}
use Rattle.lift_base.specs.declared.history.Entry.{Entry}
use Rattle.lift_disk.specs.Disk.{DiskState}
use Rattle.lift_desk.specs.Seats.{ClerkPlace, with_looks_of}
use Rattle.lift_keeper.specs.declared.fault.KeeperFault.{KeeperFault}
use Rattle.lift_world.specs.declared.event.Event.{Event}
use Rattle.lift_world.specs.declared.event.Phase.TheVariants.{GateWritten}
use Rattle.lift_world.specs.declared.event.Taken.{Taken}
use Rattle.lift_world.specs.World.{World}
use Rattle.lift_world.specs.Turns.{failed_events}
use Rattle.lift_clerk.specs.Clerk.{ClerkState}
use Rattle.lift_clerk.specs.Steps.{group_of}
use Rattle.lift_clerk.specs.Machine.{events_of_turn, events_while_broken}
use Rattle.lift_clerk.specs.Group.{Terminals, TakesAsks}
use Rattle.lift_clerk.specs.Past.{IsPastOf, LeadsToPast}
use Rattle.lift_parts.specs.declared.counts.FlushCounts.{FlushCounts}
use Rattle.lift_parts.specs.Batch.{BatchState, commands_in}
use Rattle.lift_parts.specs.Flusher.{FlusherState}
use Rattle.lift_parts.specs.Turns.{IsFlush}
use Rattle.lift_parts.specs.History.{group_after, GoesOnTo}

-- The events of a flusher's turn: those of a turn of the machine with the batch that it received,
-- of one that the device fails, or of one after a fault; and none where it received nothing.
abbrev pub flush_events : List BatchState → Bool → Bool → List (Option ℕ) → ℕ → List Event
flush_events [] is_safe was_broken letters folds = []
flush_events (b ∷ batches) true was_broken letters folds =
    events_of_turn (commands_in b.commands) letters folds (length b.entries)
flush_events (b ∷ batches) false false letters folds =
    failed_events (commands_in b.commands) letters folds GateWritten (length b.entries)
flush_events (b ∷ batches) false true letters folds =
    events_while_broken (commands_in b.commands) letters

-- One turn leads on from this world by just these events, with what it adds to the history.
pub record FlushLeadsOn {D : Type 0} (f g : FlusherState D) (answer : Result FlushCounts KeeperFault)
    (w : World) (terminals : Terminals) (safe : List Entry) (given : List Taken) : Type 0 where
  pub received : List BatchState
  pub receives : g.end.received ≡ f.end.received ++ received
  pub goes_on : GoesOnTo f g w.base safe given
  pub letters : List (Option ℕ)
  pub leads : (folds : ℕ) → LeadsToPast w
      (flush_events received (is_ok answer) f.writer.is_broken letters folds) (group_after g)
      terminals (safe ++ goes_on.more) (given ++ goes_on.replied)

-- A flusher's turn is a step of its group's past, in each world that it may be in. By the desk's
-- rule what its seats took is a prefix of what terminals asked.
abbrev pub FlushesLeadOn : (D : Type 0) → (D → DiskState) → Type 0
FlushesLeadOn D state = (f g : FlusherState D) (answer : Result FlushCounts KeeperFault)
    → IsFlush state f g answer
    → (w : World) (terminals : Terminals) (safe : List Entry) (given : List Taken)
    → IsPastOf w (group_after f) terminals safe given → TakesAsks (group_after g) terminals
    → FlushLeadsOn f g answer w terminals safe given

-- A split of a clerk is no event,
abbrev pub SplitsPreservePasts : (D P : Type 0) → Type 0
SplitsPreservePasts D P = (w : World) (clerk : ClerkState D P) (f : FlusherState D)
    (terminals : Terminals) (safe : List Entry) (given : List Taken)
    → f.desk ≡ clerk.desk → f.seat ≡ clerk.seat → f.writer ≡ clerk.keeper.writer
    → (clerk.keeper.writer.is_broken ≡ false → f.end.state ≡ clerk.keeper.state)
    → IsPastOf w (group_of clerk) terminals safe given
    → IsPastOf w (group_after f) terminals safe given

-- and nor is a rejoining of its parts.
abbrev pub JoinsPreservePasts : (D P : Type 0) → Type 0
JoinsPreservePasts D P = (w : World) (clerk : ClerkState D P) (f : FlusherState D)
    (ahead : List ClerkPlace) (terminals : Terminals) (safe : List Entry) (given : List Taken)
    → clerk.desk ≡ f.desk → clerk.seat ≡ with_looks_of ahead f.seat
    → clerk.keeper.writer ≡ f.writer → clerk.keeper.state ≡ f.end.state
    → IsPastOf w (group_after f) terminals safe given
    → IsPastOf w (group_of clerk) terminals safe given
