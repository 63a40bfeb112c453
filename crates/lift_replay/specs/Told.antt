-- What an ask and a turn report, and how they leave the clerk and the terminals.
use Rattle.std.specs.Prelude.{ℕ, ◌≡◌, ◌⊎◌, ◌↔◌, ◌+◌, ◌<◌, ◌≤◌, true, false, List, [], ◌++◌, codes}
use Rattle.std.specs.Prelude.{length, slice_set, Option, Some, None}
use Rattle.lift_base.specs.declared.command.Body.{Body}
use Rattle.lift_disk.specs.Disk.{DiskState}
use Rattle.lift_disk.specs.Faults.{FusedDisk, fuse_state_of}
use Rattle.lift_policy.specs.Choices.{IsEtdChoice}
use Rattle.lift_policy.specs.declared.policies.Etd.{Etd}
use Rattle.lift_desk.specs.Seats.{TerminalSeat, ClerkPlace, Waits, view_at, clerk_with}
use Rattle.lift_desk.specs.Spelled.{IsAsk}
use Rattle.lift_desk.specs.Steps.{with_told_asks}
use Rattle.lift_journal.specs.Armed.{NoneFails, LastFails}
use Rattle.lift_keeper.specs.Writer.{IsFailedCommit, commit_call_count, commit_used, commit_second}
use Rattle.lift_clerk.specs.Clerk.{ClerkState}
use Rattle.lift_clerk.specs.Turn.{IsTurn, IsFailedTurn, IsBrokenTurn}
use Rattle.lift_clerk.specs.declared.counts.Counts.{Counts}
use Rattle.lift_replay.specs.Report.{told_text, turn_text, fault_text}
use Rattle.lift_replay.specs.Terminals.{seat_at, having_asked, told_seat, AreTold, AllHear}

-- the clerk of a script
abbrev pub ScriptClerk : Type 0
ScriptClerk = ClerkState FusedDisk Etd

-- a terminal has no turn left to ask with
abbrev pub IsSpent : TerminalSeat → Type 0
IsSpent seat = length seat.view.asked ≡ 1048575

-- The terminal asks this, and the clerk is told of it.
pub record HasAsked (seats after : List TerminalSeat) (places known : List ClerkPlace)
    (terminal number : ℕ) (body : Body) : Type 0 where
  pub asked : List TerminalSeat
  pub asks : asked ≡ slice_set seats terminal (having_asked (seat_at seats terminal) number body)
  pub in_range : IsAsk (record { number = number; body = body })
  pub seat : after ≡ slice_set asked terminal
      (told_seat (seat_at asked terminal) (view_at places terminal))
  pub knows : known ≡ clerk_with places terminal
      (with_told_asks (view_at places terminal) (seat_at asked terminal).view.asked)

-- A terminal asks, and nothing is reported. Where it still waits for an answer, or has used up its
-- turns, that is reported.
abbrev pub Asks : (seats after : List TerminalSeat) (places known : List ClerkPlace)
    → (terminal number : ℕ) → Body → List ℕ → Type 0
Asks seats after places known terminal number body text =
    (Waits (seat_at seats terminal).view × (after ≡ seats) × (known ≡ places)
    × (text ≡ told_text terminal number (codes "WAITING")))
    ⊎ (((¬ Waits (seat_at seats terminal).view) × IsSpent (seat_at seats terminal) × (after ≡ seats)
    × (known ≡ places) × (text ≡ told_text terminal number (codes "SPENT")))
    ⊎ ((¬ Waits (seat_at seats terminal).view) × (¬ IsSpent (seat_at seats terminal))
    × HasAsked seats after places known terminal number body × (text ≡ [])))

-- but for the clerk's seats nothing of it has changed
abbrev pub KeeperStays : (old new : ScriptClerk) → Type 0
KeeperStays old new = new ≡ record old { seat = new.seat }

-- what is said of the device of a clerk
abbrev pub device_of : ScriptClerk → DiskState
device_of clerk = fuse_state_of clerk.keeper.writer.device

-- the turn's batch is safe: none of its calls failed
pub record HasCommitted (old new : ScriptClerk) (accepted : ℕ) : Type 0 where
  pub was_whole : old.keeper.writer.is_broken ≡ false
  pub whole : new.keeper.writer.is_broken ≡ false
  pub register : new.keeper.writer.register ≡ new.keeper.state.register
  pub calls : (device_of new).calls
      ≡ (device_of old).calls + commit_call_count old.keeper.writer.register old.keeper.writer.used
      old.keeper.writer.half accepted
  pub used : new.keeper.writer.used
      ≡ commit_used old.keeper.writer.register old.keeper.writer.used old.keeper.writer.half
      accepted
  pub second : new.keeper.writer.is_in_second_half
      ≡ commit_second old.keeper.writer.is_in_second_half old.keeper.writer.used
      old.keeper.writer.half
      accepted
  pub none_fails : NoneFails (device_of old) (device_of new)

-- the turn's commit has failed: its last call did
pub record HasFailedCommit (old new : ScriptClerk) : Type 0 where
  pub was_whole : old.keeper.writer.is_broken ≡ false
  pub broken : new.keeper.writer.is_broken ≡ true
  pub register : new.keeper.writer.register ≡ old.keeper.writer.register
  pub calls : (device_of new).calls
      ≤ (device_of old).calls + commit_call_count old.keeper.writer.register old.keeper.writer.used
      old.keeper.writer.half (length new.keeper.state.batch)
  pub fails : IsFailedCommit old.keeper.writer.plan old.keeper.writer.half
      old.keeper.writer.is_in_second_half
      old.keeper.writer.used old.keeper.writer.register
      new.keeper.writer.doubt (device_of old) (device_of new)
  pub last_fails : LastFails (device_of old) (device_of new)

-- What a turn took and accepted, or fault 1 where the device failed it, or fault 5 while the
-- journal is broken. After a fault it isn't said how many asks were taken.
abbrev pub TurnTells : (old new : ScriptClerk) → (taken : Option ℕ) → List ℕ → Type 0
TurnTells old new taken text =
    ((counts : Counts) × IsTurn IsEtdChoice old new counts × HasCommitted old new counts.accepted
    × (text ≡ turn_text counts.taken counts.accepted) × (taken ≡ Some counts.taken))
    ⊎ ((IsFailedTurn IsEtdChoice old new × HasFailedCommit old new
    × (text ≡ fault_text (codes "turn") 1) × (taken ≡ None))
    ⊎ ((old.keeper.writer.is_broken ≡ true) × IsBrokenTurn old new
    × (text ≡ fault_text (codes "turn") 5) × (taken ≡ None)))

-- what a turn leaves as it was
pub record PlaceStays (old new : ScriptClerk) : Type 0 where
  pub plan : new.keeper.writer.plan ≡ old.keeper.writer.plan
  pub half : new.keeper.writer.half ≡ old.keeper.writer.half
  pub fuse : (call : ℕ) → (device_of new).calls < call → (device_of new).fails_at call
      ↔ (device_of old).fails_at call

-- what a turn reports, and below it what each terminal hears, by rising terminal: all that wait are
-- told before what was answered
pub record OutcomeTells (old new : ScriptClerk) (seats after : List TerminalSeat)
    (text : List ℕ) : Type 0 where
  pub turned : ScriptClerk
  pub told : List TerminalSeat
  pub taken : Option ℕ
  pub head : List ℕ
  pub heard : List ℕ
  pub tells : TurnTells old turned taken head
  pub place : PlaceStays old turned
  pub knows : AreTold taken seats told turned.seat new.seat
  pub rest : KeeperStays turned new
  pub hear : AllHear told after heard
  pub shown : text ≡ head ++ heard

-- the clerk and the terminals are as before
pub record ScriptRests (old new : ScriptClerk) (seats after : List TerminalSeat) : Type 0 where
  pub clerk : new ≡ old
  pub terminals : after ≡ seats
