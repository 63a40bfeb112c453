-- What the machine of events knows, and what a recovery may give.
use Rattle.std.specs.Prelude.{ℕ, ◌==◌, ◌-◌, Bool, true, false, List, [], ◌∷◌, ◌++◌, take, drop}
use Rattle.std.specs.Prelude.{replicate, Option, Some, None}
use Rattle.std.specs.List.{flat_map}
use Rattle.lift_base.specs.declared.limits.TheConstants.{MOST_CARS}
use Rattle.lift_base.specs.declared.travel.Position.{Position}
use Rattle.lift_base.specs.declared.history.Entry.{Entry}
use Rattle.lift_base.specs.declared.history.Entry.TheVariants.{Allot, Stop as Stopping}
use Rattle.lift_base.specs.declared.command.Body.{Body}
use Rattle.lift_base.specs.declared.command.Body.TheVariants.{Call, Stop}
use Rattle.lift_base.specs.declared.command.Reply.{Reply}
use Rattle.lift_base.specs.declared.command.Reply.TheVariants.{Car, Stopped}
use Rattle.lift_building.specs.Plan.{Plan}
use Rattle.lift_register.specs.Register.{RegisterState, register_of}
use Rattle.lift_policy.specs.Terminals.{kiosk_floor}
use Rattle.lift_policy.specs.Step.{State}
use Rattle.lift_policy.specs.declared.command.Command.{Command}
use Rattle.lift_world.specs.declared.event.Kept.{Kept}
use Rattle.lift_world.specs.declared.event.Kept.TheVariants.{Safe, WithBatch}
use Rattle.lift_world.specs.declared.event.Phase.{Phase}
use Rattle.lift_world.specs.declared.event.Phase.TheVariants.{Idle, Writing, Synced, GateWritten}
use Rattle.lift_world.specs.declared.event.Power.{Power}
use Rattle.lift_world.specs.declared.event.Power.TheVariants.{Running, Broken, Off}
use Rattle.lift_world.specs.declared.event.Taken.{Taken}
use Rattle.lift_world.specs.declared.event.Answer.{Answer}

-- a sealed batch: its commands with their replies, and how many entries were accepted up to its end
pub record SealedBatch : Type 0 where
  pub commands : List Taken
  pub upto : ℕ

-- what is known between two events
pub record World : Type 0 where
  pub building : Plan
  pub base : RegisterState  -- what the journal held before the first of these entries
  pub accepted : List Entry  -- all entries accepted since; a recovery sets it to what it recovered
  pub safe : ℕ  -- how many of them are safe
  pub sealed : ℕ  -- how many of them are in sealed batches
  pub flight : SealedBatch  -- the batch in flight, or in doubt
  pub phase : Phase  -- how far it is
  pub queue : List SealedBatch  -- the sealed batches after it, the next one first
  pub power : Power
  pub positions : List (Option Position)
  pub taken : List Taken  -- taken and not sealed
  pub due : List Taken  -- to be answered, with the replies that they get
  pub asked : List Command
  pub answered : List Answer
  pub heard : List Answer
  pub given : List Taken  -- each command that was answered, with that answer, over all power cuts

abbrev pub no_batch : SealedBatch
no_batch = record { commands = []; upto = 0 }

-- no car has reported its position
abbrev pub unplaced : List (Option Position)
unplaced = replicate MOST_CARS None

-- a fresh group over a journal of this register
abbrev pub start : Plan → RegisterState → World
start building base = record {
  building = building;
  base = base;
  accepted = [];
  safe = 0;
  sealed = 0;
  flight = no_batch;
  phase = Idle;
  queue = [];
  power = Running;
  positions = unplaced;
  taken = [];
  due = [];
  asked = [];
  answered = [];
  heard = [];
  given = [];
}

abbrev pub is_running : Power → Bool
is_running Running = true
is_running Broken = false
is_running (Off kept) = false

abbrev pub is_broken : Power → Bool
is_broken Running = false
is_broken Broken = true
is_broken (Off kept) = false

abbrev pub is_off : Power → Bool
is_off Running = false
is_off Broken = false
is_off (Off kept) = true

abbrev pub is_idle : Phase → Bool
is_idle Idle = true
is_idle (Writing n) = false
is_idle Synced = false
is_idle GateWritten = false

abbrev pub is_synced : Phase → Bool
is_synced Idle = false
is_synced (Writing n) = false
is_synced Synced = true
is_synced GateWritten = false

abbrev pub is_gate_written : Phase → Bool
is_gate_written Idle = false
is_gate_written (Writing n) = false
is_gate_written Synced = false
is_gate_written GateWritten = true

-- how many writes were made before the first sync, if that is the phase
abbrev pub written : Phase → Option ℕ
written Idle = None
written (Writing n) = Some n
written Synced = None
written GateWritten = None

abbrev pub same_kept : Kept → Kept → Bool
same_kept Safe Safe = true
same_kept Safe WithBatch = false
same_kept WithBatch Safe = false
same_kept WithBatch WithBatch = true

abbrev pub asks : ℕ → Command → Bool
asks terminal command = command.terminal == terminal

abbrev pub is_taken_of : ℕ → Taken → Bool
is_taken_of terminal taken = taken.terminal == terminal

abbrev pub is_answer_to : ℕ → Answer → Bool
is_answer_to terminal answer = answer.terminal == terminal

-- what decisions read: the register of all that is accepted, also of what isn't safe yet, and the
-- batch so far
abbrev pub state_at : RegisterState → List Entry → ℕ → List (Option Position) → State
state_at base accepted sealed positions =
    record {
      register = register_of base accepted;
      positions = positions;
      batch = drop sealed accepted;
    }

abbrev pub state_of : World → State
state_of w = state_at w.base w.accepted w.sealed w.positions

-- the entries that are safe, and those of the batch in flight
abbrev pub safe_list : World → List Entry
safe_list w = take w.safe w.accepted

abbrev pub batch_in_flight : World → List Entry
batch_in_flight w = take (w.flight.upto - w.safe) (drop w.safe w.accepted)

-- what a power cut, or a reopening after a fault, may keep: the batch only where its gate was
-- written
abbrev pub may_keep : World → Kept → Bool
may_keep w Safe = true
may_keep w WithBatch = is_gate_written w.phase

abbrev pub outcome : World → Kept → List Entry
outcome w Safe = safe_list w
outcome w WithBatch = safe_list w ++ batch_in_flight w

-- the entry that a reply acknowledges
abbrev pub acknowledged_by : Plan → ℕ → ℕ → Body → Reply → List Entry
acknowledged_by building terminal number (Call to party) (Car car) =
    Allot terminal number (kiosk_floor building terminal) to car party ∷ []
acknowledged_by building terminal number (Stop floor dir) (Stopped next) = Stopping terminal number floor dir ∷ []
acknowledged_by building terminal number _ _ = []

abbrev pub acknowledged_in : Plan → Taken → List Entry
acknowledged_in building c = acknowledged_by building c.terminal c.number c.body c.reply

-- the entries that a stored `Car` or `Stopped`, new or repeated, acknowledges
abbrev pub acknowledged : World → List Entry
acknowledged w = flat_map (acknowledged_in w.building) w.given
