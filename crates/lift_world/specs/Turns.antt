-- Whole turns as lists of events.
use Rattle.std.specs.Prelude.{ℕ, ◌≡◌, ◌≢◌, ◌≤◌, ◌<◌, ◌==◌, ◌+◌, true, if◌then◌else◌, List, [], ◌∷◌}
use Rattle.std.specs.Prelude.{◌++◌, length, map, take, replicate, Option, Some, None, IsTrue}
use Rattle.std.specs.List.{AllByRecursion}
use Rattle.lift_base.specs.declared.travel.Position.{Position}
use Rattle.lift_base.specs.declared.command.Reply.{Reply}
use Rattle.lift_building.specs.Plan.{Plan}
use Rattle.lift_register.specs.Register.{RegisterState}
use Rattle.lift_policy.specs.Eligible.{any_eligible}
use Rattle.lift_policy.specs.Step.{State}
use Rattle.lift_policy.specs.Run.{Run, unknowns}
use Rattle.lift_policy.specs.declared.command.Command.{Command}
use Rattle.lift_world.specs.declared.event.Event.{Event}
use Rattle.lift_world.specs.declared.event.Event.TheVariants.{Take, Seal, Pull, Fold}
use Rattle.lift_world.specs.declared.event.Event.TheVariants.{Body as BodyWrite, FirstSync, Gate}
use Rattle.lift_world.specs.declared.event.Event.TheVariants.{SecondSync, Answer, Fault, Cut}
use Rattle.lift_world.specs.declared.event.Event.TheVariants.{Reopen}
use Rattle.lift_world.specs.declared.event.Kept.{Kept}
use Rattle.lift_world.specs.declared.event.Kept.TheVariants.{Safe, WithBatch}
use Rattle.lift_world.specs.declared.event.Taken.{Taken}
use Rattle.lift_world.specs.declared.event.Phase.{Phase}
use Rattle.lift_world.specs.declared.event.Phase.TheVariants.{Idle, Writing, Synced, GateWritten}
use Rattle.lift_world.specs.declared.event.Power.TheVariants.{Running, Broken}
use Rattle.lift_world.specs.World.{World, no_batch, unplaced, is_running, state_of, may_keep}
use Rattle.lift_world.specs.World.{outcome}
use Rattle.lift_world.specs.Next.{next, goes, sectors_for_body, answer_of, unknown_to, reopened}
use Rattle.lift_world.specs.Tie.{TakeFinds}

-- the asks of these commands stand, and no terminal is looked at twice
abbrev pub AreFound : World → List Command → Type 0
AreFound w [] = Unit {0}
AreFound w (c ∷ commands) =
    TakeFinds w c.terminal c × AllByRecursion (λ (d : Command). d.terminal ≢ c.terminal) commands
    × AreFound w commands

-- the commands with their replies
abbrev pub with_replies : List Command → List Reply → List Taken
with_replies [] replies = []
with_replies (c ∷ commands) [] = []
with_replies (c ∷ commands) (reply ∷ replies) =
    record { terminal = c.terminal; number = c.number; body = c.body; reply = reply }
    ∷ with_replies commands replies

-- the takes of a scan, with the car that each names
abbrev pub take_events : List Command → List (Option ℕ) → List Event
take_events [] letters = []
take_events (c ∷ commands) [] = []
take_events (c ∷ commands) (letter ∷ letters) =
    Take c.terminal letter ∷ take_events commands letters

-- the world after a scan
abbrev pub scanned : World → List Command → List Reply → State → World
scanned w commands replies state =
    record w {
      accepted = take w.sealed w.accepted ++ state.batch;
      positions = state.positions;
      taken = w.taken ++ with_replies commands replies;
    }

-- whatever a scan may answer by the rules, under any policy, its takes leave with some letters
abbrev pub RunsAreTakes : World → Type 0
RunsAreTakes w = (commands : List Command) (replies : List Reply) (state : State)
    → w.sealed ≤ length w.accepted → AreFound w commands
    → Run w.building any_eligible (state_of w) commands replies state
    → (letters : List (Option ℕ))
    × (goes (take_events commands letters) w ≡ Some (scanned w commands replies state))

-- between two turns: nothing is taken or on its way, and all that is accepted is safe
pub record IsAtRest (w : World) : Type 0 where
  pub running : is_running w.power ≡ true
  pub idle : w.phase ≡ Idle
  pub nothing_flies : w.flight ≡ no_batch
  pub nothing_queued : w.queue ≡ []
  pub nothing_taken : w.taken ≡ []
  pub nothing_due : w.due ≡ []
  pub all_sealed : w.sealed ≡ length w.accepted
  pub all_safe : w.safe ≡ length w.accepted

-- a group over a journal of this register: nothing was accepted, asked, answered or heard since, no
-- car has told its position, and nothing was ever given
pub record IsFresh (building : Plan) (base : RegisterState) (w : World) : Type 0 where
  pub same_building : w.building ≡ building
  pub same_base : w.base ≡ base
  pub nothing_accepted : w.accepted ≡ []
  pub no_car_placed : AllByRecursion (λ (p : Option Position). p ≡ None) w.positions
  pub nothing_asked : w.asked ≡ []
  pub nothing_answered : w.answered ≡ []
  pub nothing_heard : w.heard ≡ []
  pub nothing_given : w.given ≡ []

-- the device calls of a batch up to a phase, where it has this many writes before its first sync
abbrev pub calls_to : ℕ → Phase → List Event
calls_to writes Idle = []
calls_to writes (Writing n) = replicate n BodyWrite
calls_to writes Synced = replicate writes BodyWrite ++ FirstSync ∷ []
calls_to writes GateWritten = replicate writes BodyWrite ++ FirstSync ∷ Gate ∷ []

-- all device calls of a batch with this many entries, after those of a checkpoint; a batch without
-- entries has none
abbrev pub device_calls : ℕ → ℕ → List Event
device_calls folds count =
    if count == 0 then [] else (replicate folds Fold
    ++ (calls_to (sectors_for_body count + 1) GateWritten ++ SecondSync ∷ []))

abbrev pub answer_events : List Command → List Event
answer_events commands = map (λ (c : Command). Answer c.terminal) commands

-- a turn: a scan, its batch made safe, its answers
abbrev pub turn_events : List Command → List (Option ℕ) → ℕ → ℕ → List Event
turn_events commands letters folds count =
    take_events commands letters
    ++ (Seal ∷ Pull ∷ (device_calls folds count ++ answer_events commands))

-- the world after a turn: what was decided is safe, and each command has its reply
abbrev pub world_after_turn : World → List Command → List Reply → State → World
world_after_turn w commands replies state = record w {
  accepted = w.accepted ++ state.batch;
  safe = length (w.accepted ++ state.batch);
  sealed = length (w.accepted ++ state.batch);
  positions = state.positions;
  answered = w.answered ++ map answer_of (with_replies commands replies);
  given = w.given ++ with_replies commands replies;
}

-- A turn that took something and answers Ok is its list of events, each possible in its place,
-- however many calls its checkpoint makes.
abbrev pub TurnsAreRuns : World → Type 0
TurnsAreRuns w = (command : Command) (commands : List Command) (reply : Reply)
    (replies : List Reply) (state : State) → IsAtRest w → AreFound w (command ∷ commands)
    → Run w.building any_eligible (state_of w) (command ∷ commands) (reply ∷ replies) state
    → (letters : List (Option ℕ))
    × ((folds : ℕ) → goes (turn_events (command ∷ commands) letters folds (length state.batch)) w
    ≡ Some (world_after_turn w (command ∷ commands) (reply ∷ replies) state))

-- the phases in which a device call of a batch may fail: one of the checkpoint's, one of the writes
-- or the first sync; the gate's write or the second sync
abbrev pub MayFailIn : ℕ → Phase → Type 0
MayFailIn writes Idle = ⊥
MayFailIn writes (Writing n) = n ≤ writes
MayFailIn writes Synced = ⊥
MayFailIn writes GateWritten = Unit {0}

-- a turn in which a device call fails
abbrev pub failed_events : List Command → List (Option ℕ) → ℕ → Phase → ℕ → List Event
failed_events commands letters folds phase count =
    take_events commands letters
    ++ (Seal ∷ Pull ∷ (replicate folds Fold
    ++ (calls_to (sectors_for_body count + 1) phase ++ Fault ∷ answer_events commands)))

-- the world after it: each command is answered Unknown, and the batch is in doubt
abbrev pub failed : World → List Command → List Reply → State → Phase → World
failed w commands replies state phase = record w {
  accepted = w.accepted ++ state.batch;
  sealed = length (w.accepted ++ state.batch);
  flight = record { commands = []; upto = length (w.accepted ++ state.batch) };
  phase = phase;
  power = Broken;
  positions = state.positions;
  answered = w.answered ++ map answer_of (map unknown_to (with_replies commands replies));
  given = w.given ++ map unknown_to (with_replies commands replies);
}

-- A turn whose batch fails is its list of events, whichever device call it was.
abbrev pub FailuresAreRuns : World → Type 0
FailuresAreRuns w = (command : Command) (commands : List Command) (reply : Reply)
    (replies : List Reply) (state : State) (phase : Phase) → IsAtRest w
    → AreFound w (command ∷ commands)
    → Run w.building any_eligible (state_of w) (command ∷ commands) (reply ∷ replies) state
    → 0 < length state.batch → MayFailIn (sectors_for_body (length state.batch) + 1) phase
    → (letters : List (Option ℕ))
    × ((folds : ℕ) → goes (failed_events (command ∷ commands) letters folds phase
    (length state.batch)) w ≡ Some (failed w (command ∷ commands) (reply ∷ replies) state phase))

-- between two turns after a fault: nothing is taken or on its way, and the batch in doubt stays
-- with its phase
pub record IsBrokenAtRest (w : World) : Type 0 where
  pub broken : w.power ≡ Broken
  pub nothing_flies : w.flight.commands ≡ []
  pub nothing_queued : w.queue ≡ []
  pub nothing_taken : w.taken ≡ []
  pub nothing_due : w.due ≡ []
  pub all_sealed : w.sealed ≡ length w.accepted
  pub safe_in_range : w.safe ≤ length w.accepted
  pub doubt_in_range : w.flight.upto ≤ length w.accepted

-- a turn while broken: a scan, its batch that no device call is made for, its answers
abbrev pub broken_events : List Command → List (Option ℕ) → List Event
broken_events commands letters =
    take_events commands letters ++ (Seal ∷ Pull ∷ answer_events commands)

-- each command answered Unknown
abbrev pub with_unknown : List Command → List Taken
with_unknown commands = with_replies commands (unknowns commands)

-- the world after it: each command is answered Unknown, and what was decided stands after the
-- batch in doubt, where it never gets to the disk
abbrev pub turned_broken : World → List Command → State → World
turned_broken w commands state = record w {
  accepted = w.accepted ++ state.batch;
  sealed = length (w.accepted ++ state.batch);
  positions = state.positions;
  answered = w.answered ++ map answer_of (with_unknown commands);
  given = w.given ++ with_unknown commands;
}

-- A turn while broken that took something is its list of events, whatever was decided in it.
abbrev pub BrokenTurnsAreRuns : World → Type 0
BrokenTurnsAreRuns w = (command : Command) (commands : List Command) (reply : Reply)
    (replies : List Reply) (state : State) → IsBrokenAtRest w → AreFound w (command ∷ commands)
    → Run w.building any_eligible (state_of w) (command ∷ commands) (reply ∷ replies) state
    → (letters : List (Option ℕ))
    × (goes (broken_events (command ∷ commands) letters) w
    ≡ Some (turned_broken w (command ∷ commands) state))

-- Such a turn changes the answers alone: a cut or a reopening may leave what it might have left
-- before, and a reopening leaves the world that it would have left before, with those answers.
pub record ChangesAnswersAlone (w : World) (commands : List Command) (after : World) : Type 0 where
  pub same_choice : (kept : Kept) → may_keep after kept ≡ may_keep w kept
  pub same_outcome : (kept : Kept) → outcome after kept ≡ outcome w kept
  pub same_reopened : (kept : Kept) → reopened after kept
      ≡ record (reopened w kept) {
        answered = w.answered ++ map answer_of (with_unknown commands);
        given = w.given ++ with_unknown commands;
      }

abbrev pub BrokenTurnsChangeNothing : World → Type 0
BrokenTurnsChangeNothing w = (commands : List Command) (state : State) → IsBrokenAtRest w
    → ChangesAnswersAlone w commands (turned_broken w commands state)

-- The rules decide on every list of commands, so that each scan has its run.
abbrev pub HasRun : Plan → State → List Command → Type 0
HasRun building state commands = (replies : List Reply) × (next : State)
    × Run building any_eligible state commands replies next

-- After a turn that answers Ok the world is at rest again.
abbrev pub TurnsEndAtRest : World → Type 0
TurnsEndAtRest w = (commands : List Command) (replies : List Reply) (state : State) → IsAtRest w
    → IsAtRest (world_after_turn w commands replies state)

-- After one whose batch failed all of it is answered, and after each turn while broken too.
abbrev pub FailuresEndAtRest : World → Type 0
FailuresEndAtRest w = (commands : List Command) (replies : List Reply) (state : State)
    (phase : Phase) → IsAtRest w → IsBrokenAtRest (failed w commands replies state phase)

abbrev pub BrokenTurnsEndAtRest : World → Type 0
BrokenTurnsEndAtRest w = (commands : List Command) (state : State) → IsBrokenAtRest w
    → IsBrokenAtRest (turned_broken w commands state)

-- From there each reopening that the phase allows is possible, and leaves a world at rest.
abbrev pub ReopeningsEndAtRest : World → Type 0
ReopeningsEndAtRest w = (kept : Kept) → IsBrokenAtRest w → IsTrue (may_keep w kept)
    → (next w (Reopen kept) ≡ Some (reopened w kept)) × IsAtRest (reopened w kept)

-- The recovery after a cut leaves one too, wherever the cut came.
abbrev pub CutsEndAtRest : World → Type 0
CutsEndAtRest w = (kept : Kept) (after : World) → next w (Cut kept) ≡ Some after
    → IsAtRest (reopened after kept)

-- While running a reopening is possible at rest. It unplaces the cars and changes nothing else, so
-- that the world is at rest again; and wherever one is possible, it leaves a world at rest where
-- nothing was due.
pub record RunningReopeningsEndAtRest (w : World) : Type 0 where
  pub opens : IsAtRest w → next w (Reopen Safe) ≡ Some (record w { positions = unplaced })
  pub rests : IsAtRest w → IsAtRest (record w { positions = unplaced })
  pub wherever : (kept : Kept) (after : World) → w.power ≡ Running → w.due ≡ []
      → next w (Reopen kept) ≡ Some after → IsAtRest after

-- One whose device call fails leaves a world broken at rest, with no batch in doubt. The next one
-- has the safe list alone, and leaves what the failed one would have left.
pub record FailedReopeningsEndAtRest (w : World) : Type 0 where
  pub fails : IsAtRest w → next w Fault ≡ Some (record w { power = Broken })
  pub rests : IsAtRest w → IsBrokenAtRest (record w { power = Broken })
  pub opens : IsAtRest w → next (record w { power = Broken }) (Reopen Safe)
      ≡ Some (record w { positions = unplaced })
  pub only_safe : IsAtRest w → next (record w { power = Broken }) (Reopen WithBatch) ≡ None
