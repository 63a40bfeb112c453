-- What the machine of events is while a clerk runs, and which of its events the clerk's calls are.
use Rattle.std.specs.Prelude.{ℕ, ◌≡◌, ◌≢◌, ◌⊎◌, true, false, List, [], ◌∷◌, ◌++◌}
use Rattle.std.specs.Prelude.{length, filter, drop, count_by, Option, Some}
use Rattle.std.specs.Prelude.{IsTrue}
use Rattle.std.specs.List.{AllByRecursion}
use mathlib.Core.Logic.{inl, inr}
use Rattle.lift_base.specs.declared.history.Entry.{Entry}
use Rattle.lift_register.specs.Register.{register_of}
use Rattle.lift_desk.specs.Seats.{view_at, clerk_of}
use Rattle.lift_policy.specs.Eligible.{Choice}
use Rattle.lift_policy.specs.declared.command.Command.{Command}
use Rattle.lift_policy.specs.Run.{unknowns}
use Rattle.lift_decider.specs.Decider.{starting}
use Rattle.lift_world.specs.declared.event.Event.{Event}
use Rattle.lift_world.specs.declared.event.Phase.TheVariants.{GateWritten}
use Rattle.lift_world.specs.declared.event.Taken.{Taken}
use Rattle.lift_world.specs.World.{World, asks, is_answer_to}
use Rattle.lift_world.specs.World.{safe_list}
use Rattle.lift_world.specs.Next.{next, goes}
use Rattle.lift_world.specs.Beside.{is_of_terminals}
use Rattle.lift_world.specs.Turns.{with_replies}
use Rattle.lift_world.specs.Turns.{turn_events, failed_events, broken_events}
use Rattle.lift_clerk.specs.Tied.{IsTied}
use Rattle.lift_clerk.specs.declared.counts.Counts.{Counts}
use Rattle.lift_clerk.specs.Clerk.{ClerkState}
use Rattle.lift_clerk.specs.Turn.{IsTurn, IsFailedTurn, IsBrokenTurn}
use Rattle.lift_clerk.specs.Visits.{commands_of}

-- The world is what this clerk's group is between two of its calls: of each terminal its words are
-- the world's, it decides on what the keeper shows, and nothing is on its way.
abbrev pub IsMachineOf : {D P : Type 0} → World → ClerkState D P → Type 0
IsMachineOf w clerk = IsTied w (λ (t : ℕ). (view_at clerk.seat t).taken) (view_at clerk.seat)
    clerk.keeper.state clerk.keeper.writer []

-- It stays so whatever terminals ask and hear between.
abbrev pub TerminalsPreserveTie : (D P : Type 0) → Type 0
TerminalsPreserveTie D P = (w end : World) (clerk : ClerkState D P) (event : Event)
    → IsTrue (is_of_terminals event) → next w event ≡ Some end
    → IsMachineOf w clerk → IsMachineOf end clerk

-- what a terminal asked that was not answered
abbrev pub waiting_in : World → ℕ → List Command
waiting_in w terminal = drop (count_by (is_answer_to terminal) w.answered)
    (filter (asks terminal) w.asked)

-- Where an ask waits at a terminal in this world, it is the one that the look there found.
abbrev pub LooksAgree : World → List Command → Type 0
LooksAgree w commands = AllByRecursion (λ (c : Command). (waiting_in w c.terminal ≡ [])
    ⊎ (waiting_in w c.terminal ≡ c ∷ [])) commands

-- no ask waits: terminals have asked just what the clerk took
abbrev pub WaitsNowhere : World → Type 0
WaitsNowhere w = (terminal : ℕ) → waiting_in w terminal ≡ []

-- Terminals hear and ask, and then these events, each possible in its place, lead to a world that
-- is this clerk's. These commands were given their answers meanwhile, and these entries are safe
-- then. Where no ask waited none waits then. Where one waited at each terminal that was answered,
-- terminals do nothing, and what they asked and heard is as before.
pub record LeadsToClerk {D P : Type 0} (w : World) (events : List Event) (given : List Taken)
    (safe : List Entry) (after : ClerkState D P) : Type 0 where
  pub before : List Event
  pub of_terminals : AllByRecursion (λ (e : Event). IsTrue (is_of_terminals e)) before
  pub end : World
  pub possible : goes (before ++ events) w ≡ Some end
  pub same_base : end.base ≡ w.base
  pub given_is : end.given ≡ w.given ++ given
  pub safe_is : safe_list end ≡ safe
  pub waits : WaitsNowhere w → WaitsNowhere end
  pub alone : AllByRecursion (λ (c : Taken). waiting_in w c.terminal ≢ []) given
      → (before ≡ []) × (end.asked ≡ w.asked) × (end.heard ≡ w.heard)
  pub shows : IsMachineOf end after

-- the events of a turn, of which there are none where nothing was taken
abbrev pub events_of_turn : List Command → List (Option ℕ) → ℕ → ℕ → List Event
events_of_turn [] letters folds count = []
events_of_turn (c ∷ commands) letters folds count = turn_events (c ∷ commands) letters folds count

abbrev pub events_while_broken : List Command → List (Option ℕ) → List Event
events_while_broken [] letters = []
events_while_broken (c ∷ commands) letters = broken_events (c ∷ commands) letters

-- what `turn` gives where it answers Ok
pub record Turns {D P : Type 0} (choice : Choice) (before after : ClerkState D P)
    (counts : Counts) : Type 0 where
  pub turn : IsTurn choice before after counts
  pub was_whole : before.keeper.writer.is_broken ≡ false
  pub is_whole : after.keeper.writer.is_broken ≡ false
  pub no_doubt : after.keeper.writer.doubt ≡ []
  pub safe : after.keeper.writer.register ≡ after.keeper.state.register
  pub same_plan : after.keeper.writer.plan ≡ before.keeper.writer.plan

-- A turn that answers Ok is a turn of the machine, however many calls the checkpoint makes that its
-- batch may need.
abbrev pub TurnsAreTurns : (D P : Type 0) → Choice → Type 0
TurnsAreTurns D P choice =
    (w : World) (before after : ClerkState D P) (counts : Counts)
    (t : Turns choice before after counts)
    → IsMachineOf w before → LooksAgree w (commands_of 0 t.turn.visits)
    → (letters : List (Option ℕ))
    × ((folds : ℕ) → LeadsToClerk w
    (events_of_turn (commands_of 0 t.turn.visits) letters folds (length t.turn.decided.batch))
    (with_replies (commands_of 0 t.turn.visits) t.turn.replies)
    (safe_list w ++ t.turn.decided.batch) after)

-- what `turn` gives where the device failed it
pub record TurnFails {D P : Type 0} (choice : Choice) (before after : ClerkState D P) : Type 0 where
  pub turn : IsFailedTurn choice before after
  pub was_whole : before.keeper.writer.is_broken ≡ false
  pub breaks : after.keeper.writer.is_broken ≡ true
  pub same_register : after.keeper.writer.register ≡ before.keeper.writer.register
  pub same_plan : after.keeper.writer.plan ≡ before.keeper.writer.plan

-- A turn that the device failed is one of the machine that fails once the batch's gate was written:
-- whichever call it was, a reopening or a crash may find all of the batch or nothing of it, as in
-- that phase.
abbrev pub FailuresAreFailures : (D P : Type 0) → Choice → Type 0
FailuresAreFailures D P choice =
    (w : World) (before after : ClerkState D P) (t : TurnFails choice before after)
    → IsMachineOf w before → LooksAgree w (commands_of 0 t.turn.visits)
    → (letters : List (Option ℕ))
    × ((folds : ℕ) → LeadsToClerk w
    (failed_events (commands_of 0 t.turn.visits) letters folds GateWritten
    (length after.keeper.state.batch))
    (with_replies (commands_of 0 t.turn.visits) (unknowns (commands_of 0 t.turn.visits)))
    (safe_list w) after)

-- A turn of a broken clerk is one of the broken machine.
abbrev pub BrokenTurnsAreBroken : (D P : Type 0) → Type 0
BrokenTurnsAreBroken D P =
    (w : World) (before after : ClerkState D P) (t : IsBrokenTurn before after)
    → before.keeper.writer.is_broken ≡ true
    → IsMachineOf w before → LooksAgree w (commands_of 0 t.visits)
    → (letters : List (Option ℕ))
    × LeadsToClerk w (events_while_broken (commands_of 0 t.visits) letters)
    (with_replies (commands_of 0 t.visits) (unknowns (commands_of 0 t.visits))) (safe_list w) after

-- what `reopen` gives where it answers Ok, on an honest device
pub record ClerkReopens {D P : Type 0} (before after : ClerkState D P) : Type 0 where
  pub desk : after.desk ≡ before.desk
  pub same_seat : after.seat ≡ before.seat
  pub state : after.keeper.state ≡ starting after.keeper.writer.register
  pub one_of : (after.keeper.writer.register ≡ before.keeper.writer.register)
      ⊎ (after.keeper.writer.register
      ≡ register_of before.keeper.writer.register before.keeper.writer.doubt)
  pub is_whole : after.keeper.writer.is_broken ≡ false
  pub no_doubt : after.keeper.writer.doubt ≡ []
  pub same_plan : after.keeper.writer.plan ≡ before.keeper.writer.plan

-- what is kept of a batch after what is safe: nothing of it, or all
abbrev pub kept_after : {A B : Type 0} → List Entry → List Entry → A ⊎ B → List Entry
kept_after safe batch (inl without) = safe
kept_after safe batch (inr whole) = safe ++ batch

-- The desk, the seats, what the keeper shows, what is safe of it and what is in doubt are as before,
-- whatever the device is.
pub record Stays {D P : Type 0} (before after : ClerkState D P) : Type 0 where
  pub desk : after.desk ≡ before.desk
  pub same_seat : after.seat ≡ before.seat
  pub same_state : after.keeper.state ≡ before.keeper.state
  pub same_register : after.keeper.writer.register ≡ before.keeper.writer.register
  pub same_doubt : after.keeper.writer.doubt ≡ before.keeper.writer.doubt
  pub same_plan : after.keeper.writer.plan ≡ before.keeper.writer.plan

-- a clerk at a new desk, over a keeper that has just opened
pub record IsNewClerk {D P : Type 0} (clerk : ClerkState D P) : Type 0 where
  pub seat : clerk.seat ≡ clerk_of clerk.desk
  pub state : clerk.keeper.state ≡ starting clerk.keeper.writer.register
  pub is_whole : clerk.keeper.writer.is_broken ≡ false
  pub no_doubt : clerk.keeper.writer.doubt ≡ []
