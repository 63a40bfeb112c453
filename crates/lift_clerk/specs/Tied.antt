-- What the machine of events is while a group runs, whether it is a clerk or its two parts with
-- batches on their way between them: one relation, in which a clerk is a group with nothing on its
-- way.
use Rattle.std.specs.Prelude.{ℕ, ◌≡◌, ◌≢◌, ◌+◌, Bool, true, false, List, [], ◌∷◌, ◌++◌, length, map, filter}
use Rattle.std.specs.Prelude.{count_by, IsTrue, Some}
use Rattle.std.specs.List.{flat_map}
use Rattle.lift_base.specs.declared.history.Entry.{Entry}
use Rattle.lift_register.specs.Register.{register_of}
use Rattle.lift_desk.specs.declared.view.ClerkView.{ClerkView}
use Rattle.lift_desk.specs.Spelled.{ask_words}
use Rattle.lift_policy.specs.Step.{State}
use Rattle.lift_policy.specs.declared.command.Command.{Command}
use Rattle.lift_keeper.specs.Writer.{WriterView}
use Rattle.lift_world.specs.declared.event.Event.{Event}
use Rattle.lift_world.specs.declared.event.Kept.TheVariants.{WithBatch}
use Rattle.lift_world.specs.declared.event.Taken.{Taken}
use Rattle.lift_world.specs.World.{World, SealedBatch, start, asks, is_answer_to, state_of}
use Rattle.lift_world.specs.World.{safe_list, batch_in_flight, may_keep}
use Rattle.lift_world.specs.Next.{run, goes, answer_of}
use Rattle.lift_world.specs.Relay.{IsBetweenScans, IsBetweenFlushes, IsBrokenBetween}
use Rattle.lift_clerk.specs.TakenAndAnswered.{answer_words, ask_of}

-- a batch on its way: commands that were taken and aren't answered, with the replies decided to
-- them, and what was accepted of them
pub record SentBatch : Type 0 where
  pub commands : List Taken
  pub entries : List Entry

abbrev pub entries_sent : List SentBatch → List Entry
entries_sent batches = flat_map (λ (b : SentBatch). b.entries) batches

abbrev pub command_of : Taken → Command
command_of h = record { terminal = h.terminal; number = h.number; body = h.body }

-- the commands of the machine's queue, and those of one terminal
abbrev pub queued_in : List SealedBatch → List Command
queued_in queue = flat_map (λ (q : SealedBatch). map command_of q.commands) queue

abbrev pub on_way : World → ℕ → List Command
on_way w terminal = filter (asks terminal) (queued_in w.queue)

-- the machine's queue has the commands of these batches
abbrev pub AreQueued : List SentBatch → List SealedBatch → Type 0
AreQueued [] [] = Unit {0}
AreQueued (b ∷ batches) (q ∷ queue) =
    (map command_of q.commands ≡ map command_of b.commands) × AreQueued batches queue
AreQueued [] (q ∷ queue) = ⊥
AreQueued (b ∷ batches) [] = ⊥

-- with their replies, and each ends where its entries do, from here on
abbrev pub AreDecided : ℕ → List SentBatch → List SealedBatch → Type 0
AreDecided from [] [] = Unit {0}
AreDecided from (b ∷ batches) (q ∷ queue) = (q.commands ≡ b.commands)
    × (q.upto ≡ from + length b.entries) × AreDecided (from + length b.entries) batches queue
AreDecided from [] (q ∷ queue) = ⊥
AreDecided from (b ∷ batches) [] = ⊥

-- The words of a terminal. Of what it asked the first was answered, then comes what is on its way,
-- and the rest may wait. All but what waits was taken ahead of the answers; the seat that answers
-- has looked at what it answered.
pub record ShowsBoth (w : World) (terminal : ℕ) (ahead : List ℕ) (behind : ClerkView) : Type 0 where
  pub first : List Command
  pub waiting : List Command
  pub asked : filter (asks terminal) w.asked ≡ (first ++ on_way w terminal) ++ waiting
  pub taken : ahead ≡ ask_words 1 (map ask_of (first ++ on_way w terminal))
  pub looked : behind.taken ≡ ask_words 1 (map ask_of first)
  pub answered : behind.answered ≡ answer_words 1 (filter (is_answer_to terminal) w.answered)
  pub even : length first ≡ count_by (is_answer_to terminal) w.answered

-- While nothing has failed the machine decides on this state. What is accepted is what is safe, and
-- then the entries of the batches on their way, which the machine holds with their replies.
pub record RunsWhole {D : Type 0} (w : World) (state : State) (writer : WriterView D)
    (waiting : List SentBatch) : Type 0 where
  pub between : IsBetweenFlushes w
  pub state_is : state_of w ≡ state
  pub accepted : w.accepted ≡ safe_list w ++ entries_sent waiting
  pub decided : AreDecided (length (safe_list w)) waiting w.queue
  pub no_doubt : writer.doubt ≡ []

-- After a fault the machine's batch in doubt is the writer's: a crash or a reopening may keep it.
-- What is decided is no matter: each command is answered Unknown, and a reopening forgets what was
-- decided.
pub record RunsBroken {D : Type 0} (w : World) (writer : WriterView D) : Type 0 where
  pub between : IsBrokenBetween w
  pub doubt : batch_in_flight w ≡ writer.doubt
  pub may_be_kept : writer.doubt ≢ [] → IsTrue (may_keep w WithBatch)

-- Some run of the machine leads to this world, from what its journal began with.
abbrev pub IsReached : World → Type 0
IsReached w = (events : List Event) × (run events (start w.building w.base) ≡ w)

-- The world is what a group is between two turns: these words were taken of each terminal, these
-- were looked at and answered by the seats that answer, decisions are made on this state, this
-- writer makes batches safe, and these batches are on their way to it.
pub record IsTied {D : Type 0} (w : World) (ahead : ℕ → List ℕ) (behind : ℕ → ClerkView)
    (state : State) (writer : WriterView D) (waiting : List SentBatch) : Type 0 where
  pub building : w.building ≡ writer.plan
  pub reached : IsReached w
  pub between : IsBetweenScans w
  pub nothing_due : w.due ≡ []
  pub safe : register_of w.base (safe_list w) ≡ writer.register
  pub queue : AreQueued waiting w.queue
  pub words : (terminal : ℕ) → ShowsBoth w terminal (ahead terminal) (behind terminal)
  pub whole : writer.is_broken ≡ false → RunsWhole w state writer waiting
  pub broken : writer.is_broken ≡ true → RunsBroken w writer

-- each ask is found by the look of the seat that answers
abbrev pub all_found : ℕ → Bool
all_found terminal = true

-- These events, each possible in its place, lead to a world that is so. These commands were given
-- their answers meanwhile, and these entries are safe then. Terminals did nothing.
pub record LeadsTo (w : World) (events : List Event) (given : List Taken) (safe : List Entry)
    (IsSo : World → Type 0) : Type 0 where
  pub end : World
  pub possible : goes events w ≡ Some end
  pub given_is : end.given ≡ w.given ++ given
  pub safe_is : safe_list end ≡ safe
  pub same_building : end.building ≡ w.building
  pub same_base : end.base ≡ w.base
  pub answered_is : end.answered ≡ w.answered ++ map answer_of given
  pub same_asked : end.asked ≡ w.asked
  pub same_heard : end.heard ≡ w.heard
  pub shows : IsSo end
