-- An allocator and a flusher work at the same time, and terminals beside them: their events come
-- among one another.
use Rattle.std.specs.Prelude.{ℕ, ◌≡◌, ◌≢◌, ◌≤◌, ◌<◌, Bool, true, false, not, ◌||◌, List, [], ◌∷◌}
use Rattle.std.specs.Prelude.{◌++◌, length, map, filter, find, reverse, count_by, Option, Some}
use Rattle.std.specs.Prelude.{IsSome, IsTrue, unwrap_or}
use Rattle.std.specs.List.{AllByRecursion}
use Rattle.lift_base.specs.declared.command.Body.{Body}
use Rattle.lift_base.specs.declared.command.Reply.{Reply}
use Rattle.lift_policy.specs.Eligible.{any_eligible}
use Rattle.lift_policy.specs.Step.{State}
use Rattle.lift_policy.specs.Run.{Run}
use Rattle.lift_base.specs.declared.limits.TheConstants.{MOST_BATCHES}
use Rattle.lift_policy.specs.declared.command.Command.{Command}
use Rattle.lift_world.specs.declared.event.Kept.{Kept}
use Rattle.lift_world.specs.declared.event.Taken.{Taken}
use Rattle.lift_world.specs.declared.event.Event.{Event}
use Rattle.lift_world.specs.declared.event.Event.TheVariants.{Ask, Take, Seal, Pull, Cut}
use Rattle.lift_world.specs.World.{World, is_off, is_answer_to, asks, state_of}
use Rattle.lift_world.specs.Next.{next, goes, unanswered}
use Rattle.lift_world.specs.Tie.{TakeFinds}
use Rattle.lift_world.specs.Headline.{HearsInOrder, AsksOneByOne}
use Rattle.lift_world.specs.Turns.{scanned}
use Rattle.lift_world.specs.Beside.{is_of_terminals}
use Rattle.lift_world.specs.Faults.{goes_on}
use Rattle.lift_world.specs.Relay.{IsQueueInOrder, IsBetweenScans, allocated, is_flushers}

-- of a list of events what the flusher does, and the rest
abbrev pub flushers_part : List Event → List Event
flushers_part events = filter is_flushers events

abbrev pub others_part : List Event → List Event
others_part events = filter (λ (e : Event). not (is_flushers e)) events

abbrev pub is_pull : Event → Bool
is_pull Pull = true
is_pull event = false

-- Whatever the flusher did among others' events, without a power cut or a recovery, it might as
-- well have done first, where it pulled no batch that was sealed meanwhile.
abbrev pub FlusherMightComeFirst : World → Type 0
FlusherMightComeFirst w = (events : List Event) (after : World) → IsQueueInOrder w
    → AllByRecursion (λ (e : Event). IsTrue (goes_on e)) events
    → count_by is_pull events ≤ length w.queue → goes events w ≡ Some after
    → goes (flushers_part events ++ others_part events) w ≡ Some after

-- Others' events come among the flusher's: each is possible where it stands, after all that came
-- before it.
abbrev pub StandAmong : World → List Event → Type 0
StandAmong w [] = Unit {0}
StandAmong w (event ∷ events) =
    (is_flushers event ≡ false → IsTrue (goes_on event) × IsSome (next w event))
    × StandAmong (unwrap_or (next w event) w) events

-- So stands whatever is possible without a power cut or a recovery.
abbrev pub PossibleStandAmong : World → Type 0
PossibleStandAmong w = (events : List Event) (after : World)
    → AllByRecursion (λ (e : Event). IsTrue (goes_on e)) events → goes events w ≡ Some after
    → StandAmong w events

-- All of it is possible, and leaves what the others' events leave in the world that the flusher
-- made.
pub record GoesAmong (events : List Event) (w made : World) : Type 0 where
  pub after : World
  pub possible : goes events w ≡ Some after
  pub same : goes (others_part events) made ≡ Some after

-- Whatever the flusher can do alone, as each of its turns, it can do among others' events too,
-- wherever these come.
abbrev pub FlusherGoesAmong : World → Type 0
FlusherGoesAmong w = (events : List Event) (made : World) → IsQueueInOrder w
    → goes (flushers_part events) w ≡ Some made → StandAmong w events → GoesAmong events w made

-- what others do beside an allocator: terminals and the flusher
abbrev pub is_beside : Event → Bool
is_beside event = is_of_terminals event || is_flushers event

abbrev pub AreBeside : List Event → Type 0
AreBeside events = AllByRecursion (λ (e : Event). IsTrue (is_beside e)) events

-- The terminal's ask stands: it asked more than it was answered, nothing of it is on its way, and
-- what it asked last is this command.
pub record StandsAsk (w : World) (terminal : ℕ) (command : Command) : Type 0 where
  pub powered : is_off w.power ≡ false
  pub asks_more : count_by (is_answer_to terminal) w.answered < count_by (asks terminal) w.asked
  pub not_taken : AllByRecursion (λ (c : Taken). c.terminal ≢ terminal) (unanswered w)
  pub asked_last : find (asks terminal) (reverse w.asked) ≡ Some command

-- An ask stands as soon as it is made, however many batches are queued.
abbrev pub AsksStandAtOnce : World → Type 0
AsksStandAtOnce w = (terminal number : ℕ) (body : Body) (after : World) → HearsInOrder w
    → AsksOneByOne w terminal
    → next w (Ask terminal number body) ≡ Some after
    → StandsAsk after terminal (record { terminal = terminal; number = number; body = body })

-- And it stands on, whatever comes but a take of that terminal or a power cut.
abbrev pub AsksStandOn : World → Type 0
AsksStandOn w = (terminal : ℕ) (command : Command) (event : Event) (after : World) → HearsInOrder w
    → StandsAsk w terminal command
    → ((letter : Option ℕ) → event ≢ Take terminal letter) → ((kept : Kept) → event ≢ Cut kept)
    → next w event ≡ Some after → StandsAsk after terminal command

-- A look finds an ask exactly where it stands and at most four batches are queued.
pub record LooksFindAsks (w : World) (terminal : ℕ) (command : Command) : Type 0 where
  pub stands : TakeFinds w terminal command → StandsAsk w terminal command
  pub few_queued : TakeFinds w terminal command → length w.queue ≤ MOST_BATCHES
  pub finds : StandsAsk w terminal command → length w.queue ≤ MOST_BATCHES → TakeFinds w terminal command

-- The queue grows by seals alone: so an ask that a look finds is found until it is taken, something
-- is sealed or the power is cut.
abbrev pub SealsAloneQueue : World → Type 0
SealsAloneQueue w = (event : Event) (after : World) → event ≢ Seal → next w event ≡ Some after
    → length after.queue ≤ length w.queue

-- a look of a scan: what others did since the look before it, and the ask that it finds
pub record Look : Type 0 where
  pub before : List Event
  pub command : Command

abbrev pub looked_commands : List Look → List Command
looked_commands looks = map (λ (l : Look). l.command) looks

-- Each look finds its ask in the world that the others' events alone have made by then, which is
-- this one at the last look. No terminal is looked at twice.
abbrev pub LooksStand : World → List Look → World → Type 0
LooksStand w [] last = w ≡ last
LooksStand w (look ∷ looks) last =
    (there : World) × AreBeside look.before × (goes look.before w ≡ Some there)
    × TakeFinds there look.command.terminal look.command
    × AllByRecursion (λ (d : Command). d.terminal ≢ look.command.terminal) (looked_commands looks)
    × LooksStand there looks last

-- the scan's takes, with others' events between them
abbrev pub look_events : List Look → List (Option ℕ) → List Event
look_events [] letters = []
look_events (look ∷ looks) [] = []
look_events (look ∷ looks) (letter ∷ letters) =
    look.before ++ Take look.command.terminal letter ∷ look_events looks letters

-- A scan among others' events, some before and between its looks and some after them. Each take is
-- possible in its place, with some letter, and all of it leaves what the others' events alone
-- leave, with what was decided: so a terminal may be answered, hear and ask again until it is
-- looked at.
abbrev pub ScansGoAmong : World → Type 0
ScansGoAmong w = (looks : List Look) (replies : List Reply) (state : State) (last : World)
    → IsQueueInOrder w → LooksStand w looks last
    → Run w.building any_eligible (state_of w) (looked_commands looks) replies state
    → (letters : List (Option ℕ)) × ((behind : List Event) (after : World) → AreBeside behind
    → goes behind last ≡ Some after
    → goes (look_events looks letters ++ behind) w
    ≡ Some (scanned after (looked_commands looks) replies state))

-- An allocator's turn among others' events, some of them between its looks and its seal and some
-- after that. There the flusher goes on with the batches queued before; from the world left here
-- on the new one is queued as they were.
abbrev pub AllocationsGoAmong : World → Type 0
AllocationsGoAmong w = (look : Look) (looks : List Look) (reply : Reply) (replies : List Reply)
    (state : State) (last : World) → IsQueueInOrder w → IsBetweenScans w
    → LooksStand w (look ∷ looks) last
    → Run w.building any_eligible (state_of w) (looked_commands (look ∷ looks))
    (reply ∷ replies) state
    → (letters : List (Option ℕ)) × ((between behind : List Event) (after : World)
    → AreBeside (between ++ behind) → goes (between ++ behind) last ≡ Some after
    → goes (look_events (look ∷ looks) letters ++ (between ++ Seal ∷ behind)) w
    ≡ Some (allocated after (looked_commands (look ∷ looks)) (reply ∷ replies) state))
