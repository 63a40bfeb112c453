-- Terminals ask and hear at any moment: their events pass through whatever the controller does.
use Rattle.lift_base.specs.declared.command.Body.{Body}
use Rattle.std.specs.Prelude.{ℕ, ◌≡◌, ◌≢◌, Bool, true, false, not, List, [], ◌∷◌, ◌++◌, filter, Some}
use Rattle.std.specs.Prelude.{Option, unwrap_or}
use Rattle.lift_world.specs.declared.event.Kept.{Kept}
use Rattle.lift_policy.specs.declared.command.Command.{Command}
use Rattle.lift_world.specs.declared.event.Answer.{Answer}
use Rattle.lift_world.specs.declared.event.Event.{Event}
use Rattle.lift_world.specs.declared.event.Event.TheVariants.{Ask, Take, Hear, Cut}
use Rattle.lift_world.specs.World.{World, asks}
use Rattle.lift_world.specs.Next.{next, run, goes}

-- A list of events that are all possible is a run, so that all that holds at each point of every
-- run holds along it.
abbrev pub GoesAreRuns : World → Type 0
GoesAreRuns w = (events : List Event) (after : World) → goes events w ≡ Some after
    → run events w ≡ after

-- A run goes on where another has ended.
abbrev pub EventsJoin : World → Type 0
EventsJoin w = (events later : List Event) → run (events ++ later) w ≡ run later (run events w)

-- what a terminal does
abbrev pub is_of_terminals : Event → Bool
is_of_terminals (Ask terminal number body) = true
is_of_terminals (Hear terminal) = true
is_of_terminals event = false

-- of a list of events what terminals do, and the rest, which is the controller's
abbrev pub terminals_part : List Event → List Event
terminals_part events = filter is_of_terminals events

abbrev pub own_part : List Event → List Event
own_part events = filter (λ (e : Event). not (is_of_terminals e)) events

-- the world with these asks, and so much heard
abbrev pub with_words : World → List Command → List Answer → World
with_words w asked heard = record w { asked = asked; heard = heard }

-- Beside the controller terminals ask and hear. The world moves on by the controller's events
-- alone; what was asked and heard moves on by those of the terminals. Each ask and each hear is
-- possible where it stands, and a look at a terminal finds the asks of it that it finds without
-- them. The power isn't cut.
abbrev pub StandBeside : World → List Command → List Answer → List Event → Type 0
StandBeside w asked heard [] = Unit {0}
StandBeside w asked heard (Ask terminal number body ∷ events) =
    (after : World) × (next (with_words w asked heard) (Ask terminal number body) ≡ Some after)
    × StandBeside w after.asked after.heard events
StandBeside w asked heard (Hear terminal ∷ events) =
    (after : World) × (next (with_words w asked heard) (Hear terminal) ≡ Some after)
    × StandBeside w after.asked after.heard events
StandBeside w asked heard (Take terminal letter ∷ events) =
    (filter (asks terminal) asked ≡ filter (asks terminal) w.asked)
    × StandBeside (unwrap_or (next w (Take terminal letter)) w) asked heard events
StandBeside w asked heard (Cut kept ∷ events) = ⊥
StandBeside w asked heard (event ∷ events) =
    StandBeside (unwrap_or (next w event) w) asked heard events

-- So stands whatever a terminal can do now, and whatever the controller does but a cut, however many
-- events stand after it.
pub record TerminalsStandBeside (w : World) : Type 0 where
  pub takes_on : (asked : List Command) (heard : List Answer) (terminal : ℕ) (letter : Option ℕ)
      (events : List Event) → filter (asks terminal) asked ≡ filter (asks terminal) w.asked
      → StandBeside (unwrap_or (next w (Take terminal letter)) w) asked heard events
      → StandBeside w asked heard (Take terminal letter ∷ events)
  pub asks : (terminal number : ℕ) (body : Body) (after : World)
      → next w (Ask terminal number body) ≡ Some after
      → StandBeside w w.asked w.heard (Ask terminal number body ∷ [])
  pub hears : (terminal : ℕ) (after : World) → next w (Hear terminal) ≡ Some after
      → StandBeside w w.asked w.heard (Hear terminal ∷ [])
  pub nothing : (asked : List Command) (heard : List Answer) → StandBeside w asked heard []
  pub asks_on : (asked : List Command) (heard : List Answer) (terminal number : ℕ) (body : Body)
      (events : List Event) (after : World)
      → next (with_words w asked heard) (Ask terminal number body) ≡ Some after
      → StandBeside w after.asked after.heard events
      → StandBeside w asked heard (Ask terminal number body ∷ events)
  pub hears_on : (asked : List Command) (heard : List Answer) (terminal : ℕ) (events : List Event)
      (after : World) → next (with_words w asked heard) (Hear terminal) ≡ Some after
      → StandBeside w after.asked after.heard events
      → StandBeside w asked heard (Hear terminal ∷ events)
  pub goes_on : (asked : List Command) (heard : List Answer) (event : Event) (events : List Event)
      → is_of_terminals event ≡ false
      → ((terminal : ℕ) (letter : Option ℕ) → event ≢ Take terminal letter)
      → ((kept : Kept) → event ≢ Cut kept)
      → StandBeside (unwrap_or (next w event) w) asked heard events
      → StandBeside w asked heard (event ∷ events)

-- All of it is possible. It leaves what the terminals' events leave in the world that the
-- controller's events made, and that world but for what was asked and heard.
pub record PassesThrough (asked : List Command) (heard : List Answer) (events : List Event)
    (w made : World) : Type 0 where
  pub after : World
  pub possible : goes events (with_words w asked heard) ≡ Some after
  pub same : goes (terminals_part events) (with_words made asked heard) ≡ Some after
  pub only_words : after ≡ with_words made after.asked after.heard

-- Whatever the controller does in a turn or a reopening, terminals may ask and hear anywhere in it.
abbrev pub TerminalsPass : World → Type 0
TerminalsPass w = (asked : List Command) (heard : List Answer) (events : List Event) (made : World)
    → goes (own_part events) w ≡ Some made
    → StandBeside w asked heard events → PassesThrough asked heard events w made
