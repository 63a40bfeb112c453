-- Each part is left where it is by what the others do; and what holds at each point of every run is
-- kept by every event, in whatever world it holds.
use Rattle.std.specs.Prelude.{ℕ, ◌≡◌, ◌≢◌, false, Option, Some, IsTrue}
use Rattle.lift_world.specs.declared.event.Event.{Event}
use Rattle.lift_world.specs.declared.event.Event.TheVariants.{Take}
use Rattle.lift_world.specs.World.{World}
use Rattle.lift_world.specs.Next.{next}
use Rattle.lift_world.specs.Faults.{goes_on}
use Rattle.lift_world.specs.Headline.{HearsInOrder, AsksOneByOne}
use Rattle.lift_world.specs.Turns.{IsAtRest}
use Rattle.lift_world.specs.Relay.{IsQueueInOrder, IsBetweenScans, IsBetweenFlushes}
use Rattle.lift_world.specs.Relay.{IsBrokenBetween, is_flushers}

-- The allocator stays between two scans until something is taken: whatever terminals and the
-- flusher do, and over cuts and reopenings too.
abbrev pub StaysBetweenScans : World → Type 0
StaysBetweenScans w = (event : Event) (after : World) → IsBetweenScans w
    → ((terminal : ℕ) (letter : Option ℕ) → event ≢ Take terminal letter)
    → next w event ≡ Some after → IsBetweenScans after

-- The flusher stays between two turns, whatever terminals and the allocator do.
abbrev pub StaysBetweenFlushes : World → Type 0
StaysBetweenFlushes w = (event : Event) (after : World) → IsBetweenFlushes w
    → is_flushers event ≡ false → IsTrue (goes_on event)
    → next w event ≡ Some after → IsBetweenFlushes after

-- So it does after a fault.
abbrev pub StaysBrokenBetween : World → Type 0
StaysBrokenBetween w = (event : Event) (after : World) → IsBrokenBetween w
    → is_flushers event ≡ false → IsTrue (goes_on event)
    → next w event ≡ Some after → IsBrokenBetween after

-- A queue in order stays so, whatever comes.
abbrev pub StaysInOrder : World → Type 0
StaysInOrder w = (event : Event) (after : World) → IsQueueInOrder w → next w event ≡ Some after
    → IsQueueInOrder after

-- Whoever heard in order goes on to.
abbrev pub HearsOnInOrder : World → Type 0
HearsOnInOrder w = (event : Event) (after : World) → HearsInOrder w → next w event ≡ Some after
    → HearsInOrder after

-- A terminal that asked one by one goes on to.
abbrev pub AsksOnOneByOne : World → Type 0
AsksOnOneByOne w = (terminal : ℕ) (event : Event) (after : World) → AsksOneByOne w terminal
    → next w event ≡ Some after → AsksOneByOne after terminal

-- At rest the queue is in order.
abbrev pub RestsInOrder : World → Type 0
RestsInOrder w = IsAtRest w → IsQueueInOrder w
