-- Which events move what a power cut or a reopening could recover.
use Rattle.std.specs.Prelude.{◌≡◌, ◌≢◌, Bool, true, false, Some, IsTrue}
use Rattle.lift_world.specs.declared.event.Kept.{Kept}
use Rattle.lift_world.specs.declared.event.Kept.TheVariants.{Safe, WithBatch}
use Rattle.lift_world.specs.declared.event.Event.{Event}
use Rattle.lift_world.specs.declared.event.Event.TheVariants.{Pull, Gate, SecondSync, Reopen}
use Rattle.lift_world.specs.World.{World, batch_in_flight, may_keep, outcome}
use Rattle.lift_world.specs.Next.{next}
use Rattle.lift_world.specs.Relay.{IsQueueInOrder}

-- the write of a gate, the second sync and a reopening
abbrev pub moves_outcomes : Event → Bool
moves_outcomes Gate = true
moves_outcomes SecondSync = true
moves_outcomes (Reopen kept) = true
moves_outcomes event = false

-- After it the same may be kept, and gives the same list. And the batch in flight, which a gate's
-- write may offer later, has the same entries, but for a pull, which brings the next one.
pub record SameOutcomes (w : World) (event : Event) (after : World) : Type 0 where
  pub same_choice : (kept : Kept) → may_keep after kept ≡ may_keep w kept
  pub same_outcome : (kept : Kept) → IsTrue (may_keep w kept) → outcome after kept ≡ outcome w kept
  pub same_batch : event ≢ Pull → batch_in_flight after ≡ batch_in_flight w

-- no other event moves them: no ask, look or seal, no other device call, no answer, no fault and no
-- cut
abbrev pub OutcomesStay : World → Type 0
OutcomesStay w = IsQueueInOrder w → (event : Event) (after : World) → moves_outcomes event ≡ false
    → next w event ≡ Some after → SameOutcomes w event after

-- a gate's write offers the batch, and changes no list
pub record GateOffersBatch (w after : World) : Type 0 where
  pub not_before : may_keep w WithBatch ≡ false
  pub offered : may_keep after WithBatch ≡ true
  pub same_outcome : (kept : Kept) → outcome after kept ≡ outcome w kept

abbrev pub GatesOfferBatches : World → Type 0
GatesOfferBatches w = (after : World) → next w Gate ≡ Some after → GateOffersBatch w after

-- the second sync makes the list with the batch the safe one, and no batch can be kept then
pub record SyncKeepsBatch (w after : World) : Type 0 where
  pub offered : may_keep w WithBatch ≡ true
  pub kept : outcome after Safe ≡ outcome w WithBatch
  pub no_more : may_keep after WithBatch ≡ false

abbrev pub SyncsKeepBatches : World → Type 0
SyncsKeepBatches w = IsQueueInOrder w → (after : World) → next w SecondSync ≡ Some after
    → SyncKeepsBatch w after

-- a reopening makes the list that it kept the safe one, and no batch can be kept then
pub record ReopeningKeepsOne (w : World) (kept : Kept) (after : World) : Type 0 where
  pub offered : may_keep w kept ≡ true
  pub is_safe : outcome after Safe ≡ outcome w kept
  pub no_more : may_keep after WithBatch ≡ false

abbrev pub ReopeningsKeepOne : World → Type 0
ReopeningsKeepOne w = (kept : Kept) (after : World) → next w (Reopen kept) ≡ Some after
    → ReopeningKeepsOne w kept after
