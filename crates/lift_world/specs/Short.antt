-- How many entries a batch has.
use Rattle.std.specs.Prelude.{ℕ, ◌≡◌, ◌≤◌, ◌+◌, true, List, [], ◌∷◌, length}
use Rattle.lift_base.specs.declared.limits.TheConstants.{MOST_ENTRIES}
use Rattle.lift_world.specs.World.{World, SealedBatch, is_running, state_of, batch_in_flight}
use Rattle.lift_world.specs.Relay.{flown}

-- each of these batches, from here or from where the one before it ends, has at most 63 entries
abbrev pub AreShort : ℕ → List SealedBatch → Type 0
AreShort low [] = Unit {0}
AreShort low (batch ∷ queue) = (batch.upto ≤ low + MOST_ENTRIES) × AreShort batch.upto queue

-- The batch in flight or in doubt has at most 63 entries, and so has the one that is being
-- gathered. While running the first queued one begins where the batch in flight ends, so that each
-- queued one has at most 63 too. A fault leaves batches out of the queue, and then the world
-- doesn't hold where the first one begins: only that some place at or after the end of the batch
-- in doubt lies at most 63 before its end, which bounds no count of its entries; each one after it
-- has at most 63.
pub record HoldsFewEntries (w : World) : Type 0 where
  pub flying : length (batch_in_flight w) ≤ MOST_ENTRIES
  pub begins : ℕ
  pub behind : flown w ≤ begins
  pub first : is_running w.power ≡ true → begins ≡ flown w
  pub queued : AreShort begins w.queue
  pub gathered : length (state_of w).batch ≤ MOST_ENTRIES
