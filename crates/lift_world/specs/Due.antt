-- When a command becomes due.
use Rattle.std.specs.Prelude.{◌≡◌, ◌⊎◌, ◌≤◌, ◌||◌, true, ◌∷◌, All, Contains, Some}
use Rattle.lift_base.specs.declared.command.Reply.TheVariants.{Unknown}
use Rattle.lift_world.specs.declared.event.Taken.{Taken}
use Rattle.lift_world.specs.declared.event.Event.{Event}
use Rattle.lift_world.specs.World.{World, SealedBatch, is_broken}
use Rattle.lift_world.specs.Next.{next}
use Rattle.lift_world.specs.Headline.{HoldsNothingWhileOff}

-- its batch, the one in flight or a queued one, is safe now
pub record IsOfSafeBatch (w after : World) (c : Taken) : Type 0 where
  pub batch : SealedBatch
  pub sealed : Contains (w.flight ∷ w.queue) batch
  pub held : Contains batch.commands c
  pub safe : batch.upto ≤ after.safe

-- a device call failed, with that event or since the last opening, and it gets Unknown
pub record GetsUnknown (w after : World) (c : Taken) : Type 0 where
  pub reply : c.reply ≡ Unknown
  pub fails : (is_broken w.power || is_broken after.power) ≡ true

-- Whatever comes, a command that is due was so before, or its batch, refusals and all, became safe
-- with that event, or it gets Unknown. A cut leaves nothing that its recovery could make due.
abbrev pub DueOnceSafe : World → Type 0
DueOnceSafe w = HoldsNothingWhileOff w → (event : Event) (after : World) → next w event ≡ Some after
    → All (λ (c : Taken). Contains w.due c ⊎ IsOfSafeBatch w after c
    ⊎ GetsUnknown w after c) after.due
