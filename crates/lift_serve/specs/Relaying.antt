-- What becomes of both parts of a clerk that two threads run.
use Rattle.std.specs.Prelude.{◌≡◌, ◌≢◌, Bool, true, false, ◌||◌, List, Option}
use Rattle.std.specs.Prelude.{Some}
use Rattle.lift_base.specs.declared.history.Entry.{Entry}
use Rattle.lift_disk.specs.Disk.{DiskState}
use Rattle.lift_register.specs.Register.{RegisterState}
use Rattle.lift_policy.specs.Eligible.{Choice}
use Rattle.lift_keeper.specs.declared.fault.KeeperFault.{KeeperFault}
use Rattle.lift_world.specs.declared.event.Taken.{Taken}
use Rattle.lift_clerk.specs.History.{History}
use Rattle.lift_relay.specs.declared.pair.RunFault.{RunFault}
use Rattle.lift_relay.specs.declared.pair.RunFault.TheVariants.{Keeper, Spawn}
use Rattle.lift_parts.specs.Allocator.{AllocatorState}
use Rattle.lift_parts.specs.Flusher.{FlusherState}
use Rattle.lift_parts.specs.History.{group_after}
use Rattle.lift_parts.specs.Keeping.{HaveKept}
use Rattle.lift_relay.specs.Pair.{HaveRun}
use Rattle.lift_serve.specs.declared.serving.ServeFault.{ServeFault}
use Rattle.lift_serve.specs.declared.serving.ServeFault.TheVariants.{Thread}

-- Both parts ran, and all that was sent is received and answered; or no thread could be made, and
-- they are as they were.
pub record HaveRunOrNot {D P : Type 0} (choice : Choice) (state : D → DiskState)
    (a b : AllocatorState P) (f g : FlusherState D) (fault : Option RunFault) : Type 0 where
  pub refused : fault ≡ Some (Spawn tt) → (b ≡ a) × (g ≡ f)
  pub ran : fault ≢ Some (Spawn tt) → HaveRun choice state a b f g fault
  pub received : fault ≢ Some (Spawn tt) → b.end.sent ≡ g.end.received
  pub broken : (of : KeeperFault) → fault ≡ Some (Keeper of) → g.writer.is_broken ≡ true

-- whether a turn of the flusher failed
abbrev pub has_failed : Option RunFault → Bool
has_failed (Some (Keeper fault)) = true
has_failed _ = false

-- Both parts were served: they ran, each by its turns alone, or came to a fault; or no thread could be had,
-- and that is reported, whatever else there was. The flusher is broken exactly where it was before, or a
-- turn of it failed.
pub record HaveServed {D P : Type 0} (chooses : P → Choice) (state : D → DiskState)
    (a b : AllocatorState P) (f g : FlusherState D) (reported : Option ServeFault) : Type 0 where
  pub fault : Option RunFault
  pub ran : HaveRunOrNot (chooses a.policy) state a b f g fault
  pub tells : fault ≡ Some (Spawn tt) → reported ≡ Some Thread
  pub broken : g.writer.is_broken ≡ (has_failed fault || f.writer.is_broken)

-- Whatever was safe and answered before is kept, and what was answered meanwhile: at each moment of each
-- turn a crash leaves an image that does.
abbrev pub ServingKeeps : {D : Type 0} → (D → DiskState) → (f g : FlusherState D) → Type 0
ServingKeeps state f g = (base : RegisterState) (safe : List Entry) (given : List Taken)
    → History base (group_after f) safe given → HaveKept state base f g safe given
