-- What both parts do in a run, each on its own thread.
use Rattle.std.specs.Prelude.{◌≡◌, ◌⊎◌, [], length, false, Option, Some, None, option_map}
use Rattle.std.specs.Prelude.{Result, Ok, Err}
use Rattle.lift_disk.specs.Disk.{DiskState}
use Rattle.lift_policy.specs.Eligible.{Choice}
use Rattle.lift_keeper.specs.declared.fault.KeeperFault.{KeeperFault}
use Rattle.lift_relay.specs.declared.gate.GatedAllocator.{GatedAllocator}
use Rattle.lift_relay.specs.declared.pair.RunFault.{RunFault}
use Rattle.lift_relay.specs.declared.pair.RunFault.TheVariants.{Keeper, Spawn}
use Rattle.lift_parts.specs.Turns.{AllocatorTurns, FlusherTurns, IsSameAllocator, IsSameFlusher}
use Rattle.lift_parts.specs.Allocator.{AllocatorState}
use Rattle.lift_parts.specs.Flusher.{FlusherState}
use Rattle.lift_parts.specs.Parts.{AreOfOne}

-- the part after its turns, whose gate has said not to go on, or as it was
abbrev pub ComesFrom : {P : Type 0} → Choice → AllocatorState P
    → Result (GatedAllocator P) (AllocatorState P) → Type 0
ComesFrom choice old (Ok ran) = AllocatorTurns choice old ran.allocator × (ran.goes_on ≡ false)
ComesFrom choice old (Err idle) = idle ≡ old

-- Each part had its turns, and what was in hand then was sent. The fault is the flusher's first, if
-- it had one.
pub record HaveRun {D P : Type 0} (choice : Choice) (state : D → DiskState)
    (a b : AllocatorState P) (f g : FlusherState D) (fault : Option RunFault) : Type 0 where
  pub first : Option KeeperFault
  pub is_first : fault ≡ option_map (λ (of : KeeperFault). Keeper of) first
  pub allocator : AllocatorTurns choice a b
  pub flusher : FlusherTurns state f None g first
  pub nothing_in_hand : b.hand ≡ []

-- The parts stay what they were: each is where it was and works for what it did, and both are of one.
-- So they can be joined, or run again.
pub record AreSameParts {D P : Type 0} (a b : AllocatorState P) (f g : FlusherState D) : Type 0 where
  pub same_allocator : IsSameAllocator a b
  pub same_flusher : IsSameFlusher f g
  pub of_one : AreOfOne b g

-- whatever turns parts of one have had, they stay the same parts
abbrev pub TurnsPreserveParts : (D P : Type 0) → (D → DiskState) → Choice → Type 0
TurnsPreserveParts D P state choice = (a b : AllocatorState P) (f g : FlusherState D)
    (before last : Option KeeperFault) → AllocatorTurns choice a b
    → FlusherTurns state f before g last → AreOfOne a f → AreSameParts a b f g

-- No thread could be made, and both parts are as they were; or both have run, and as many batches were
-- received as were sent.
abbrev pub IsRun : {D P : Type 0} → Choice → (D → DiskState) → AllocatorState P → AllocatorState P
    → FlusherState D → FlusherState D → Option RunFault → Type 0
IsRun choice state a b f g fault = ((fault ≡ Some (Spawn tt)) × ((b ≡ a) × (g ≡ f)))
    ⊎ (HaveRun choice state a b f g fault × (length b.end.sent ≡ length g.end.received))
