-- What a run leaves, of both parts.
use Rattle.std.proofs.Common.{◌≡◌, true, List, [], length, Option, Some, None, refl, ap, subst, inl, inr, sym, ◌∙◌}
use Rattle.std.specs.Prelude.{option_map, Result, Ok, Err}
use Rattle.std.specs.Option.{option_or}
use Rattle.std.specs.Result.{result_err}
use Rattle.lift_base.specs.declared.history.Entry.{Entry}
use Rattle.lift_world.specs.declared.event.Taken.{Taken}
use Rattle.lift_disk.specs.Disk.{DiskState}
use Rattle.lift_register.specs.Register.{RegisterState}
use Rattle.lift_policy.specs.Eligible.{Choice}
use Rattle.lift_keeper.specs.declared.fault.KeeperFault.{KeeperFault}
use Rattle.lift_relay.specs.declared.pair.RunFault.{RunFault}
use Rattle.lift_relay.specs.declared.pair.RunFault.TheVariants.{Keeper, Spawn}
use Rattle.lift_parts.specs.Allocator.{AllocatorState}
use Rattle.lift_parts.specs.Flusher.{FlusherState}
use Rattle.lift_parts.specs.declared.counts.FlushCounts.{FlushCounts}
use Rattle.lift_parts.specs.Turns.{AllocatorTurns, FlusherTurns, IsFlush, NoMore, NoFlush, OneFlush, first_of}
use Rattle.lift_parts.specs.Parts.{AreOfOne}
use Rattle.lift_relay.specs.Pair.{HaveRun, IsRun, AreSameParts, TurnsPreserveParts}
use Rattle.lift_clerk.specs.History.{History}
use Rattle.lift_parts.specs.History.{GoesOnTo, TurnsGoOn, group_after}
use Rattle.lift_parts.specs.lemmas.Paired.{turns_joined, flushes_joined, same_allocator, same_flusher, still_of_one, faults_broken}

first_is : (first : Option KeeperFault) (answer : Result FlushCounts KeeperFault) → option_or first (result_err answer) ≡ first_of first answer
first_is None (Ok counts) = refl
first_is None (Err fault) = refl
first_is (Some of) answer = refl

-- one turn more, which told its fault if there was none before
pub one_flush : {D : Type 0} (state : D → DiskState) (f g h : FlusherState D) (before first of last : Option KeeperFault) (answer : Result FlushCounts KeeperFault)
    → FlusherTurns state f before g first → IsFlush state g h answer → of ≡ result_err answer → last ≡ option_or first of → FlusherTurns state f before h last
one_flush state f g h before first of last answer turns flush is told = OneFlush turns flush (told ∙ ap (option_or first) is ∙ first_is first answer)

abbrev pub fault_of : Option KeeperFault → Option RunFault
fault_of first = option_map (λ (of : KeeperFault). Keeper of) first

keeper_of : (first : Option KeeperFault) (fault : KeeperFault) → fault_of first ≡ Some (Keeper fault) → first ≡ Some fault
keeper_of None fault is = absurd (cc)
keeper_of (Some e) fault is = cc

not_spawn : (first : Option KeeperFault) → fault_of first ≡ Some (Spawn tt) → ⊥
not_spawn None is = cc
not_spawn (Some e) is = cc

pub turns_keep : {D P : Type 0} (choice : Choice) (state : D → DiskState) → TurnsPreserveParts D P state choice
turns_keep choice state a b f g before last turns flushes one =
    let allocator = same_allocator choice a b turns in
    let flusher = same_flusher state f g before last flushes in
    record { same_allocator = allocator; same_flusher = flusher; of_one = still_of_one a b f g allocator flusher one }

module _ {D P : Type 0} (choice : Choice) (state : D → DiskState) (a b : AllocatorState P) (f g : FlusherState D) (fault : Option RunFault) where
  pub refused_of : IsRun choice state a b f g fault → fault ≡ Some (Spawn tt) → (b ≡ a) × (g ≡ f)
  refused_of (inl refused) is = refused.1
  refused_of (inr run) is = absurd (not_spawn run.0.first (sym run.0.is_first ∙ is))

  pub ran_of : IsRun choice state a b f g fault → (fault ≡ Some (Spawn tt) → ⊥) → HaveRun choice state a b f g fault × (length b.end.sent ≡ length g.end.received)
  ran_of (inl refused) goes = absurd (goes refused.0)
  ran_of (inr run) goes = run

  pub broken_of : IsRun choice state a b f g fault → (of : KeeperFault) → fault ≡ Some (Keeper of) → g.writer.is_broken ≡ true
  broken_of (inl refused) of is = absurd (let none = refused.0 in cc)
  broken_of (inr run) of is = faults_broken state f g None run.0.first run.0.flusher (λ e none. absurd (cc)) of (keeper_of run.0.first of (sym run.0.is_first ∙ is))

  pub stay_of : TurnsPreserveParts D P state choice → IsRun choice state a b f g fault → AreOfOne a f → AreSameParts a b f g
  stay_of law (inl refused) one =
      subst (λ (p : AllocatorState P × FlusherState D). AreSameParts a p.0 f p.1) (λ i. (sym refused.1.0 i, sym refused.1.1 i)) (law a a f f None None NoMore NoFlush one)
  stay_of law (inr run) one = law a b f g None run.0.first run.0.allocator run.0.flusher one

-- What a run adds to what has happened: nothing, if no thread could be made.
pub goes_on : {D P : Type 0} (choice : Choice) (state : D → DiskState) (a b : AllocatorState P) (f g : FlusherState D) (fault : Option RunFault) → TurnsGoOn D state
    → IsRun choice state a b f g fault → (base : RegisterState) (safe : List Entry) (given : List Taken) → History base (group_after f) safe given → GoesOnTo f g base safe given
goes_on {D} choice state a b f g fault law (inl refused) base safe given h =
    subst (λ (x : FlusherState D). GoesOnTo f x base safe given) (sym refused.1.1) (law f f None None NoFlush base safe given h)
goes_on choice state a b f g fault law (inr run) base safe given h = law f g None run.0.first run.0.flusher base safe given h

-- a drain after the turns of both parts
pub run_of : {D P : Type 0} (chooses : P → Choice) (state : D → DiskState) (a b c : AllocatorState P) (f g h : FlusherState D) (first : Option KeeperFault) (fault : Option RunFault)
    → AllocatorTurns (chooses a.policy) a b → FlusherTurns state f None g first → AllocatorTurns (chooses b.policy) b c
    → ((last : Option KeeperFault) × FlusherTurns state g first h last × (fault ≡ fault_of last)) → c.hand ≡ [] → length c.end.sent ≡ length h.end.received
    → IsRun (chooses a.policy) state a c f h fault
run_of {D} {P} chooses state a b c f g h first fault turns flushes rest drain none all = inr (
  record {
    first = drain.0;
    is_first = drain.2;
    allocator = turns_joined (chooses a.policy) a b c turns
        (subst (λ (p : P). AllocatorTurns (chooses p) b c) (same_allocator (chooses a.policy) a b turns).policy rest);
    flusher = flushes_joined state f g h None first drain.0 flushes drain.1;
    nothing_in_hand = none;
  },
  all,
)

-- a run of the same parts, as they stand now
pub run_is : {D P : Type 0} (state : D → DiskState) (choice : Choice) (a b c : AllocatorState P) (f g h : FlusherState D) (fault : Option RunFault) → c ≡ b → h ≡ g
    → IsRun choice state a b f g fault → IsRun choice state a c f h fault
run_is {D} {P} state choice a b c f g h fault same_a same_f run =
    subst (λ (p : AllocatorState P × FlusherState D). IsRun choice state a p.0 f p.1 fault) (λ i. (sym same_a i, sym same_f i)) run
