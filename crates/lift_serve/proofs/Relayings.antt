-- What a run of both parts comes to.
use Rattle.std.proofs.Common.{◌≡◌, ◌||◌, true, false, List, Option, Some, None, refl, sym, ap, subst, ◌∙◌, arith}
use Rattle.std.specs.Prelude.{Result, Ok, Err, IsErr}
use Rattle.std.proofs.lemmas.Grind.{common_steps}
use Rattle.lift_base.specs.declared.history.Entry.{Entry}
use Rattle.lift_disk.specs.Disk.{DiskState, LeavesNow}
use Rattle.lift_register.specs.Register.{RegisterState}
use Rattle.lift_policy.specs.Eligible.{Choice}
use Rattle.lift_keeper.specs.declared.fault.KeeperFault.{KeeperFault}
use Rattle.lift_keeper.specs.Images.{IsImageOf, IsInDoubt}
use Rattle.lift_keeper.specs.Keeper.{KeeperView}
use Rattle.lift_world.specs.declared.event.Taken.{Taken}
use Rattle.lift_clerk.specs.History.{History}
use Rattle.lift_clerk.specs.Keeping.{LeavesSafe}
use Rattle.lift_relay.specs.declared.pair.RunFault.{RunFault}
use Rattle.lift_relay.specs.declared.pair.RunFault.TheVariants.{Keeper, Spawn}
use Rattle.lift_parts.specs.Allocator.{AllocatorState}
use Rattle.lift_relay.specs.Pair.{HaveRun}
use Rattle.lift_relay.specs.lemmas.Notified.{turns_stay}
use Rattle.lift_parts.specs.declared.counts.FlushCounts.{FlushCounts}
use Rattle.lift_parts.specs.Flusher.{FlusherState}
use Rattle.lift_parts.specs.Keeping.{HaveKept, TurnsKeep}
use Rattle.lift_parts.specs.History.{group_after}
use Rattle.lift_parts.specs.Turns.{FlusherTurns, IsFlush, NoFlush, OneFlush, first_of}
use Rattle.lift_serve.specs.declared.serving.ServeFault.{ServeFault}
use Rattle.lift_serve.specs.Open.{EndedState, IsEndAt, IsReportOf, ServingEndState, ended_in, reported_after}
use Rattle.lift_serve.specs.Relaying.{HaveRunOrNot, HaveServed, ServingKeeps, has_failed}

module _ {D : Type 0} (state : D → DiskState) where
  is_whole : (f g : FlusherState D) (first : Option KeeperFault) (answer : Result FlushCounts KeeperFault) → IsFlush state f g answer → first_of first answer ≡ None
      → g.writer.is_broken ≡ false
  is_whole f g None (Ok counts) flush none = flush.commits.stays.0
  is_whole f g None (Err fault) flush none = cc
  is_whole f g (Some fault) answer flush none = cc

  -- A flusher without a fault is broken where it was.
  breaks_nothing : (f g : FlusherState D) (first last : Option KeeperFault) → FlusherTurns state f first g last → last ≡ None → g.writer.is_broken ≡ f.writer.is_broken
  breaks_nothing f g first last NoFlush none = refl
  breaks_nothing f h before last (OneFlush {g = g} {first = first} {answer = answer} more flush is) none =
      let stays = turns_stay state f h before last (OneFlush more flush is) in
      let whole = is_whole g h first answer flush (sym is ∙ none) in
      grind arith

module _ {D P : Type 0} (choice : Choice) (state : D → DiskState) (a b : AllocatorState P) (f g : FlusherState D) where
  breaks : (fault : Option RunFault) → HaveRunOrNot choice state a b f g fault → g.writer.is_broken ≡ (has_failed fault || f.writer.is_broken)
  breaks None run =
      let ran = run.ran (λ is. cc) in
      breaks_nothing state f g None ran.first ran.flusher (let is = ran.is_first in grind arith)
  breaks (Some (Spawn no_thread)) run = ap (λ (x : FlusherState D). x.writer.is_broken) (run.refused refl).1
  breaks (Some (Keeper of)) run = run.broken of refl

-- What was answered before is kept by the turns that both parts had, if they had any.
module _ {D P : Type 0} (choice : Choice) (state : D → DiskState) (law : TurnsKeep D state) (a b : AllocatorState P) (f g : FlusherState D)
    (base : RegisterState) (safe : List Entry) (given : List Taken) (history : History base (group_after f) safe given) where
  kept_run : (fault : Option RunFault) → HaveRun choice state a b f g fault → HaveKept state base f g safe given
  kept_run fault run = law f g None run.first base safe given history run.flusher

  kept_on : (fault : Option RunFault) → HaveRunOrNot choice state a b f g fault → HaveKept state base f g safe given
  kept_on None run = kept_run None (run.ran (λ is. cc))
  kept_on (Some (Keeper of)) run = kept_run (Some (Keeper of)) (run.ran (λ is. cc))
  kept_on (Some (Spawn no_thread)) run = subst (λ (x : FlusherState D). HaveKept state base f x safe given) (sym (run.refused refl).1) (law f f None None base safe given history NoFlush)

pub serving_keeps : {D P : Type 0} (choice : Choice) (state : D → DiskState) → TurnsKeep D state → (a b : AllocatorState P) (f began g : FlusherState D) (fault : Option RunFault) → began ≡ f
    → HaveRunOrNot choice state a b began g fault → ServingKeeps state f g
serving_keeps {D} choice state law a b f began g fault same run =
    subst (λ (x : FlusherState D). ServingKeeps state x g) same (λ base safe given history. kept_on choice state law a b began g base safe given history fault run)

-- parts that no thread could be made for are as they were
pub not_run : {D P : Type 0} (choice : Choice) (state : D → DiskState) (a : AllocatorState P) (f : FlusherState D) → HaveRunOrNot choice state a a f f (Some (Spawn tt))
not_run choice state a f = record {
  refused = λ spawn. (refl, refl);
  ran = λ other. absurd (other refl);
  received = λ other. absurd (other refl);
  broken = λ of is. cc;
}

-- a crash leaves what a keeper says is safe, or that with what is in doubt
pub leaves_safe : {D : Type 0} (state : D → DiskState) (keeper : KeeperView D) (shown : RegisterState) → shown ≡ keeper.writer.register
    → (keeper.writer.is_broken ≡ false → LeavesNow (state keeper.writer.device) (IsImageOf keeper.writer.plan shown))
    → (keeper.writer.is_broken ≡ true → LeavesNow (state keeper.writer.device) (IsInDoubt keeper.writer.plan shown keeper.writer.doubt))
    → LeavesSafe keeper.writer (state keeper.writer.device)
leaves_safe state keeper shown is whole broken honest left may = grind (arith, common_steps)

-- that connections have ended is told where so many have, and where nothing is told as the fault
pub report_of : (over : Result EndedState (Unit {0})) (first : Option ServeFault) (bound began : EndedState) (end : ServingEndState) → began ≡ bound → IsEndAt began over
    → end.fault ≡ reported_after over first → end.ended ≡ ended_in over → IsReportOf bound end
report_of over first bound began end same at_end says is = record {
  ended = grind (arith, common_steps);
  counted = λ none. grind (arith, common_steps);
}

pub have_served : {D P : Type 0} (chooses : P → Choice) (state : D → DiskState) (a begun b : AllocatorState P) (f began g : FlusherState D) (fault : Option RunFault)
    (over : Result EndedState (Unit {0})) (first told : Option ServeFault) → begun ≡ a → began ≡ f → HaveRunOrNot (chooses begun.policy) state begun b began g fault
    → (fault ≡ Some (Spawn tt) → IsErr over) → told ≡ reported_after over first → HaveServed chooses state a b f g told
have_served {D} {P} chooses state a begun b f began g fault over first told same so run given_up says =
    subst (λ (p : AllocatorState P × FlusherState D). HaveServed chooses state p.0 b p.1 g told) (λ i. (same i, so i)) (record {
      fault = fault;
      ran = run;
      tells = λ spawn. (let gone = given_up spawn in grind (arith, common_steps));
      broken = breaks (chooses begun.policy) state begun b began g fault run;
    })
