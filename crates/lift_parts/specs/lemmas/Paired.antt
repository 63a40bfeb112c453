-- What any number of turns leave, of either part.
use Rattle.std.proofs.Common.{◌≡◌, true, Option, Some, None, Result, Ok, Err}
use Rattle.std.proofs.Common.{refl, ap, ⊎_elim, subst, sym, ◌∙◌}
use Rattle.lift_disk.specs.Disk.{DiskState}
use Rattle.lift_policy.specs.Eligible.{Choice}
use Rattle.lift_keeper.specs.declared.fault.KeeperFault.{KeeperFault}
use Rattle.lift_keeper.specs.Writer.{WriterView}
use Rattle.lift_clerk.specs.declared.counts.Counts.{Counts}
use Rattle.lift_parts.specs.declared.counts.FlushCounts.{FlushCounts}
use Rattle.lift_parts.specs.Allocator.{AllocatorState, IsAllocation, IsFullTurn, IsScanTurn}
use Rattle.lift_parts.specs.Flusher.{FlusherState}
use Rattle.lift_parts.specs.Parts.{AreOfOne}
use Rattle.lift_parts.specs.Turns.{AllocatorTurns, NoMore, OneMore, HandSent, IsSending}
use Rattle.lift_parts.specs.Turns.{FlusherTurns, NoFlush, OneFlush, IsFlush, first_of}
use Rattle.lift_parts.specs.Turns.{IsSameAllocator, IsSameFlusher}

pub same_policy : {P : Type 0} (choice : Choice) (old new : AllocatorState P) (counts : Counts)
    → IsAllocation choice old new counts → new.policy ≡ old.policy
same_policy {P} choice old new counts turn =
    ⊎_elim (λ (t : IsFullTurn old new counts). ap (λ (a : AllocatorState P). a.policy) t.same)
    (λ (t : IsScanTurn choice old new counts). t.same_place.2) turn

pub turns_more : {P : Type 0} (chooses : P
    → Choice) (first old new : AllocatorState P) (counts : Counts) → old.policy ≡ first.policy
    → AllocatorTurns (chooses first.policy) first old
    → IsAllocation (chooses old.policy) old new counts
    → AllocatorTurns (chooses first.policy) first new
turns_more {P} chooses first old new counts same before turn =
    OneMore before (subst (λ (p : P). IsAllocation (chooses p) old new counts) same turn)

-- one list of turns after another
pub turns_joined : {P : Type 0} (choice : Choice) (a b c : AllocatorState P)
    → AllocatorTurns choice a b → AllocatorTurns choice b c → AllocatorTurns choice a c
turns_joined choice a b c before NoMore = before
turns_joined choice a b c before (OneMore {b = d} more turn) =
    OneMore (turns_joined choice a b d before more) turn
turns_joined choice a b c before (HandSent {b = d} more sending) =
    HandSent (turns_joined choice a b d before more) sending

pub flushes_joined : {D : Type 0} (state : D
    → DiskState) (f g h : FlusherState D) (before first last : Option KeeperFault)
    → FlusherTurns state f before g first
    → FlusherTurns state g first h last → FlusherTurns state f before h last
flushes_joined state f g h before first last turns NoFlush = turns
flushes_joined state f g h before first last turns (OneFlush {g = k} {first = mid} more flush is) =
    OneFlush (flushes_joined state f g k before first mid turns more) flush is

-- ---- what they leave as it is
pub allocator_stays : {P : Type 0} (choice : Choice) (old new : AllocatorState P) (counts : Counts)
    → IsAllocation choice old new counts → IsSameAllocator old new
allocator_stays {P} choice old new counts turn = ⊎_elim
    (λ (t : IsFullTurn old new counts). record {
      line = ap (λ (a : AllocatorState P). a.end.line) t.same;
      desk = ap (λ (a : AllocatorState P). a.desk) t.same;
      plan = ap (λ (a : AllocatorState P). a.plan) t.same;
      policy = ap (λ (a : AllocatorState P). a.policy) t.same;
      start = ap (λ (a : AllocatorState P). a.start) t.same;
    })
    (λ (t : IsScanTurn choice old new counts). let place = t.same_place in
    record { line = place.4; desk = place.0; plan = place.1; policy = place.2; start = place.3 })
    turn

sending_stays : {P : Type 0} (old new : AllocatorState P) → IsSending old new
    → IsSameAllocator old new
sending_stays {P} old new sending = let same = sending.same in
    record {
      line = sending.line;
      desk = ap (λ (a : AllocatorState P). a.desk) same;
      plan = ap (λ (a : AllocatorState P). a.plan) same;
      policy = ap (λ (a : AllocatorState P). a.policy) same;
      start = ap (λ (a : AllocatorState P). a.start) same;
    }

both_stay : {P : Type 0} (a b c : AllocatorState P) → IsSameAllocator a b → IsSameAllocator b c
    → IsSameAllocator a c
both_stay a b c first then = record {
  line = then.line ∙ first.line;
  desk = then.desk ∙ first.desk;
  plan = then.plan ∙ first.plan;
  policy = then.policy ∙ first.policy;
  start = then.start ∙ first.start;
}

pub same_allocator : {P : Type 0} (choice : Choice) (a b : AllocatorState P)
    → AllocatorTurns choice a b → IsSameAllocator a b
same_allocator choice a b NoMore =
    record { line = refl; desk = refl; plan = refl; policy = refl; start = refl }
same_allocator choice a b (OneMore {b = c} {counts = counts} more turn) =
    both_stay a c b (same_allocator choice a c more) (allocator_stays choice c b counts turn)
same_allocator choice a b (HandSent {b = c} more sending) =
    both_stay a c b (same_allocator choice a c more) (sending_stays c b sending)

pub same_flusher : {D : Type 0} (state : D
    → DiskState) (f g : FlusherState D) (before last : Option KeeperFault)
    → FlusherTurns state f before g last → IsSameFlusher f g
same_flusher state f g before last NoFlush =
    record { line = refl; desk = refl; plan = refl; half = refl; failures_at_opening = refl }
same_flusher state f g before last (OneFlush {g = h} {first = first} more flush is) =
    let was = same_flusher state f h before first more in
    record {
      line = flush.same.1 ∙ was.line;
      desk = flush.same.0 ∙ was.desk;
      plan = flush.commits.same.0 ∙ was.plan;
      half = flush.commits.same.1 ∙ was.half;
      failures_at_opening = flush.commits.same.2 ∙ was.failures_at_opening;
    }

pub still_of_one : {D P : Type 0} (a b : AllocatorState P) (f g : FlusherState D)
    → IsSameAllocator a b → IsSameFlusher f g → AreOfOne a f → AreOfOne b g
still_of_one a b f g same_a same_f one = record {
  line = same_f.line ∙ one.line ∙ sym same_a.line;
  desk = same_f.desk ∙ one.desk ∙ sym same_a.desk;
  plan = same_f.plan ∙ one.plan ∙ sym same_a.plan;
}

-- ---- a first fault leaves the writer broken
once_broken : {D : Type 0} (state : D
    → DiskState) (first last : Option KeeperFault) (answer : Result FlushCounts KeeperFault) (g h :
    FlusherState D) → IsFlush state g h answer
    → last ≡ first_of first answer
    → ((fault : KeeperFault) → first ≡ Some fault → g.writer.is_broken ≡ true)
    → (fault : KeeperFault) → last ≡ Some fault → h.writer.is_broken ≡ true
once_broken state None last (Ok counts) g h flush is was fault faults = absurd (cc)
once_broken state None last (Err e) g h flush is was fault faults = flush.commits.breaks
once_broken {D} state (Some e) last answer g h flush is was fault faults =
    let broken = was e refl in ap (λ (w : WriterView D). w.is_broken) (flush.commits.rests broken) ∙ broken

pub faults_broken : {D : Type 0} (state : D
    → DiskState) (f g : FlusherState D) (before last : Option KeeperFault)
    → FlusherTurns state f before g last
    → ((fault : KeeperFault) → before ≡ Some fault → f.writer.is_broken ≡ true)
    → (fault : KeeperFault) → last ≡ Some fault → g.writer.is_broken ≡ true
faults_broken state f g before last NoFlush was = was
faults_broken state f g before last (OneFlush {g = h} {first = e} {answer = x} more flush is) was =
    once_broken state e last x h g flush is (faults_broken state f h before e more was)
