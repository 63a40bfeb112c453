-- A flusher's turn, of what it received and what its settler did.
use Rattle.std.proofs.Common.{◌≡◌, inl, inr, true, List, [], length, refl, sym, ap, subst}
use Rattle.std.specs.Prelude.{Result, Ok, Err, IsOk, IfOk}
use Rattle.lift_base.specs.declared.history.Entry.{Entry}
use Rattle.lift_disk.specs.Disk.{DiskState}
use Rattle.lift_keeper.specs.declared.fault.KeeperFault.{KeeperFault}
use Rattle.lift_keeper.specs.Commits.{Commits}
use Rattle.lift_keeper.specs.Calls.{CommitCalls}
use Rattle.lift_keeper.specs.lemmas.Committed.{some_failed}
use Rattle.lift_parts.specs.declared.counts.FlushCounts.{FlushCounts}
use Rattle.lift_parts.specs.Batch.{BatchState}
use Rattle.lift_parts.specs.Line.{ReceiveState, ReceivesOne, FindsNone, tried}
use Rattle.lift_parts.specs.Flusher.{FlusherState, IsFlusher}
use Rattle.lift_parts.specs.Turns.{IsFlush}
use Rattle.lift_parts.specs.lemmas.Received.{none_received, one_received}
use Rattle.lift_relay.specs.Settler.{SettlerState, SettlesBatch}

-- a flusher of both its halves
abbrev pub flusher_of : {D : Type 0} → SettlerState D → ReceiveState → FlusherState D
flusher_of s end = record { desk = s.desk; seat = s.seat; writer = s.writer; end = end }

ok_is : (answer : Result FlushCounts KeeperFault) (counts : FlushCounts) → IsOk answer → IfOk answer (λ it. it ≡ counts) → answer ≡ Ok counts
ok_is (Ok it) counts is same = ap (λ (n : FlushCounts). Ok n) same
ok_is (Err fault) counts is same = absurd (cc)

module _ {D : Type 0} (state : D → DiskState) (s t : SettlerState D) (end after : ReceiveState) (is_flusher : IsFlusher (flusher_of s end)) (answer : Result FlushCounts KeeperFault) where
  -- that received nothing
  pub idle : FindsNone end after → t ≡ s → Commits state s.writer [] t.writer answer → IfOk answer (λ counts. counts ≡ record { batches = 0; answers = 0 }) → CommitCalls state s.writer 0 t.writer answer
      → IsFlush state (flusher_of s end) (flusher_of t after) answer
  idle finds same c zero made =
      let none = none_received end after (tried end.tries true) finds.tries in
      record {
        before = is_flusher;
        turns = inl (record {
          was_empty = finds.was_empty;
          same = λ i. flusher_of (same i) (finds.tries i);
          whole = λ whole. ok_is answer _ (c.empty whole refl).0 zero;
          broken = λ broken. c.broken.1 broken;
        });
        commits = subst (λ (es : List Entry). Commits state s.writer es t.writer answer) (sym none) c;
        calls = subst (λ (es : List Entry). CommitCalls state s.writer (length es) t.writer answer) (sym none) made;
        same = (ap (λ (v : SettlerState D). v.desk) same, ap (λ (r : ReceiveState). r.line) finds.tries);
      }

  -- that received a batch
  pub flushed : (batch : BatchState) → ReceivesOne end batch after → SettlesBatch state s batch t answer → CommitCalls state s.writer (length batch.entries) t.writer answer → IsFlush state (flusher_of s end) (flusher_of t after) answer
  flushed batch receives settles made =
      let one = one_received end after batch receives.receives in
      record {
        before = is_flusher;
        turns = inr (
          batch,
          record {
            receives = receives;
            answered = settles.answered;
            counts = settles.counts;
            fails = λ is. (settles.commits.doubts is, some_failed state s.writer batch.entries t.writer answer settles.commits is);
            decided = settles.decided;
            at_desk = settles.at_desk;
            apart = settles.apart;
          },
        );
        commits = subst (λ (es : List Entry). Commits state s.writer es t.writer answer) (sym one) settles.commits;
        calls = subst (λ (es : List Entry). CommitCalls state s.writer (length es) t.writer answer) (sym one) made;
        same = (settles.same, receives.same.0);
      }
