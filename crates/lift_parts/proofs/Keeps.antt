-- Whatever turns a flusher has made, what was given is kept.
use Rattle.std.proofs.Common.{List, [], ◌++◌, Option, Result, refl}
use Rattle.std.proofs.lemmas.List.{append-nil}
use Rattle.lift_base.specs.declared.history.Entry.{Entry}
use Rattle.lift_disk.specs.Disk.{DiskState, LeavesOnly}
use Rattle.lift_disk.specs.lemmas.Moments.{leaves_then, leaves_weaker}
use Rattle.lift_register.specs.Register.{RegisterState}
use Rattle.lift_keeper.specs.declared.fault.KeeperFault.{KeeperFault}
use Rattle.lift_world.specs.declared.event.Taken.{Taken}
use Rattle.lift_clerk.specs.Keeping.{CrashesKeep, KeepsAll, KeepsEither, LeavesSafe}
use Rattle.lift_clerk.specs.lemmas.Keeps.{keeps_fewer, keeps_first, kept_now}
use Rattle.lift_parts.specs.declared.counts.FlushCounts.{FlushCounts}
use Rattle.lift_parts.specs.Flusher.{FlusherState}
use Rattle.lift_parts.specs.Turns.{FlusherTurns, IsFlush, NoFlush, OneFlush}
use Rattle.lift_parts.specs.History.{FlushesStand, FlushStands, group_after}
use Rattle.lift_parts.specs.Keeping.{HaveKept, KeepingTurns, NoneYet, OneKept, TurnsKeep}
use Rattle.lift_parts.specs.lemmas.Received.{commits_to}
use Rattle.lift_parts.proofs.GoesOn.{leaves_after}

module _ {D : Type 0} (state : D → DiskState) where
  -- each turn leaves what is safe or in doubt
  leaves_on : (f g : FlusherState D) (first last : Option KeeperFault) → LeavesSafe f.writer (state f.writer.device) → FlusherTurns state f first g last → LeavesSafe g.writer (state g.writer.device)
  leaves_on f g first last leaves NoFlush = leaves
  leaves_on f g first last leaves (OneFlush {g = m} {first = before} {answer = answer} more flush is) = leaves_after state m g answer (commits_to state m g answer flush) (leaves_on f m first before leaves more)

  -- what had been given before a turn is kept throughout it,
  within : (base : RegisterState) (g h : FlusherState D) (mid : List Entry) (now : List Taken) → FlushStands g h base mid now (state g.writer.device) (state h.writer.device) → LeavesOnly (state g.writer.device) (state h.writer.device) (KeepsAll D g.writer.plan base now)
  within base g h mid now s = leaves_weaker (state g.writer.device) (state h.writer.device) (KeepsEither D g.writer.plan base mid s.batch now) (KeepsAll D g.writer.plan base now)
      (λ honest left kept. keeps_first g.writer.plan g.writer.plan base mid s.batch now now left refl ([], append-nil now) kept) s.stands

  -- and as long as all is that was given at its end
  since : (base : RegisterState) (g h : FlusherState D) (mid : List Entry) (now : List Taken) (answer : Result FlushCounts KeeperFault) → IsFlush state g h answer → (s : FlushStands g h base mid now (state g.writer.device) (state h.writer.device)) → (last : DiskState)
      → LeavesOnly (state h.writer.device) last (KeepsAll D h.writer.plan base (now ++ s.goes_on.replied)) → LeavesOnly (state g.writer.device) last (KeepsAll D g.writer.plan base now)
  since base g h mid now answer flush s last keeps = leaves_then (state g.writer.device) (state h.writer.device) last (KeepsAll D g.writer.plan base now) (within base g h mid now s)
      (leaves_weaker (state h.writer.device) last (KeepsAll D h.writer.plan base (now ++ s.goes_on.replied)) (KeepsAll D g.writer.plan base now)
      (λ honest left kept. keeps_fewer g.writer.plan h.writer.plan base now s.goes_on.replied left flush.commits.same.0 kept) keeps)

  -- so the same turns lose nothing until a later device either
  lasting : (base : RegisterState) (until : DiskState) (f : FlusherState D) (safe : List Entry) (given : List Taken) (g : FlusherState D) (mid : List Entry) (now : List Taken) (last : DiskState) → KeepingTurns state base until f safe given g mid now
      → LeavesOnly (state g.writer.device) last (KeepsAll D g.writer.plan base now) → KeepingTurns state base last f safe given g mid now
  lasting base until f safe given g mid now last NoneYet keeps = NoneYet
  lasting base until f safe given h end later last (OneKept {g = g} {mid = mid} {now = now} {answer = answer} turns flush s kept) keeps =
      let before = since base g h mid now answer flush s last keeps in
      OneKept (lasting base until f safe given g mid now last turns before) flush s before

  pub turns_keep : CrashesKeep D → FlushesStand D state → TurnsKeep D state
  turns_keep law stand f g first last base safe given h NoFlush =
      record { now_safe = safe; now_given = given; turns = NoneYet; history = h; kept = kept_now law base (group_after f) safe given h (state f.writer.device) }
  turns_keep law stand f g first last base safe given h (OneFlush {g = m} {first = before} {answer = answer} more flush is) =
      let k : HaveKept state base f m safe given = turns_keep law stand f m first before base safe given h more in
      let s = stand m g answer flush base k.now_safe k.now_given k.history in
      let before_it = within base m g k.now_safe k.now_given s in
      record {
        now_safe = k.now_safe ++ s.goes_on.more;
        now_given = k.now_given ++ s.goes_on.replied;
        turns = OneKept (lasting base (state m.writer.device) f safe given m k.now_safe k.now_given (state g.writer.device) k.turns before_it) flush s before_it;
        history = s.goes_on.history;
        kept = λ leaves. s.now (leaves_on f m first before leaves more);
      }
