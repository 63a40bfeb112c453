-- What a flusher's turn commits: all that was accepted of what it received, which leads to the
-- register at its end of the line.
use Rattle.std.proofs.Common.{◌≡◌, ℕ, false, List, [], ◌∷◌, ◌++◌, length, drop, refl, ap, ⊎_elim}
use Rattle.std.proofs.Common.{sym, subst, ◌∙◌}
use Rattle.std.proofs.Math.Seq.{drop-append_seam, drop-length}
use Rattle.std.proofs.lemmas.List.{append-nil}
use Rattle.std.specs.Prelude.{Result, OnOk}
use Rattle.lift_base.specs.declared.history.Entry.{Entry}
use Rattle.lift_disk.specs.Disk.{DiskState}
use Rattle.lift_register.specs.Register.{RegisterState, register_of}
use Rattle.lift_policy.specs.Step.{State}
use Rattle.lift_keeper.specs.Commits.{Commits, CommitsTo}
use Rattle.lift_keeper.specs.declared.fault.KeeperFault.{KeeperFault}
use Rattle.lift_parts.specs.declared.counts.FlushCounts.{FlushCounts}
use Rattle.lift_parts.specs.Batch.{BatchState, entries_of_batches}
use Rattle.lift_parts.specs.Line.{ReceiveState, Tries}
use Rattle.lift_parts.specs.Flusher.{FlusherState, IsFlusher, IsEmptyTurn, IsBatchTurn}
use Rattle.lift_parts.specs.Flusher.{entries_received}
use Rattle.lift_parts.specs.Turns.{IsFlush}

-- how many they are
abbrev pub entries_between : ReceiveState → ReceiveState → ℕ
entries_between old new = length (entries_received old new)

pub none_received : (old new : ReceiveState) (tries : Tries)
    → new ≡ record old { tries = tries } → entries_received old new ≡ []
none_received old new tries same =
    ap (λ (r : ReceiveState). entries_received old r) same
    ∙ ap (λ (l : List BatchState). entries_of_batches l) (drop-length old.received)

pub one_received : (old new : ReceiveState) (batch : BatchState)
    → new.received ≡ old.received ++ batch ∷ [] → entries_received old new ≡ batch.entries
one_received old new batch receives =
    ap (λ (l : List BatchState). entries_of_batches (drop (length old.received) l)) receives
    ∙ ap (λ (l : List BatchState). entries_of_batches l)
    (drop-append_seam old.received (batch ∷ [])) ∙ append-nil batch.entries

module _ {D : Type 0} (state : D → DiskState) (f g : FlusherState D)
    (answer : Result FlushCounts KeeperFault) where
  abbrev received : List Entry
  received = entries_received f.end g.end

  leads_empty : IsFlusher f → IsEmptyTurn f g answer
      → Commits {T = FlushCounts} state f.writer received g.writer answer → f.writer.is_broken ≡ false
      → g.end.state.register ≡ register_of f.writer.register received
  leads_empty is e c whole =
      ap (λ (x : FlusherState D). x.end.state.register) e.same ∙ sym (is.safe whole)
      ∙ sym (ap (λ (x : FlusherState D). x.writer.register) e.same)
      ∙ subst (λ (r : Result FlushCounts KeeperFault).
      OnOk r (g.writer.register ≡ register_of f.writer.register received)) (e.whole whole)
      c.safe.register

  leads_batch : IsFlusher f → (batch : BatchState) → IsBatchTurn f g batch answer
      → f.writer.is_broken ≡ false → g.end.state.register ≡ register_of f.writer.register received
  leads_batch is batch t whole =
      ap (λ (s : State). s.register) t.receives.state ∙ t.decided.shows
      ∙ ap (λ (r : RegisterState). register_of r batch.entries)
      (ap (λ (s : State). s.register) t.receives.next.on_state ∙ sym (is.safe whole))
      ∙ ap (λ (es : List Entry). register_of f.writer.register es)
      (sym (one_received f.end g.end batch t.receives.receives))

  -- the commit of a turn leads to the register at its end of the line
  pub commits_to : IsFlush state f g answer → CommitsTo {T = FlushCounts} state f.writer
      (entries_between f.end g.end) g.end.state.register g.writer answer
  commits_to k = record {
    batch = received;
    counted = refl;
    leads = λ whole.
        ⊎_elim (λ (e : IsEmptyTurn f g answer). leads_empty k.before e k.commits whole)
        (λ (t : (batch : BatchState) × IsBatchTurn f g batch answer).
        leads_batch k.before t.0 t.1 whole) k.turns;
    is = k.commits;
  }
