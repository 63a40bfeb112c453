-- What a turn's commit gives of the moments within it, and of the machine's turns.
use Rattle.std.proofs.Common.{◌≡◌, ◌⊎◌, ℕ, false, List, sym, subst, ◌∙◌}
use Rattle.std.specs.Prelude.{Result, Ok, Err, IfOk}
use Rattle.lift_base.specs.declared.history.Entry.{Entry}
use Rattle.lift_disk.specs.Disk.{DiskState, Image, LeavesOnly}
use Rattle.lift_register.specs.Register.{RegisterState, register_of}
use Rattle.lift_policy.specs.Eligible.{Choice}
use Rattle.lift_journal.specs.declared.fault.JournalFault.TheVariants.{Disk}
use Rattle.lift_keeper.specs.declared.fault.KeeperFault.{KeeperFault}
use Rattle.lift_keeper.specs.declared.fault.KeeperFault.TheVariants.{Journal}
use Rattle.lift_keeper.specs.Commits.{CommitsTo}
use Rattle.lift_keeper.specs.Images.{IsImageOf, IsInDoubt}
use Rattle.lift_keeper.specs.Writer.{WriterView}
use Rattle.lift_keeper.specs.lemmas.Committed.{safe_register, whole_before}
use Rattle.lift_clerk.specs.declared.counts.Counts.{Counts}
use Rattle.lift_clerk.specs.Clerk.{ClerkState}
use Rattle.lift_clerk.specs.Machine.{Turns, TurnFails}
use Rattle.lift_clerk.specs.Turn.{IsTurn, IsFailedTurn, batch_size}

-- at each moment of one that begins whole, of any batch that leads to its register
pub moment_of : {D T : Type 0} (state : D → DiskState) (old : WriterView D) (count : ℕ)
    (register : RegisterState) (new : WriterView D) (result : Result T KeeperFault)
    → CommitsTo state old count register new result → old.is_broken ≡ false
    → (batch : List Entry) → register ≡ register_of old.register batch
    → LeavesOnly (state old.device) (state new.device) (IsInDoubt old.plan old.register batch)
moment_of state old count register new result c whole batch same =
    subst (λ (r : RegisterState). LeavesOnly (state old.device) (state new.device)
    (λ (left : Image). IsImageOf old.plan old.register left ⊎ IsImageOf old.plan r left))
    (sym (c.leads whole) ∙ same) (c.is.safe.any_moment whole)

-- what a turn's contract gives of the machine's turns
module _ {D P : Type 0} (state : D → DiskState) (choice : Choice) (before after : ClerkState D P) where
  abbrev pub Committed : Result Counts KeeperFault → Type 0
  Committed result = CommitsTo state before.keeper.writer (batch_size result after.keeper)
      after.keeper.state.register after.keeper.writer result

  abbrev pub the_answer : Result Counts KeeperFault → Result Counts KeeperFault
  the_answer result = result

  pub safe_was_whole : (counts : Counts) → Committed (Ok counts) → before.keeper.writer.is_broken ≡ false
  safe_was_whole counts c =
      whole_before state before.keeper.writer c.batch after.keeper.writer (Ok counts) c.is
      (λ is. absurd (cc))

  abbrev pub turns_of : (result : Result Counts KeeperFault) → Committed result
      → IfOk result (IsTurn choice before after) → IfOk result (Turns choice before after)
  turns_of (Ok counts) c turn = record {
    turn = turn;
    was_whole = safe_was_whole counts c;
    is_whole = c.is.stays.0;
    no_doubt = c.is.stays.1;
    safe = safe_register state before.keeper.writer counts.accepted after.keeper.state.register
        after.keeper.writer (Ok counts) c;
    same_plan = c.is.same.0;
  }
  turns_of (Err fault) c turn = tt

  pub failed_was_whole : (fault : KeeperFault) → Committed (Err fault) → the_answer (Err fault) ≡ Err (Journal Disk)
      → before.keeper.writer.is_broken ≡ false
  failed_was_whole fault c is =
      whole_before state before.keeper.writer c.batch after.keeper.writer (Err fault) c.is
      (λ other. absurd (cc))

  pub never_failed : (counts : Counts) → the_answer (Ok counts) ≡ Err (Journal Disk) → TurnFails choice before after
  never_failed counts is = absurd (cc)

  abbrev pub fails_of : (result : Result Counts KeeperFault) → Committed result
      → result ≡ Err (Journal Disk) → IsFailedTurn choice before after
      → TurnFails choice before after
  fails_of (Ok counts) c is turn = never_failed counts is
  fails_of (Err fault) c is turn = record {
    turn = turn;
    was_whole = failed_was_whole fault c is;
    breaks = c.is.breaks;
    same_register = c.is.unmoved;
    same_plan = c.is.same.0;
  }
