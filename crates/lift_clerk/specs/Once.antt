-- What one turn of a running clerk says, and one reopening, whatever they answer.
use Rattle.std.specs.Prelude.{◌≡◌, ◌⊎◌, true, List, Result, Err, IfOk, OnOk, OnErr, is_err}
use Rattle.lift_base.specs.declared.history.Entry.{Entry}
use Rattle.lift_disk.specs.Disk.{DiskState}
use Rattle.lift_register.specs.Register.{RegisterState}
use Rattle.lift_policy.specs.Eligible.{Choice}
use Rattle.lift_decider.specs.Decider.{starting}
use Rattle.lift_journal.specs.declared.fault.JournalFault.TheVariants.{Disk, Broken}
use Rattle.lift_keeper.specs.declared.fault.KeeperFault.{KeeperFault}
use Rattle.lift_keeper.specs.declared.fault.KeeperFault.TheVariants.{Journal}
use Rattle.lift_keeper.specs.Commits.{CommitsTo}
use Rattle.lift_keeper.specs.Calls.{CommitCalls}
use Rattle.lift_keeper.specs.Recovers.{Recovers}
use Rattle.lift_clerk.specs.declared.counts.Counts.{Counts}
use Rattle.lift_clerk.specs.Clerk.{ClerkState}
use Rattle.lift_clerk.specs.Turn.{IsTurn, IsFailedTurn, IsBrokenTurn, batch_size}
use Rattle.lift_world.specs.declared.event.Taken.{Taken}
use Rattle.lift_clerk.specs.Steps.{group_of, TurnAdds}
use Rattle.lift_clerk.specs.Machine.{ClerkReopens, Stays}
use Rattle.lift_clerk.specs.History.{History}
use Rattle.lift_clerk.specs.Keeping.{AdvancesFrom}

-- A turn that answers Ok, one that the device failed, or one while broken.
pub record TurnsOnce {D P : Type 0} (state : D → DiskState) (choice : Choice)
    (before after : ClerkState D P) (result : Result Counts KeeperFault) : Type 0 where
  pub turns : IfOk result (IsTurn choice before after)
  pub fails : result ≡ Err (Journal Disk) → IsFailedTurn choice before after
  pub rests : result ≡ Err (Journal Broken) → IsBrokenTurn before after
  -- What its commit leaves, which faults there are, and that a clerk which answers that it is broken
  -- was broken before. So it is one of the machine (`turns_of`, `fails_of` of the lemmas).
  pub commits : CommitsTo state before.keeper.writer (batch_size result after.keeper)
      after.keeper.state.register after.keeper.writer result
  -- It makes the calls of the device that this takes, and no others.
  pub calls : CommitCalls state before.keeper.writer (batch_size result after.keeper)
      after.keeper.writer result
  pub kept : (after.desk ≡ before.desk) × (after.policy ≡ before.policy)

-- A reopening of the machine, where the device is honest; or it was refused, and but for a failed
-- call, which leaves it broken, nothing of it has changed.
pub record ReopensOnce {D P T : Type 0} (state : D → DiskState) (before after : ClerkState D P)
    (result : Result T KeeperFault) : Type 0 where
  pub opens : OnOk result
      ((state before.keeper.writer.device).is_honest → ClerkReopens before after)
  pub stays : OnErr result (Stays before after)
  pub same : OnErr result ((after.keeper.writer.is_broken ≡ true)
      ⊎ (after.keeper.writer.is_broken ≡ before.keeper.writer.is_broken))
  -- It is refused for a failed call alone, where the device is honest.
  pub recovers : Recovers state before.keeper.writer after.keeper.writer result
  pub starts : OnOk result (after.keeper.state ≡ starting after.keeper.writer.register)
  pub kept : (after.desk ≡ before.desk) × (after.seat ≡ before.seat)
      × (after.policy ≡ before.policy)

-- It is a turn of its group, as what it answers says: it adds to what is safe and to what was
-- answered. Whatever had happened before, the group's history goes on by whichever turn it is seen
-- as, and what was given is kept.
pub record TurnAdvances {D P : Type 0} (state : D → DiskState) (before after : ClerkState D P)
    (result : Result Counts KeeperFault) : Type 0 where
  pub adds : (batch : List Entry) × (more : List Entry) × (replied : List Taken)
      × TurnAdds (group_of before) (group_of after) (is_err result) batch more replied
  pub goes_on : (batch more : List Entry) (replied : List Taken)
      → TurnAdds (group_of before) (group_of after) (is_err result) batch more replied
      → (base : RegisterState) (safe : List Entry) (given : List Taken)
      → History base (group_of before) safe given
      → AdvancesFrom base (group_of before) safe given (group_of after) batch more replied
      (state before.keeper.writer.device) (state after.keeper.writer.device)
