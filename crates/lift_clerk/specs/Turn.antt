-- What a turn of the clerk does.
use Rattle.std.specs.Prelude.{ℕ, ◌≡◌, ◌<◌, List, [], length, Result, Ok, Err}
use Rattle.lift_base.specs.declared.command.Reply.{Reply}
use Rattle.lift_register.specs.Register.{register_of}
use Rattle.lift_policy.specs.Eligible.{Choice}
use Rattle.lift_policy.specs.Step.{State}
use Rattle.lift_policy.specs.Run.{Run, unknowns}
use Rattle.lift_keeper.specs.declared.fault.KeeperFault.{KeeperFault}
use Rattle.lift_keeper.specs.Keeper.{KeeperView}
use Rattle.lift_clerk.specs.declared.counts.Counts.{Counts}
use Rattle.lift_clerk.specs.Visits.{Visit, commands_of, LooksAndAnswers}
use Rattle.lift_clerk.specs.Clerk.{ClerkState}

-- the state with nothing left to make safe
abbrev pub without_batch : State → State
without_batch state = record state { batch = [] }

-- A turn that answers Ok: its commands and replies are a run of the rules from the state before to
-- the state after, whose batch was made safe.
pub record IsTurn {D P : Type 0} (choice : Choice) (old new : ClerkState D P)
    (counts : Counts) : Type 0 where
  pub visits : List Visit
  pub replies : List Reply
  pub decided : State
  pub desk : new.desk ≡ old.desk
  pub serves : LooksAndAnswers old.seat new.seat visits replies
  pub begins : old.keeper.state.batch ≡ []
  pub run : Run old.keeper.writer.plan choice old.keeper.state
      (commands_of 0 visits) replies decided
  pub after : new.keeper.state ≡ without_batch decided
  pub safe : decided.register ≡ register_of old.keeper.writer.register decided.batch
  pub taken : counts.taken ≡ length (commands_of 0 visits)
  pub accepted : counts.accepted ≡ length decided.batch

-- A turn whose batch failed on the device: its commands were decided as in a run, and each is
-- answered Unknown. The batch is not empty, and in doubt.
pub record IsFailedTurn {D P : Type 0} (choice : Choice) (old new : ClerkState D P) : Type 0 where
  pub visits : List Visit
  pub decided_so : List Reply
  pub desk : new.desk ≡ old.desk
  pub serves : LooksAndAnswers old.seat new.seat visits (unknowns (commands_of 0 visits))
  pub begins : old.keeper.state.batch ≡ []
  pub run : Run old.keeper.writer.plan choice old.keeper.state
      (commands_of 0 visits) decided_so new.keeper.state
  pub some : 0 < length new.keeper.state.batch
  pub doubt : new.keeper.writer.doubt ≡ new.keeper.state.batch
  pub register : new.keeper.state.register
      ≡ register_of old.keeper.writer.register new.keeper.state.batch

-- A turn of a clerk whose keeper is broken: each command is answered Unknown, and nothing else
-- changes.
pub record IsBrokenTurn {D P : Type 0} (old new : ClerkState D P) : Type 0 where
  pub visits : List Visit
  pub desk : new.desk ≡ old.desk
  pub serves : LooksAndAnswers old.seat new.seat visits (unknowns (commands_of 0 visits))
  pub rests : new.keeper ≡ old.keeper

-- how many entries a turn's batch had: all are safe, or all are in doubt
abbrev pub batch_size : {D : Type 0} → Result Counts KeeperFault → KeeperView D → ℕ
batch_size (Ok counts) new = counts.accepted
batch_size (Err fault) new = length new.state.batch
