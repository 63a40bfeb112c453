-- What a commit does to a writer, whatever it answers.
use Rattle.std.specs.Prelude.{◌≡◌, ◌<◌, ◌⊎◌, ◌↔◌, ℕ, true, false, List, [], length, Result, Err}
use Rattle.std.specs.Prelude.{IsOk, IfErr, OnOk, OnErr}
use Rattle.lift_base.specs.declared.history.Entry.{Entry}
use Rattle.lift_disk.specs.Disk.{DiskState, LeavesNow, LeavesOnly}
use Rattle.lift_register.specs.Register.{RegisterState, register_of}
use Rattle.lift_journal.specs.declared.fault.JournalFault.TheVariants.{Disk, Broken}
use Rattle.lift_keeper.specs.declared.fault.KeeperFault.{KeeperFault}
use Rattle.lift_keeper.specs.declared.fault.KeeperFault.TheVariants.{Journal}
use Rattle.lift_keeper.specs.Images.{IsImageOf, IsInDoubt}
use Rattle.lift_keeper.specs.Writer.{WriterView}

-- What a commit leaves to a crash: all that whoever was answered rests on.
pub record CommitLeaves {D T : Type 0} (old : WriterView D) (batch : List Entry) (was is : DiskState)
    (new : WriterView D) (result : Result T KeeperFault) : Type 0 where
  -- a crash at any moment leaves the register that was safe before it, or that with this batch
  pub any_moment : old.is_broken ≡ false → LeavesOnly was is (IsInDoubt old.plan old.register batch)
  -- of a broken writer, what was safe before the fault, or that with the batch in doubt
  pub while_broken : old.is_broken ≡ true
      → LeavesOnly was is (IsInDoubt old.plan old.register old.doubt)
  -- at Ok the safe register is the one with the batch: every crash from now on leaves it
  pub acknowledged : OnOk result (LeavesNow is (IsImageOf old.plan (register_of old.register batch)))
  pub register : OnOk result (new.register ≡ register_of old.register batch)
  -- where a call failed, every crash from now on leaves one of the two
  pub in_doubt : result ≡ Err (Journal Disk) → LeavesNow is (IsInDoubt old.plan old.register batch)

-- The batch is safe, or in doubt, or the writer was broken and stays as it was: what a commit
-- leaves to a crash, why it fails, and what stays.
pub record Commits {D T : Type 0} (state : D → DiskState) (old : WriterView D) (batch : List Entry)
    (new : WriterView D) (result : Result T KeeperFault) : Type 0 where
  pub safe : CommitLeaves old batch (state old.device) (state new.device) new result
  pub causes : IfErr result (λ fault. (fault ≡ Journal Disk) ⊎ (fault ≡ Journal Broken))
  pub broken : (result ≡ Err (Journal Broken)) ↔ (old.is_broken ≡ true)
  -- a call has failed within it
  pub failed : result ≡ Err (Journal Disk)
      → (state old.device).failures < (state new.device).failures
  -- a broken one makes no call
  pub rests : old.is_broken ≡ true → new ≡ old
  pub empty : old.is_broken ≡ false → batch ≡ [] → IsOk result × (new ≡ old)
  pub breaks : OnErr result (new.is_broken ≡ true)
  -- a call has failed since the last opening that succeeded
  pub since : OnErr result (new.failures_at_opening < (state new.device).failures)
  pub doubts : result ≡ Err (Journal Disk) → new.doubt ≡ batch
  pub unmoved : OnErr result (new.register ≡ old.register)
  -- no call failed, and nothing is broken or in doubt
  pub whole : OnOk result ((state new.device).failures ≡ (state old.device).failures)
  pub stays : OnOk result ((new.is_broken ≡ false) × (new.doubt ≡ []))
  pub same : (new.plan ≡ old.plan) × (new.half ≡ old.half)
      × (new.failures_at_opening ≡ old.failures_at_opening)

-- It was the commit of a batch of this many entries, which lead to this register.
pub record CommitsTo {D T : Type 0} (state : D → DiskState) (old : WriterView D) (count : ℕ)
    (register : RegisterState) (new : WriterView D) (result : Result T KeeperFault)
    : Type 0 where
  pub batch : List Entry
  pub counted : count ≡ length batch
  pub leads : old.is_broken ≡ false → register ≡ register_of old.register batch
  pub is : Commits state old batch new result
