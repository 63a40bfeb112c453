-- What a reopening does to a writer, whatever it answers.
use Rattle.std.specs.Prelude.{◌≡◌, ◌⊎◌, true, false, [], Result, Err, IfErr, OnOk, OnErr}
use Rattle.lift_disk.specs.Disk.{DiskState, LeavesNow, LeavesOnly}
use Rattle.lift_register.specs.Register.{register_of}
use Rattle.lift_journal.specs.declared.fault.JournalFault.TheVariants.{Disk}
use Rattle.lift_keeper.specs.declared.fault.KeeperFault.{KeeperFault}
use Rattle.lift_keeper.specs.declared.fault.KeeperFault.TheVariants.{Journal}
use Rattle.lift_keeper.specs.Images.{IsImageOf, IsInDoubt}
use Rattle.lift_keeper.specs.Reopening.{Reopens, RefusesReopening}
use Rattle.lift_keeper.specs.Writer.{WriterView}

-- It is open again, with the register that was safe, or that with the batch in doubt; or it was
-- refused, and stays as it was, but that a failed call leaves it broken.
pub record Recovers {D T : Type 0} (state : D → DiskState) (old new : WriterView D)
    (result : Result T KeeperFault) : Type 0 where
  pub opens : OnOk result
      (Reopens old.plan (state old.device)
      (state new.device) new.register new.half new.is_in_second_half
      new.used)
  pub one_of : OnOk result ((state old.device).is_honest → (new.register ≡ old.register)
      ⊎ (new.register ≡ register_of old.register old.doubt))
  -- a crash at any moment leaves the register that was safe before it, or that with the batch in
  -- doubt
  pub any_moment : LeavesOnly (state old.device) (state new.device)
      (IsInDoubt old.plan old.register old.doubt)
  pub whole : OnOk result ((new.is_broken ≡ false) × (new.doubt ≡ []))
  pub failures_at_opening : OnOk result (new.failures_at_opening ≡ (state new.device).failures)
  pub refused : IfErr result (λ fault.
      RefusesReopening old.plan (state old.device) (state new.device) fault)
  -- an honest device is refused for a failed call alone
  pub good : IfErr result (λ fault. (state old.device).is_honest → fault ≡ Journal Disk)
  -- Its sync failed, so that no call succeeded; or from now on every crash leaves the same one of
  -- the two.
  pub fixed : OnErr result (((state new.device).trace ≡ (state old.device).trace)
      ⊎ ((state old.device).is_honest
      → LeavesNow (state new.device) (IsImageOf old.plan old.register)
      ⊎ LeavesNow (state new.device) (IsImageOf old.plan (register_of old.register old.doubt))))
  pub breaks : result ≡ Err (Journal Disk) → new.is_broken ≡ true
  pub stays : IfErr result (λ fault.
      (fault ≡ Journal Disk) ⊎ (new.is_broken ≡ old.is_broken))
  pub unmoved : OnErr result ((new.register ≡ old.register) × (new.doubt ≡ old.doubt)
      × (new.failures_at_opening ≡ old.failures_at_opening))
  -- a later batch goes where it would have gone before
  pub place : OnErr result ((new.half ≡ old.half) × (new.is_in_second_half ≡ old.is_in_second_half)
      × (new.used ≡ old.used))
  pub plan : new.plan ≡ old.plan
