use Rattle.std.proofs.Common.{◌≡◌, ◌⊎◌, inl, inr, true, ap}
use Rattle.std.specs.Prelude.{Result, Ok, Err, OnOk, OnErr}
use Rattle.lift_decider.specs.Decider.{starting}
use Rattle.lift_disk.specs.Disk.{DiskState}
use Rattle.lift_journal.specs.declared.fault.JournalFault.TheVariants.{Disk}
use Rattle.lift_keeper.specs.declared.fault.KeeperFault.{KeeperFault}
use Rattle.lift_keeper.specs.declared.fault.KeeperFault.TheVariants.{Journal}
use Rattle.lift_keeper.specs.Recovers.{Recovers}
use Rattle.lift_clerk.specs.Clerk.{ClerkState}
use Rattle.lift_clerk.specs.Once.{ReopensOnce}
use Rattle.lift_clerk.proofs.machine.reopen_once.Goals as goal

module _ {D P T : Type 0} (state : D → DiskState) (before after : ClerkState D P)
    (kept : (after.desk ≡ before.desk) × (after.seat ≡ before.seat) × (after.policy ≡ before.policy)) where
  reopens : (result : Result T KeeperFault) → Recovers state before.keeper.writer after.keeper.writer result
      → OnOk result (after.keeper.state ≡ starting after.keeper.writer.register) → OnErr result (after.keeper.state ≡ before.keeper.state)
      → ReopensOnce state before after result
  reopens (Ok done) r starts unmoved = record {
    opens = λ honest. record {
      desk = kept.0;
      same_seat = kept.1;
      state = starts;
      one_of = r.one_of honest;
      is_whole = r.whole.0;
      no_doubt = r.whole.1;
      same_plan = r.plan;
    };
    stays = tt;
    same = tt;
    recovers = r;
    starts = starts;
    kept = kept;
  }
  reopens (Err fault) r starts unmoved = record {
    opens = tt;
    stays = record {
      desk = kept.0;
      same_seat = kept.1;
      same_state = unmoved;
      same_register = r.unmoved.0;
      same_doubt = r.unmoved.1;
      same_plan = r.plan;
    };
    same = by_cause r.stays;
    recovers = r;
    starts = tt;
    kept = kept;
  }
    where
      by_cause : (fault ≡ Journal Disk) ⊎ (after.keeper.writer.is_broken ≡ before.keeper.writer.is_broken)
          → (after.keeper.writer.is_broken ≡ true) ⊎ (after.keeper.writer.is_broken ≡ before.keeper.writer.is_broken)
      by_cause (inl of_disk) = inl (r.breaks (ap (λ (f : KeeperFault). Err f) of_disk))
      by_cause (inr same) = inr same

pub returns : goal.returns
returns g c =
    record { reopening = reopens g.D.Disk.state c.args.clerk.now c.reopen.new.self c.reopen.ensures.same c.reopen.result c.reopen.ensures.recovers c.reopen.ensures.state c.reopen.ensures.unmoved; calls = c.reopen.ensures.calls }
