-- What a crash at any moment of a running call shows.
use Rattle.std.proofs.Common.{◌≡◌, inl, inr, ⊎_elim, Bool, true, false, List, ◌++◌, refl, sym, ap, subst, ◌∙◌}
use Rattle.std.specs.Prelude.{Result, Ok, Err, is_err}
use Rattle.lift_base.specs.declared.history.Entry.{Entry}
use Rattle.lift_building.specs.Plan.{Plan}
use Rattle.lift_disk.specs.Disk.{DiskState, LeavesNow, LeavesOnly}
use Rattle.lift_register.specs.Register.{RegisterState}
use Rattle.lift_policy.specs.Eligible.{Choice}
use Rattle.lift_policy.specs.Step.{State}
use Rattle.lift_journal.specs.declared.fault.JournalFault.TheVariants.{Disk, Broken}
use Rattle.lift_keeper.specs.Images.{IsImageOf, IsInDoubt}
use Rattle.lift_keeper.specs.Commits.{Commits, CommitsTo}
use Rattle.lift_keeper.specs.Keeper.{KeeperView}
use Rattle.lift_keeper.specs.declared.fault.KeeperFault.{KeeperFault}
use Rattle.lift_keeper.specs.declared.fault.KeeperFault.TheVariants.{Journal}
use Rattle.lift_world.specs.declared.event.Taken.{Taken}
use Rattle.lift_world.specs.Policies.{RunsAreAny}
use Rattle.lift_clerk.specs.declared.counts.Counts.{Counts}
use Rattle.lift_clerk.specs.Clerk.{ClerkState}
use Rattle.lift_clerk.specs.Turn.{batch_size}
use Rattle.lift_clerk.specs.Steps.{group_of, MayAdd, TurnAdds, Safe, InDoubt, Unknown}
use Rattle.lift_clerk.specs.History.{History, Turned}
use Rattle.lift_clerk.specs.Keeping.{ImageKeeps, CrashesKeep, LeavesSafe, AdvancesFrom}
use Rattle.lift_clerk.specs.Once.{TurnsOnce, TurnAdvances}
use Rattle.lift_clerk.specs.lemmas.Adding.{added}
use Rattle.lift_clerk.specs.lemmas.Tied.{not_both}
use Rattle.lift_clerk.specs.lemmas.Committed.{moment_of}
use Rattle.lift_clerk.specs.lemmas.Keeps.{kept_now}
use Rattle.lift_clerk.proofs.Histories.{moments_stand}

-- what a keeper tells of its safe register is told of its clerk's
pub safe_of : {D : Type 0} (state : D → DiskState) (keeper own : KeeperView D) (register : RegisterState) → keeper ≡ own → register ≡ keeper.writer.register
    → (keeper.writer.is_broken ≡ false → LeavesNow (state keeper.writer.device) (IsImageOf keeper.writer.plan register))
    → own.writer.is_broken ≡ false → LeavesNow (state own.writer.device) (IsImageOf own.writer.plan own.writer.register)
safe_of {D} state keeper own register e r k =
    subst (λ (v : KeeperView D). v.writer.is_broken ≡ false → LeavesNow (state v.writer.device) (IsImageOf v.writer.plan v.writer.register)) e
    (subst (λ (x : RegisterState). keeper.writer.is_broken ≡ false → LeavesNow (state keeper.writer.device) (IsImageOf keeper.writer.plan x)) r k)

pub in_doubt_of : {D : Type 0} (state : D → DiskState) (keeper own : KeeperView D) (register : RegisterState) → keeper ≡ own → register ≡ keeper.writer.register
    → (keeper.writer.is_broken ≡ true → LeavesNow (state keeper.writer.device) (IsInDoubt keeper.writer.plan register keeper.writer.doubt))
    → own.writer.is_broken ≡ true → LeavesNow (state own.writer.device) (IsInDoubt own.writer.plan own.writer.register own.writer.doubt)
in_doubt_of {D} state keeper own register e r k =
    subst (λ (v : KeeperView D). v.writer.is_broken ≡ true → LeavesNow (state v.writer.device) (IsInDoubt v.writer.plan v.writer.register v.writer.doubt)) e
    (subst (λ (x : RegisterState). keeper.writer.is_broken ≡ true → LeavesNow (state keeper.writer.device) (IsInDoubt keeper.writer.plan x keeper.writer.doubt)) r k)

-- what a crash may leave, broken or not
pub doubt_now : {D : Type 0} (state : D → DiskState) (keeper : KeeperView D) → (keeper.writer.is_broken ≡ false → LeavesNow (state keeper.writer.device) (IsImageOf keeper.writer.plan keeper.writer.register))
    → (keeper.writer.is_broken ≡ true → LeavesNow (state keeper.writer.device) (IsInDoubt keeper.writer.plan keeper.writer.register keeper.writer.doubt)) → (b : Bool) → keeper.writer.is_broken ≡ b
    → LeavesSafe keeper.writer (state keeper.writer.device)
doubt_now state keeper whole broken false e = λ honest left may. inl (whole e honest left may)
doubt_now state keeper whole broken true e = broken e

module _ {D P : Type 0} (state : D → DiskState) (law : CrashesKeep D) (before : ClerkState D P) where
  abbrev plan : Plan
  plan = before.keeper.writer.plan

  abbrev register : RegisterState
  register = before.keeper.writer.register

  abbrev old : DiskState
  old = state before.keeper.writer.device

  pub keeps_whole : (before.keeper.writer.is_broken ≡ false → LeavesNow old (IsImageOf plan register)) → before.keeper.writer.is_broken ≡ false
      → (base : RegisterState) (safe : List Entry) (given : List Taken) → History base (group_of before) safe given → LeavesNow old (ImageKeeps D plan base safe given)
  keeps_whole whole e base safe given h = λ honest left may. law base (group_of before) safe before.keeper.writer.doubt given left h (inl refl) (inl (whole e honest left may))

-- One turn, with what a crash may leave at each moment of it and from its end on.
module _ {D P : Type 0} (state : D → DiskState) (law : CrashesKeep D) (before after : ClerkState D P) (result : Result Counts KeeperFault)
    (commits : CommitsTo state before.keeper.writer (batch_size result after.keeper) after.keeper.state.register after.keeper.writer result)
    (leaves : LeavesSafe after.keeper.writer (state after.keeper.writer.device)) where
  abbrev its : Plan
  its = before.keeper.writer.plan

  abbrev was : RegisterState
  was = before.keeper.writer.register

  abbrev first : DiskState
  first = state before.keeper.writer.device

  abbrev last : DiskState
  last = state after.keeper.writer.device

  advances : (batch more : List Entry) (replied : List Taken) (base : RegisterState) (safe : List Entry) (given : List Taken) → MayAdd before.keeper batch → LeavesOnly first last (IsInDoubt its was batch)
      → History base (group_of before) safe given → History base (group_of after) (safe ++ more) (given ++ replied) → AdvancesFrom base (group_of before) safe given (group_of after) batch more replied first last
  advances batch more replied base safe given may moments h k = record {
    history = k;
    stands = moments_stand law (group_of before) batch may first last moments base safe given h;
    now = kept_now law base (group_of after) (safe ++ more) (given ++ replied) k last leaves;
  }

  -- the batch of a turn that fails first is the one that it leaves in doubt
  fails_with : (answer : Result Counts KeeperFault) → Commits state before.keeper.writer commits.batch after.keeper.writer answer → before.keeper.writer.is_broken ≡ false → is_err answer ≡ true
      → after.keeper.writer.doubt ≡ commits.batch
  fails_with (Ok counts) c whole fails = absurd (cc)
  fails_with (Err fault) c whole fails =
      ⊎_elim (λ (is : fault ≡ Journal Disk). c.doubts (ap (λ (x : KeeperFault). Err x) is))
      (λ (is : fault ≡ Journal Broken). not_both before.keeper.writer.is_broken whole (c.broken.0 (ap (λ (x : KeeperFault). Err x) is))) c.causes

  turn_goes_on : (fails : Bool) → is_err result ≡ fails → (batch more : List Entry) (replied : List Taken) → TurnAdds (group_of before) (group_of after) fails batch more replied
      → (base : RegisterState) (safe : List Entry) (given : List Taken) → History base (group_of before) safe given
      → AdvancesFrom base (group_of before) safe given (group_of after) batch more replied first last
  turn_goes_on fails is batch more replied (Safe t) base safe given h =
      advances _ _ _ base safe given
      (inr (t.decides, refl))
      (moment_of state before.keeper.writer (batch_size result after.keeper) after.keeper.state.register after.keeper.writer result commits t.decides.was_whole t.decides.decided.batch
      (ap (λ (x : State). x.register) t.state ∙ t.decides.shows))
      h (Turned h (Safe t))
  turn_goes_on fails is batch more replied (InDoubt t) base safe given h =
      advances _ _ _ base safe given (inr t.may)
      (subst (λ (es : List Entry). LeavesOnly first last (IsInDoubt its was es)) (sym (fails_with result commits.is t.may.0.was_whole is)) (commits.is.safe.any_moment t.may.0.was_whole))
      h (Turned h (InDoubt t))
  turn_goes_on fails is batch more replied (Unknown t) base safe given h =
      advances _ _ _ base safe given (inl refl) (commits.is.safe.while_broken t.was_broken) h (Turned h (Unknown t))

  pub turn_advances : (choice : Choice) → RunsAreAny choice → TurnsOnce state choice before after result → TurnAdvances state before after result
  turn_advances choice any once = record { adds = added choice any before after state result once; goes_on = turn_goes_on (is_err result) refl }
