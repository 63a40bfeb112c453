-- What is true of a writer after each of its calls.
use Rattle.std.proofs.Common.{◌≡◌, ◌≢◌, ◌<◌, ◌≤◌, ◌⊎◌, inl, inr, ⊎_elim, ℕ, Bool, true, false, List, [], ◌∷◌, ◌==◌, length, refl, sym, ◌∙◌, ap, subst, arith}
use Rattle.std.proofs.lemmas.Bool.{eqb-true}
use Rattle.lift_base.specs.declared.history.Entry.{Entry}
use Rattle.lift_base.specs.declared.history.Shape.{Shape}
use Rattle.lift_building.specs.Plan.{Plan}
use Rattle.lift_disk.specs.Disk.{DiskState, Image, CountsNow, IsUnchanged, LeavesNow, LeavesOnly, MayLeave}
use Rattle.lift_disk.specs.lemmas.Moments.{changes_nothing, leaves_weaker, unchanged_leaves}
use Rattle.lift_register.specs.Register.{RegisterState, register_of}
use Rattle.lift_register.specs.Belongs.{BelongsTo}
use Rattle.lift_register.specs.Balanced.{IsBalanced}
use Rattle.lift_register.specs.WellFormed.{IsWellFormed}
use Rattle.lift_register.specs.lemmas.EntryLemmas.{register_of-nothing}
use Rattle.lift_journal.specs.declared.fault.JournalFault.TheVariants.{Disk}
use Rattle.lift_journal.specs.Journal.{JournalView, ReadsAs}
use Rattle.lift_journal.specs.Layout.{Holds, Picks}
use Rattle.lift_journal.specs.Opening.{FixesImage}
use Rattle.lift_journal.specs.lemmas.Chains.{all_same}
use Rattle.lift_keeper.specs.declared.fault.KeeperFault.{KeeperFault}
use Rattle.lift_keeper.specs.declared.fault.KeeperFault.TheVariants.{Journal}
use Rattle.lift_keeper.specs.Images.{IsImageOf, IsImageIn, IsInDoubt}
use Rattle.lift_keeper.specs.Reopening.{Reopens, RefusedFor, RefusesReopening}
use Rattle.lift_keeper.specs.Writer.{HoldsRegister, Guards, IsWriter}
use Rattle.lift_keeper.proofs.Guarding.{keeps_safe, keeps_placed, now_after}

pub not_both : (b : Bool) → b ≡ true → b ≡ false → ⊥
not_both b is isnt = cc (is, isnt)

module _ {D : Type 0} (plan : Plan) (journal : JournalView D) (register : RegisterState) (doubt : List Entry) (failures_at_opening : ℕ) (is_broken : Bool) (disk : DiskState) where
  pub whole_writer : is_broken ≡ false → Guards plan journal.shape journal.is_in_second_half journal.used register disk → journal.is_broken ≡ false → doubt ≡ [] → failures_at_opening ≤ disk.failures
      → IsWriter plan journal register doubt failures_at_opening is_broken disk
  whole_writer is guards whole settled counted = record {
    lawful = guards.lawful;
    belongs = guards.belongs;
    balanced = guards.balanced;
    counted = counted;
    failed = λ broken. absurd (not_both is_broken broken is);
    whole = λ _. whole;
    no_doubt = λ _. settled;
    keeps = λ _. guards.keeps;
    leaves = λ broken. absurd (not_both is_broken broken is);
  }

  pub broken_writer : is_broken ≡ true → IsWellFormed register → BelongsTo plan register → IsBalanced register → failures_at_opening < disk.failures → LeavesNow disk (IsInDoubt plan register doubt)
      → IsWriter plan journal register doubt failures_at_opening is_broken disk
  broken_writer is lawful belongs balanced failed leaves = record {
    lawful = lawful;
    belongs = belongs;
    balanced = balanced;
    counted = omega (arith, failed);
    failed = λ _. failed;
    whole = λ isnt. absurd (not_both is_broken is isnt);
    no_doubt = λ isnt. absurd (not_both is_broken is isnt);
    keeps = λ isnt. absurd (not_both is_broken is isnt);
    leaves = λ _. leaves;
  }

  module _ (writer : IsWriter plan journal register doubt failures_at_opening is_broken disk) where
    pub guards_of : is_broken ≡ false → Guards plan journal.shape journal.is_in_second_half journal.used register disk
    guards_of whole = record { lawful = writer.lawful; belongs = writer.belongs; balanced = writer.balanced; keeps = writer.keeps whole }

    pub safe_of : is_broken ≡ false → LeavesNow disk (IsImageOf plan register)
    safe_of whole = keeps_safe plan journal.shape journal.is_in_second_half journal.used register disk (writer.keeps whole)

    pub placed_of : is_broken ≡ false → LeavesNow disk (IsImageIn plan journal.shape.half journal.is_in_second_half journal.used register)
    placed_of whole = keeps_placed plan journal.shape journal.is_in_second_half journal.used register disk (writer.keeps whole)

    -- whatever has happened, a crash leaves the safe register or the one with the batch in doubt
    pub doubt_of : LeavesNow disk (IsInDoubt plan register doubt)
    doubt_of honest left leaves = by_state is_broken refl
      where
        by_state : (b : Bool) → is_broken ≡ b → IsInDoubt plan register doubt left
        by_state true is = writer.leaves is honest left leaves
        by_state false is = inl (safe_of is honest left leaves)

    module _ (after : JournalView D) (new : DiskState) (fault : KeeperFault) (refuses : RefusesReopening plan disk new fault) (runs : disk.failures ≤ new.failures) (counts : CountsNow new) where
      left_now : new.is_honest → (left : Image) → MayLeave new left → MayLeave disk left
      left_now honest_new left now = now_after disk new (MayLeave disk) refuses.moments counts honest_new left now

      still_doubt : LeavesNow new (IsInDoubt plan register doubt)
      still_doubt honest_new left now = doubt_of (refuses.moments.honest.0 honest_new) left (left_now honest_new left now)

      -- an opening at which a call failed
      pub failed_opening : (now_broken : Bool) → now_broken ≡ true → fault ≡ Journal Disk → IsWriter plan after register doubt failures_at_opening now_broken new
      failed_opening now_broken broken is =
          let rose : disk.failures < new.failures = subst (λ (f : KeeperFault). RefusedFor f plan disk new) is refuses.cause in record {
            lawful = writer.lawful;
            belongs = writer.belongs;
            balanced = writer.balanced;
            counted = omega (arith, writer.counted, rose);
            failed = λ _. omega (arith, writer.counted, rose);
            whole = λ isnt. absurd (not_both now_broken broken isnt);
            no_doubt = λ isnt. absurd (not_both now_broken broken isnt);
            keeps = λ isnt. absurd (not_both now_broken broken isnt);
            leaves = λ _. still_doubt;
          }

      -- another refusal
      pub refused_opening : fault ≢ Journal Disk → (is_broken ≡ false → after.is_broken ≡ false) → IsWriter plan after register doubt failures_at_opening is_broken new
      refused_opening other whole = record {
        lawful = writer.lawful;
        belongs = writer.belongs;
        balanced = writer.balanced;
        counted = omega (arith, writer.counted, runs);
        failed = λ broken. omega (arith, writer.failed broken, runs);
        whole = whole;
        no_doubt = writer.no_doubt;
        keeps = λ sound honest_new.
            (let honest = refuses.moments.honest.0 honest_new in
            let now = left_now honest_new new.image (changes_nothing new.is_loose new.image) in
            absurd (other (refuses.good honest register (safe_of sound honest new.image now))));
        leaves = λ _. still_doubt;
      }

    -- what an opening leaves at each moment
    pub opening_leaves : (new : DiskState) → LeavesOnly disk new (MayLeave disk) → LeavesOnly disk new (IsInDoubt plan register doubt)
    opening_leaves new leaves = leaves_weaker disk new (MayLeave disk) (IsInDoubt plan register doubt) (λ honest left is. doubt_of honest left is) leaves

    -- an honest device is refused for a failed call alone
    pub refused_good : (new : DiskState) (fault : KeeperFault) → RefusesReopening plan disk new fault → CountsNow new → disk.is_honest → fault ≡ Journal Disk
    refused_good new fault refuses counts honest =
        let now = now_after disk new (MayLeave disk) refuses.moments counts (refuses.moments.honest.1 honest) new.image (changes_nothing new.is_loose new.image) in
        ⊎_elim (λ is. refuses.good honest register is) (λ is. refuses.good honest (register_of register doubt) is) (doubt_of honest new.image now)

    -- after its sync a refused opening leaves one of the two registers for good
    pub settled_one : (new : DiskState) (fault : KeeperFault) → RefusesReopening plan disk new fault
        → (new.trace ≡ disk.trace) ⊎ (disk.is_honest → LeavesNow new (IsImageOf plan register) ⊎ LeavesNow new (IsImageOf plan (register_of register doubt)))
    settled_one new fault refuses = ⊎_elim (λ same. inl same) (λ is. inr (λ honest. one_of (is honest) (doubt_of honest new.image (is honest).seen))) refuses.fixed
      where
        each : (found : RegisterState) → FixesImage disk new → IsImageOf plan found new.image → LeavesNow new (IsImageOf plan found)
        each found settled image honest_new left now = subst (λ (l : Image). IsImageOf plan found l) (sym (all_same new.is_loose new.image left settled.none_loose now)) image

        one_of : FixesImage disk new → IsInDoubt plan register doubt new.image → LeavesNow new (IsImageOf plan register) ⊎ LeavesNow new (IsImageOf plan (register_of register doubt))
        one_of settled found = ⊎_elim (λ image. inl (each register settled image)) (λ image. inr (each (register_of register doubt) settled image)) found

    -- what an opening gives
    pub reopened_one : (new : DiskState) (found : RegisterState) (half : ℕ) (is_in_second_half : Bool) (taken : ℕ) → Reopens plan disk new found half is_in_second_half taken → disk.is_honest → (found ≡ register) ⊎ (found ≡ register_of register doubt)
    reopened_one new found half is_in_second_half taken opens honest =
        ⊎_elim (λ is. inl (sym (opens.only honest register is))) (λ is. inr (sym (opens.only honest (register_of register doubt) is))) (doubt_of honest new.image (opens.seen honest))

    -- a device that was told again which calls to fail
    pub armed_writer : (after : JournalView D) (new : DiskState) → after.shape ≡ journal.shape → after.is_in_second_half ≡ journal.is_in_second_half → after.used ≡ journal.used → after.is_broken ≡ journal.is_broken → IsUnchanged disk new
        → IsWriter plan after register doubt failures_at_opening is_broken new
    armed_writer after new shape second taken broken same = record {
      lawful = writer.lawful;
      belongs = writer.belongs;
      balanced = writer.balanced;
      counted = omega (arith, writer.counted, same.failures);
      failed = λ is. omega (arith, writer.failed is, same.failures);
      whole = λ is. broken ∙ writer.whole is;
      no_doubt = writer.no_doubt;
      keeps = λ is honest_new.
          (let keeps = writer.keeps is (same.honest.0 honest_new) in
          let made : HoldsRegister plan journal.shape journal.is_in_second_half journal.used register new = record {
            of_building = keeps.of_building;
            batches = keeps.batches;
            base = keeps.base;
            entries = keeps.entries;
            holds = unchanged_leaves disk new (Holds journal.shape keeps.batches) same keeps.holds;
            stands = unchanged_leaves disk new (ReadsAs journal.shape keeps.base keeps.entries) same keeps.stands;
            joined = keeps.joined;
            is = keeps.is;
            picks = unchanged_leaves disk new (Picks journal.is_in_second_half) same keeps.picks;
            counts = keeps.counts;
          } in
          subst (λ (s : Shape). HoldsRegister plan s after.is_in_second_half after.used register new) (sym shape)
          (subst (λ (b : Bool). HoldsRegister plan journal.shape b after.used register new) (sym second)
          (subst (λ n. HoldsRegister plan journal.shape journal.is_in_second_half n register new) (sym taken) made)));
      leaves = λ is. unchanged_leaves disk new (IsInDoubt plan register doubt) same (writer.leaves is);
    }

-- a commit of no entries
pub nothing_in : (batch : List Entry) → true ≡ (length batch == 0) → batch ≡ []
nothing_in [] is = refl
nothing_in (entry ∷ batch) is = absurd (omega (arith, eqb-true (length (entry ∷ batch)) 0 (sym is)))

pub none_more : (register : RegisterState) (batch : List Entry) → IsWellFormed register → batch ≡ [] → register ≡ register_of register batch
none_more register batch lawful none = sym (register_of-nothing register lawful) ∙ ap (register_of register) (sym none)

pub none_acknowledged : (plan : Plan) (register : RegisterState) (batch : List Entry) (disk : DiskState) → IsWellFormed register → batch ≡ [] → LeavesNow disk (IsImageOf plan register)
    → LeavesNow disk (IsImageOf plan (register_of register batch))
none_acknowledged plan register batch disk lawful none safe honest left leaves = subst (λ (r : RegisterState). IsImageOf plan r left) (none_more register batch lawful none) (safe honest left leaves)
