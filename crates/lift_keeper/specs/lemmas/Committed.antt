-- A commit under the answer of the call that made it.
use Rattle.std.proofs.Common.{◌≡◌, ◌≢◌, ℕ, Bool, true, false, List, [], refl, sym, ap, ◌∙◌}
use Rattle.std.specs.Prelude.{Result, Ok, Err, OnOk}
use Rattle.lift_base.specs.declared.history.Entry.{Entry}
use Rattle.lift_disk.specs.Disk.{DiskState}
use Rattle.lift_register.specs.Register.{RegisterState}
use Rattle.lift_journal.specs.declared.fault.JournalFault.TheVariants.{Disk, Broken}
use Rattle.lift_keeper.specs.declared.fault.KeeperFault.{KeeperFault}
use Rattle.lift_keeper.specs.declared.fault.KeeperFault.TheVariants.{Journal}
use Rattle.lift_keeper.specs.Calls.{CommitCalls}
use Rattle.lift_keeper.specs.Commits.{Commits, CommitsTo}
use Rattle.lift_keeper.specs.Writer.{WriterView}

module _ {D T U : Type 0} (state : D → DiskState) (old : WriterView D) (batch : List Entry)
    (new : WriterView D) where
  pub under_ok : (a : T) (b : U) → Commits {D = D} {T = T} state old batch new (Ok a)
      → Commits {D = D} {T = U} state old batch new (Ok b)
  under_ok a b c = record {
    safe = record {
      any_moment = c.safe.any_moment;
      while_broken = c.safe.while_broken;
      acknowledged = c.safe.acknowledged;
      register = c.safe.register;
      in_doubt = λ is. absurd (cc);
    };
    causes = c.causes;
    broken = (λ is. absurd (cc), λ is. (let other = c.broken.1 is in absurd (cc)));
    failed = λ is. absurd (cc);
    rests = c.rests;
    empty = c.empty;
    breaks = c.breaks;
    since = c.since;
    doubts = λ is. absurd (cc);
    unmoved = c.unmoved;
    whole = c.whole;
    stays = c.stays;
    same = c.same;
  }

  pub under_err : (fault : KeeperFault) → Commits {D = D} {T = T} state old batch new (Err fault)
      → Commits {D = D} {T = U} state old batch new (Err fault)
  under_err fault c = record {
    safe = record {
      any_moment = c.safe.any_moment;
      while_broken = c.safe.while_broken;
      acknowledged = c.safe.acknowledged;
      register = c.safe.register;
      in_doubt = λ is. (let same : fault ≡ Journal Disk = cc in
          c.safe.in_doubt (ap (λ (f : KeeperFault). Err f) same));
    };
    causes = c.causes;
    broken = (
      λ is. (let same : fault ≡ Journal Broken = cc in
          c.broken.0 (ap (λ (f : KeeperFault). Err f) same)),
      λ is. (let other = c.broken.1 is in
          let same : fault ≡ Journal Broken = cc in ap (λ (f : KeeperFault). Err f) same),
    );
    failed = λ is. (let same : fault ≡ Journal Disk = cc in
        c.failed (ap (λ (f : KeeperFault). Err f) same));
    rests = c.rests;
    empty = c.empty;
    breaks = c.breaks;
    since = c.since;
    doubts = λ is. (let same : fault ≡ Journal Disk = cc in
        c.doubts (ap (λ (f : KeeperFault). Err f) same));
    unmoved = c.unmoved;
    whole = c.whole;
    stays = c.stays;
    same = c.same;
  }

-- the same of its calls
module _ {D T U : Type 0} (state : D → DiskState) (old : WriterView D) (count : ℕ)
    (new : WriterView D) where
  pub calls_under_ok : (a : T) (b : U) → CommitCalls {D = D} {T = T} state old count new (Ok a)
      → CommitCalls {D = D} {T = U} state old count new (Ok b)
  calls_under_ok a b c = record {
    runs = c.runs;
    made = record {
      calls = c.made.calls;
      writes = c.made.writes;
      most_calls = c.made.most_calls;
      most_writes = c.made.most_writes;
    };
    used = c.used;
    second = c.second;
    none_fails = λ _. c.none_fails (λ is. cc);
    last_fails = λ is. absurd (cc);
    fails = λ is. absurd (cc);
  }

  pub calls_under_err : (fault : KeeperFault)
      → CommitCalls {D = D} {T = T} state old count new (Err fault)
      → CommitCalls {D = D} {T = U} state old count new (Err fault)
  calls_under_err fault c = record {
    runs = c.runs;
    made = record {
      calls = c.made.calls;
      writes = c.made.writes;
      most_calls = c.made.most_calls;
      most_writes = c.made.most_writes;
    };
    used = c.used;
    second = c.second;
    none_fails = λ not. c.none_fails (λ is. (let same : fault ≡ Journal Disk = cc in
        not (ap (λ (f : KeeperFault). Err f) same)));
    last_fails = λ is. (let same : fault ≡ Journal Disk = cc in
        c.last_fails (ap (λ (f : KeeperFault). Err f) same));
    fails = λ is. (let same : fault ≡ Journal Disk = cc in
        c.fails (ap (λ (f : KeeperFault). Err f) same));
  }

was_whole : (b : Bool) → (b ≡ true → ⊥) → b ≡ false
was_whole true broken = absurd (broken refl)
was_whole false broken = refl

was_broken : (b : Bool) → (b ≡ false → ⊥) → b ≡ true
was_broken true whole = refl
was_broken false whole = absurd (whole refl)

-- what is safe at Ok is the register that the commit leads to
pub safe_register : {D T : Type 0} (state : D → DiskState) (old : WriterView D) (count : ℕ)
    (register : RegisterState) (new : WriterView D) (result : Result T KeeperFault)
    → CommitsTo state old count register new result → OnOk result (new.register ≡ register)
safe_register state old count register new (Ok a) c =
    let whole = was_whole old.is_broken (λ is. (let other = c.is.broken.1 is in cc)) in
    c.is.safe.register ∙ sym (c.leads whole)
safe_register state old count register new (Err fault) c = tt

-- a commit of no entries, by its answer
pub nothing_safe : {D T : Type 0} (state : D → DiskState) (old new : WriterView D) (a : T)
    → Commits {D = D} {T = T} state old [] new (Ok a) → (old.is_broken ≡ false) × (new ≡ old)
nothing_safe state old new a c =
    let whole = was_whole old.is_broken (λ is. (let other = c.broken.1 is in cc)) in
    (whole, (c.empty whole refl).1)

pub nothing_refused : {D T : Type 0} (state : D → DiskState) (old new : WriterView D)
    (fault : KeeperFault) → Commits {D = D} {T = T} state old [] new (Err fault)
    → (old.is_broken ≡ true) × (new ≡ old) × (fault ≡ Journal Broken)
nothing_refused state old new fault c =
    let broken = was_broken old.is_broken (λ whole. (let no = (c.empty whole refl).0 in cc)) in
    let is = c.broken.1 broken in
    (broken, c.rests broken, cc)

-- a commit that the device failed had entries
pub some_failed : {D T : Type 0} (state : D → DiskState) (old : WriterView D) (batch : List Entry)
    (new : WriterView D) (result : Result T KeeperFault) → Commits state old batch new result
    → result ≡ Err (Journal Disk) → batch ≢ []
some_failed state old batch new (Ok a) c failed none = cc
some_failed state old batch new (Err fault) c failed none =
    let whole = was_whole old.is_broken (λ is. (let other = c.broken.1 is in cc)) in
    let no = (c.empty whole none).0 in cc

-- a writer was whole before a commit that doesn't answer that it was broken
pub whole_before : {D T : Type 0} (state : D → DiskState) (old : WriterView D) (batch : List Entry)
    (new : WriterView D) (result : Result T KeeperFault) → Commits state old batch new result
    → (result ≡ Err (Journal Broken) → ⊥) → old.is_broken ≡ false
whole_before state old batch new result c not = was_whole old.is_broken (λ is. not (c.broken.1 is))
