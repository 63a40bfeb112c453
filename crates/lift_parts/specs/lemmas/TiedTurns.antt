-- What a flusher's turn gives for the machine's turns.
use Rattle.std.proofs.Common.{◌≡◌, ◌⊎◌, inl, inr, Bool, true, false, [], refl, sym, subst, ◌∙◌}
use Rattle.std.specs.Prelude.{◌↔◌, Result, Ok, Err, IfOk, OnOk, OnErr}
use Rattle.lift_journal.specs.declared.fault.JournalFault.TheVariants.{Disk, Broken}
use Rattle.lift_keeper.specs.declared.fault.KeeperFault.{KeeperFault}
use Rattle.lift_keeper.specs.declared.fault.KeeperFault.TheVariants.{Journal}
use Rattle.lift_parts.specs.declared.counts.FlushCounts.{FlushCounts}
use Rattle.lift_parts.specs.Batch.{BatchState}
use Rattle.lift_parts.specs.Flusher.{FlusherState, IsEmptyTurn, IsBatchTurn}
use Rattle.lift_parts.specs.Tie.{Flushes, FlushFails, FlushesBroken}

is_whole : (b : Bool) → (b ≡ true → ⊥) → b ≡ false
is_whole true never = absurd (never refl)
is_whole false never = refl

abbrev Turn : {D : Type 0} → FlusherState D → FlusherState D → Result FlushCounts KeeperFault
    → Type 0
Turn f g result = IsEmptyTurn f g result ⊎ ((batch : BatchState) × IsBatchTurn f g batch result)

module _ {D : Type 0} (f g : FlusherState D) (same_plan : g.writer.plan ≡ f.writer.plan) where
  ok_turn : (counts : FlushCounts) → Turn f g (Ok counts)
      → ((Ok counts ≡ Err (Journal Broken)) ↔ (f.writer.is_broken ≡ true))
      → g.writer.register ≡ g.end.state.register
      → (g.writer.is_broken ≡ false) → (g.writer.doubt ≡ [])
      → IsEmptyTurn f g (Ok counts) ⊎ ((batch : BatchState) × Flushes f g batch counts)
  ok_turn counts (inl e) broken register whole none = inl e
  ok_turn counts (inr t) broken register whole none = inr (
    t.0,
    record {
      turn = t.1;
      was_whole = is_whole f.writer.is_broken
          (λ is. let wrong : Ok counts ≡ Err (Journal Broken) = broken.1 is in cc);
      is_whole = whole;
      register = register;
      no_doubt = none;
      same_plan = same_plan;
    },
  )

  no_empty : (b : Bool) → f.writer.is_broken ≡ b → IsEmptyTurn f g (Err (Journal Disk)) → ⊥
  no_empty true is e = let wrong = e.broken is in cc
  no_empty false is e = let wrong = e.whole is in cc

  fail_turn : Turn f g (Err (Journal Disk)) → g.writer.is_broken ≡ true
      → g.writer.register ≡ f.writer.register → (f.writer.is_broken ≡ true → ⊥)
      → (batch : BatchState) × FlushFails f g batch
  fail_turn (inl e) breaks same never = absurd (no_empty f.writer.is_broken refl e)
  fail_turn (inr t) breaks same never = (
    t.0,
    record {
      turn = t.1;
      was_whole = is_whole f.writer.is_broken never;
      breaks = breaks;
      same_register = same;
      same_plan = same_plan;
    },
  )

  rest_turn : Turn f g (Err (Journal Broken)) → f.writer.is_broken ≡ true → g.writer ≡ f.writer
      → IsEmptyTurn f g (Err (Journal Broken)) ⊎ ((batch : BatchState) × FlushesBroken f g batch)
  rest_turn (inl e) was same = inl e
  rest_turn (inr t) was same = inr (t.0, record { turn = t.1; was_broken = was; rests = same })

  pub flushes_of : (result : Result FlushCounts KeeperFault) → Turn f g result
      → ((result ≡ Err (Journal Broken)) ↔ (f.writer.is_broken ≡ true))
      → OnOk result (g.writer.register ≡ g.end.state.register)
      → OnOk result ((g.writer.is_broken ≡ false) × (g.writer.doubt ≡ []))
      → IfOk result (λ counts. IsEmptyTurn f g (Ok counts)
      ⊎ ((batch : BatchState) × Flushes f g batch counts))
  flushes_of (Ok counts) t broken register whole =
      ok_turn counts t broken register whole.0 whole.1
  flushes_of (Err fault) t broken register whole = tt

  pub fails_of : (result : Result FlushCounts KeeperFault) → result ≡ Err (Journal Disk)
      → Turn f g result → ((result ≡ Err (Journal Broken)) ↔ (f.writer.is_broken ≡ true))
      → OnErr result (g.writer.is_broken ≡ true)
      → OnErr result (g.writer.register ≡ f.writer.register)
      → (batch : BatchState) × FlushFails f g batch
  fails_of result e t broken breaks same =
      let at = λ (X : Type 0) (x : OnErr result X). subst (λ r. OnErr r X) e x in
      fail_turn (subst (λ (r : Result FlushCounts KeeperFault). Turn f g r) e t)
      (at (g.writer.is_broken ≡ true) breaks)
      (at (g.writer.register ≡ f.writer.register) same)
      (λ is. let wrong = sym e ∙ broken.1 is in cc)

  pub rests_of : (result : Result FlushCounts KeeperFault) → result ≡ Err (Journal Broken)
      → Turn f g result → ((result ≡ Err (Journal Broken)) ↔ (f.writer.is_broken ≡ true))
      → (f.writer.is_broken ≡ true → g.writer ≡ f.writer)
      → IsEmptyTurn f g (Err (Journal Broken))
      ⊎ ((batch : BatchState) × FlushesBroken f g batch)
  rests_of result e t broken rests =
      rest_turn (subst (λ (r : Result FlushCounts KeeperFault). Turn f g r) e t) (broken.0 e)
      (rests (broken.0 e))
