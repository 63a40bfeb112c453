-- What is counted of an output, by how it was called.
use Rattle.std.proofs.Common.{◌≡◌, ℕ, ◌+◌, Bool, true, false, List, sym, ap, ◌∙◌, inl, inr}
use Rattle.std.specs.Prelude.{Option}
use Rattle.lift_base.specs.Output.{OutputTally, flushed_by, sent_by}
use Rattle.lift_replay.specs.lemmas.Writes.{fails_counts, took_counts}
use Rattle.lift_program.specs.Output.{HasFailedOnce, IsAllPassedOn, IsFlushed, WriterHasFailed}

module _ {W : Type 0} (gives : W → List ℕ → Option ℕ → W → Type 0) (flushes : W → Bool → W → Type 0) (sent : W → OutputTally)
    (counts : (before : W) (bytes : List ℕ) (answer : Option ℕ) (after : W) → gives before bytes answer after → sent after ≡ sent_by bytes answer (sent before))
    (counts_flush : (before : W) (done : Bool) (after : W) → flushes before done after → sent after ≡ flushed_by done (sent before)) where
  pub all_passed_on : (old new : W) → IsFlushed gives flushes old new → IsAllPassedOn (sent old) (sent new)
  all_passed_on old new (last, (calls, took), done) =
      let told = counts_flush last true new done in
      record {
        failures = ap (λ (t : OutputTally). t.failures) told ∙ took_counts gives sent counts calls old last took;
        flushed = ap (λ (t : OutputTally). t.flushed) told ∙ sym (ap (λ (t : OutputTally). t.gone) told);
      }

  pub failed_once : (old new : W) → WriterHasFailed gives flushes old new → HasFailedOnce (sent old) (sent new)
  failed_once old new (inl fails) = fails_counts gives sent counts old new fails
  failed_once old new (inr (last, (calls, took), failed)) =
      ap (λ (t : OutputTally). t.failures) (counts_flush last false new failed) ∙ ap (λ (n : ℕ). n + 1) (took_counts gives sent counts calls old last took)
