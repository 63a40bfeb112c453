-- How a writer was called.
use Rattle.std.proofs.Common.{◌≡◌, ℕ, zero, suc, ◌+◌, ◌<◌, Bool, List, [], ◌++◌, length, take, drop, length-drop, refl, sym, ap, ◌∙◌, subst, arith, inl, inr}
use Rattle.std.specs.Prelude.{Option, Some, None, Result, Ok, Err, OnOk, OnErr, IfErr, IsErrAnd, ◌⊎◌, if◌then◌else◌}
use Rattle.std.specs.Io.KnownBytes.{Appends}
use Rattle.std.proofs.KnownBytes.{Appends-nil, Appends-trans}
use Rattle.std.proofs.Math.Seq.{take-add}
use Rattle.std.proofs.lemmas.List.{append_cancel_left, append-nil, take_all}
use Rattle.lift_base.specs.Output.{OutputTally, Wrote, WroteAll, WroteUpToFault, sent_by, taken}
use Rattle.lift_base.specs.lemmas.Counted.{no_miss}
use Rattle.lift_base.specs.declared.text.output.WriteFault.{WriteFault}
use Rattle.lift_replay.specs.Writing.{Took, TakesSomeEachCall, FailsAtLast, IsCalled, IsCalledTill, failures_after}
use Rattle.lift_replay.specs.Writing.{GoesInto, WritesPieces, gone_in}
use Rattle.lift_replay.specs.declared.script.ReplayFault.{ReplayFault}
use Rattle.lift_replay.specs.declared.script.ReplayFault.TheVariants.{Memory, Read, Write}

took_more : {W : Type 0} (gives : W → List ℕ → Option ℕ → W → Type 0) (first second : ℕ) (before between after : W) → Took gives first before between → Took gives second between after → TakesSomeEachCall gives before after
took_more gives first zero before between after took same = (first, subst (Took gives first before) (sym same) took)
took_more gives first (suc second) before between after took (last, given, count, earlier, step, some) =
    let more = took_more gives first second before between last took earlier in
    (suc more.0, (last, given, count, more.1, step, some))

-- first some calls, then others
pub takes_more : {W : Type 0} (gives : W → List ℕ → Option ℕ → W → Type 0) (before between after : W) → TakesSomeEachCall gives before between → TakesSomeEachCall gives between after → TakesSomeEachCall gives before after
takes_more gives before between after first second = took_more gives first.0 second.0 before between after first.1 second.1

pub fails_more : {W : Type 0} (gives : W → List ℕ → Option ℕ → W → Type 0) (before between after : W) → TakesSomeEachCall gives before between → FailsAtLast gives between after → FailsAtLast gives before after
fails_more gives before between after first (last, given, takes, some, fails) = (last, given, takes_more gives before between last first takes, some, fails)

pub till_more : {W : Type 0} (gives : W → List ℕ → Option ℕ → W → Type 0) (before between after : W) (fault : ReplayFault) → (fault ≡ Read → ⊥) → TakesSomeEachCall gives before between → IsCalledTill gives between after fault → IsCalledTill gives before after fault
till_more gives before between after (Memory m) other first second = takes_more gives before between after first second
till_more gives before between after Read other first second = absurd (other refl)
till_more gives before between after Write other first second = fails_more gives before between after first second

-- a fault that is handed on
pub called_err : {W T : Type 0} (gives : W → List ℕ → Option ℕ → W → Type 0) (before after : W) (result : Result T ReplayFault) (fault : ReplayFault) → IsErrAnd result (λ told. told ≡ fault) → IsCalledTill gives before after fault
    → IsCalled gives before after result
called_err gives before after (Ok value) fault is called = absurd is
called_err gives before after (Err told) fault is called = subst (IsCalledTill gives before after) (sym is) called

took_of : {W : Type 0} (gives : W → List ℕ → Option ℕ → W → Type 0) (calls written : ℕ) (bytes : List ℕ) (before after : W) → Wrote gives calls bytes written before after → Took gives calls before after
took_of gives zero written bytes before after wrote = wrote.1
took_of gives (suc calls) written bytes before after (between, earlier, count, wrote, step, some, whole) =
    (between, drop earlier bytes, count, took_of gives calls earlier bytes before between wrote, step, some)

-- all of some bytes were written
pub takes_of : {W : Type 0} (gives : W → List ℕ → Option ℕ → W → Type 0) (bytes : List ℕ) (before after : W) → (calls : ℕ) × WroteAll gives bytes 0 calls before after → TakesSomeEachCall gives before after
takes_of gives bytes before after (calls, (made, wrote, count)) = (made, took_of gives made (length bytes) bytes before after wrote)

-- or a prefix of them
pub fails_of : {W : Type 0} (gives : W → List ℕ → Option ℕ → W → Type 0) (bytes : List ℕ) (before after : W) (fault : WriteFault) → fault.written < length bytes
    → (calls : ℕ) × WroteUpToFault gives bytes fault.written 0 calls before after → FailsAtLast gives before after
fails_of gives bytes before after fault within (calls, (made, between, wrote, fails, count)) =
    (between, drop fault.written bytes, (made, took_of gives made fault.written bytes before between wrote), omega (arith, within, length-drop fault.written bytes), fails)

-- by what a put came to
pub takes_all : {W : Type 0} (gives : W → List ℕ → Option ℕ → W → Type 0) (bytes : List ℕ) (before after : W) (result : Result Unit WriteFault)
    → OnOk result ((calls : ℕ) × WroteAll gives bytes 0 calls before after) → OnOk result (TakesSomeEachCall gives before after)
takes_all gives bytes before after (Ok done) told = takes_of gives bytes before after told
takes_all gives bytes before after (Err fault) told = tt

pub fails_at_last : {W : Type 0} (gives : W → List ℕ → Option ℕ → W → Type 0) (bytes : List ℕ) (before after : W) (result : Result Unit WriteFault)
    → IfErr result (λ fault. fault.written < length bytes) → IfErr result (λ fault. (calls : ℕ) × WroteUpToFault gives bytes fault.written 0 calls before after)
    → OnErr result (FailsAtLast gives before after)
fails_at_last gives bytes before after (Ok done) within told = tt
fails_at_last gives bytes before after (Err fault) within told = fails_of gives bytes before after fault within told

-- of no bytes no call is made
none_wrote : {W : Type 0} (gives : W → List ℕ → Option ℕ → W → Type 0) (calls : ℕ) (before after : W) → Wrote gives calls [] 0 before after → after ≡ before
none_wrote gives zero before after wrote = wrote.1
none_wrote gives (suc calls) before after (between, earlier, some, wrote, step, more, whole) = absurd (omega (arith, more, whole))

pub none_taken : {W : Type 0} (gives : W → List ℕ → Option ℕ → W → Type 0) (bytes : List ℕ) (before after : W) (result : Result Unit WriteFault) → bytes ≡ []
    → IfErr result (λ fault. fault.written < length bytes) → OnOk result ((calls : ℕ) × WroteAll gives bytes 0 calls before after) → after ≡ before
none_taken gives bytes before after (Ok done) none within (calls, (made, wrote, count)) =
    none_wrote gives made before after (subst (λ b. Wrote gives made b (length b) before after) none wrote)
none_taken gives bytes before after (Err fault) none within told = absurd (omega (arith, within, ap length none))

-- the last piece was written after what came before
pub called_after : {W T : Type 0} (gives : W → List ℕ → Option ℕ → W → Type 0) (before between after : W) (end : Result T ReplayFault) (piece : List ℕ) → (end ≡ Err Read → ⊥) → IsCalled gives before between end
    → (end ≡ Err Write → piece ≡ []) → (piece ≡ [] → after ≡ between) → TakesSomeEachCall gives between after → IsCalled gives before after end
called_after gives before between after (Ok value) piece other first empty idle takes = takes_more gives before between after first takes
called_after gives before between after (Err (Memory m)) piece other first empty idle takes = takes_more gives before between after first takes
called_after gives before between after (Err Read) piece other first empty idle takes = absurd (other refl)
called_after gives before between after (Err Write) piece other first empty idle takes = subst (FailsAtLast gives before) (sym (idle (empty refl))) first

-- or the writer failed there
pub fails_later : {W T : Type 0} (gives : W → List ℕ → Option ℕ → W → Type 0) (before between after : W) (end : Result T ReplayFault) (piece : List ℕ) → (end ≡ Err Read → ⊥) → IsCalled gives before between end
    → (end ≡ Err Write → piece ≡ []) → (piece ≡ [] → after ≡ between) → FailsAtLast gives between after → FailsAtLast gives before after
fails_later gives before between after (Ok value) piece other first empty idle fails = fails_more gives before between after first fails
fails_later gives before between after (Err (Memory m)) piece other first empty idle fails = fails_more gives before between after first fails
fails_later gives before between after (Err Read) piece other first empty idle fails = absurd (other refl)
fails_later gives before between after (Err Write) piece other first empty idle fails = subst (FailsAtLast gives before) (sym (idle (empty refl))) first

-- by what a function came to that adds to a piece: no call failed
pub pieces_ok : {W T : Type 0} (gives : W → List ℕ → Option ℕ → W → Type 0) (before after : W) (piece : List ℕ) (value : T) → TakesSomeEachCall gives before after → WritesPieces gives before after piece (Ok value)
pieces_ok gives before after piece value takes = record { output = λ is. cc; calls = takes; emptied = λ is. absurd cc }

-- or a fault is handed on
pieces_err : {W T : Type 0} (gives : W → List ℕ → Option ℕ → W → Type 0) (before after : W) (piece : List ℕ) (result : Result T ReplayFault) (fault : ReplayFault) → IsErrAnd result (λ told. told ≡ fault) → (fault ≡ Read → ⊥)
    → IsCalledTill gives before after fault → (fault ≡ Write → piece ≡ []) → WritesPieces gives before after piece result
pieces_err gives before after piece (Ok value) fault is other called empty = absurd is
pieces_err gives before after piece (Err told) fault is other called empty = record {
  output = λ read. other (let same : told ≡ fault = is in cc);
  calls = subst (IsCalledTill gives before after) (sym is) called;
  emptied = λ write. empty (let same : told ≡ fault = is in cc);
}

pub pieces_memory : {W T : Type 0} (gives : W → List ℕ → Option ℕ → W → Type 0) (before after : W) (piece : List ℕ) (result : Result T ReplayFault) → IsErrAnd result (λ told. told ≡ Memory tt) → TakesSomeEachCall gives before after → WritesPieces gives before after piece result
pieces_memory gives before after piece result is takes = pieces_err gives before after piece result (Memory tt) is (λ read. cc) takes (λ write. absurd cc)

pub pieces_failed : {W T : Type 0} (gives : W → List ℕ → Option ℕ → W → Type 0) (before after : W) (piece : List ℕ) (result : Result T ReplayFault) → IsErrAnd result (λ told. told ≡ Write) → FailsAtLast gives before after → piece ≡ [] → WritesPieces gives before after piece result
pieces_failed gives before after piece result is fails empty = pieces_err gives before after piece result Write is (λ read. cc) fails (λ write. empty)

-- one of such a function, after other calls
pub pieces_after : {W T U : Type 0} (gives : W → List ℕ → Option ℕ → W → Type 0) (before between after : W) (piece : List ℕ) (result : Result T ReplayFault) (fault : ReplayFault) → IsErrAnd result (λ told. told ≡ fault) → TakesSomeEachCall gives before between
    → WritesPieces {T = U} gives between after piece (Err fault) → WritesPieces gives before after piece result
pieces_after gives before between after piece result fault is first writes =
    let other : fault ≡ Read → ⊥ = λ read. writes.output (ap Err read) in
    pieces_err gives before after piece result fault is other (till_more gives before between after fault other first writes.calls) (λ write. writes.emptied (ap Err write))

-- what calls of which each is counted leave of the count of failures
module _ {W : Type 0} (gives : W → List ℕ → Option ℕ → W → Type 0) (sent : W → OutputTally)
    (counts : (before : W) (bytes : List ℕ) (answer : Option ℕ) (after : W) → gives before bytes answer after → sent after ≡ sent_by bytes answer (sent before)) where
  pub took_counts : (calls : ℕ) (before after : W) → Took gives calls before after → (sent after).failures ≡ (sent before).failures
  took_counts zero before after took = ap (λ (w : W). (sent w).failures) took
  took_counts (suc calls) before after (between, given, count, earlier, step, some) =
      ap (λ (s : OutputTally). s.failures) (counts between given (Some count) after step)
      ∙ ap (λ (b : Bool). (sent between).failures + (if b then 1 else 0)) (no_miss count some)
      ∙ omega (arith, took_counts calls before between earlier)

  pub fails_counts : (before after : W) → FailsAtLast gives before after → (sent after).failures ≡ (sent before).failures + 1
  fails_counts before after (between, given, (calls, took), some, inl failed) =
      ap (λ (s : OutputTally). s.failures) (counts between given None after failed) ∙ ap (λ (n : ℕ). n + 1) (took_counts calls before between took)
  fails_counts before after (between, given, (calls, took), some, inr none) =
      ap (λ (s : OutputTally). s.failures) (counts between given (Some 0) after none) ∙ ap (λ (n : ℕ). n + 1) (took_counts calls before between took)

  pub called_counts : {T : Type 0} (before after : W) (result : Result T ReplayFault) → IsCalled gives before after result → (sent after).failures ≡ failures_after result (sent before).failures
  called_counts before after (Ok value) (calls, took) = took_counts calls before after took
  called_counts before after (Err (Memory m)) (calls, took) = took_counts calls before after took
  called_counts before after (Err Read) same = ap (λ (w : W). (sent w).failures) same
  called_counts before after (Err Write) fails = fails_counts before after fails

  -- and of what they took
  gone_by : (before : W) (bytes : List ℕ) (answer : Option ℕ) (after : W) → gives before bytes answer after → Appends (gone_in sent before) (gone_in sent after) (taken answer bytes)
  unfolding gone_in
  gone_by before bytes answer after step = ap (λ (s : OutputTally). s.gone) (counts before bytes answer after step)

  wrote_gone : (calls : ℕ) (bytes : List ℕ) (written : ℕ) (before after : W) → Wrote gives calls bytes written before after → Appends (gone_in sent before) (gone_in sent after) (take written bytes)
  wrote_gone zero bytes written before after (none, same) =
      subst (λ w. Appends (gone_in sent before) (gone_in sent w) (take written bytes)) (sym same)
      (subst (λ n. Appends (gone_in sent before) (gone_in sent before) (take n bytes)) (sym none) (Appends-nil (gone_in sent before)))
  wrote_gone (suc calls) bytes written before after (between, earlier, count, wrote, step, some, whole) =
      let text : take earlier bytes ++ take count (drop earlier bytes) ≡ take written bytes = sym (take-add earlier count bytes) ∙ ap (λ n. take n bytes) (sym whole) in
      subst (Appends (gone_in sent before) (gone_in sent after)) text
      (Appends-trans (gone_in sent before) (gone_in sent between) (gone_in sent after) (take earlier bytes) (take count (drop earlier bytes))
      (wrote_gone calls bytes earlier before between wrote) (gone_by between (drop earlier bytes) (Some count) after step))

  pub gone_whole : (bytes : List ℕ) (before after : W) → (calls : ℕ) × WroteAll gives bytes 0 calls before after → Appends (gone_in sent before) (gone_in sent after) bytes
  gone_whole bytes before after (calls, (made, wrote, count)) =
      subst (Appends (gone_in sent before) (gone_in sent after)) (take_all (length bytes) bytes (omega arith)) (wrote_gone made bytes (length bytes) before after wrote)

  gone_missed : (bytes : List ℕ) (before after : W) → gives before bytes None after ⊎ gives before bytes (Some 0) after → Appends (gone_in sent before) (gone_in sent after) []
  gone_missed bytes before after (inl failed) = gone_by before bytes None after failed
  gone_missed bytes before after (inr none) = gone_by before bytes (Some 0) after none

  pub gone_part : (bytes : List ℕ) (written : ℕ) (before after : W) → (calls : ℕ) × WroteUpToFault gives bytes written 0 calls before after
      → Appends (gone_in sent before) (gone_in sent after) (take written bytes)
  gone_part bytes written before after (calls, (made, between, wrote, fails, count)) =
      subst (Appends (gone_in sent before) (gone_in sent after)) (append-nil (take written bytes))
      (Appends-trans (gone_in sent before) (gone_in sent between) (gone_in sent after) (take written bytes) []
      (wrote_gone made bytes written before between wrote) (gone_missed (drop written bytes) between after fails))

  pub gone_all : (bytes : List ℕ) (before after : W) (result : Result Unit WriteFault)
      → OnOk result ((calls : ℕ) × WroteAll gives bytes 0 calls before after) → OnOk result (Appends (gone_in sent before) (gone_in sent after) bytes)
  gone_all bytes before after (Ok done) told = gone_whole bytes before after told
  gone_all bytes before after (Err fault) told = tt

  pub gone_some : (bytes : List ℕ) (before after : W) (result : Result Unit WriteFault)
      → IfErr result (λ fault. (calls : ℕ) × WroteUpToFault gives bytes fault.written 0 calls before after)
      → IfErr result (λ fault. Appends (gone_in sent before) (gone_in sent after) (take fault.written bytes))
  gone_some bytes before after (Ok done) told = tt
  gone_some bytes before after (Err fault) told = gone_part bytes fault.written before after told

  -- and of what is in the writer, where it tells that
  module _ (contents : W → Option (List ℕ))
      (holds : (before : W) (bytes : List ℕ) (answer : Option ℕ) (after : W) → gives before bytes answer after → Appends (contents before) (contents after) (taken answer bytes)) where
    goes_on : (before between after : W) (bytes : List ℕ) (answer : Option ℕ) → GoesInto sent contents before between → gives between bytes answer after → GoesInto sent contents before after
    goes_on before between after bytes answer (first, gone, written) step = (
      first ++ taken answer bytes,
      Appends-trans (gone_in sent before) (gone_in sent between) (gone_in sent after) first (taken answer bytes) gone (gone_by between bytes answer after step),
      Appends-trans (contents before) (contents between) (contents after) first (taken answer bytes) written (holds between bytes answer after step),
    )

    stays : (before after : W) → after ≡ before → GoesInto sent contents before after
    stays before after same = subst (GoesInto sent contents before) (sym same) ([], Appends-nil (gone_in sent before), Appends-nil (contents before))

    took_goes : (calls : ℕ) (before after : W) → Took gives calls before after → GoesInto sent contents before after
    took_goes zero before after same = stays before after same
    took_goes (suc calls) before after (between, given, count, earlier, step, some) =
        goes_on before between after given (Some count) (took_goes calls before between earlier) step

    pub called_goes : {T : Type 0} (before after : W) (result : Result T ReplayFault) → IsCalled gives before after result → GoesInto sent contents before after
    called_goes before after (Ok value) (calls, took) = took_goes calls before after took
    called_goes before after (Err (Memory m)) (calls, took) = took_goes calls before after took
    called_goes before after (Err Read) same = stays before after same
    called_goes before after (Err Write) (between, given, (calls, took), some, inl failed) = goes_on before between after given None (took_goes calls before between took) failed
    called_goes before after (Err Write) (between, given, (calls, took), some, inr none) = goes_on before between after given (Some 0) (took_goes calls before between took) none

-- So what is told of the bytes that were taken is so of what is in the writer.
pub held : {W : Type 0} (sent : W → OutputTally) (contents : W → Option (List ℕ)) (before after : W) (text : List ℕ) → GoesInto sent contents before after → Appends (gone_in sent before) (gone_in sent after) text → Appends (contents before) (contents after) text
unfolding gone_in
held sent contents before after text (bytes, gone, written) took = subst (Appends (contents before) (contents after)) (append_cancel_left (sent before).gone bytes text (sym gone ∙ took)) written
