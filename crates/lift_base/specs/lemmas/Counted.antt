-- What calls of a watched writer add up to.
use Rattle.std.proofs.Common.{◌≡◌, ℕ, ◌+◌, ◌≤◌, ◌<◌, Bool, true, false, List, [], ◌++◌, length, take}
use Rattle.std.proofs.Common.{drop, zero, suc, sym, ap, ◌∙◌, subst, arith, inl, inr, append_assoc}
use Rattle.std.proofs.Math.Seq.{take-add, take-length}
use Rattle.std.proofs.lemmas.Bool.Decides.{nat_tests}
use Rattle.std.proofs.lemmas.List.{append-nil}
use Rattle.std.proofs.KnownBytes.{Appends-nil, Appends-trans}
use Rattle.std.specs.Prelude.{Option, Some, None, Result, Ok, Err, OnOk, IfErr, ◌⊎◌, if◌then◌else◌}
use Rattle.std.specs.Io.KnownBytes.{Appends}
use Rattle.lift_base.specs.Output.{OutputState, TakesOnce, FlushesOnce, Wrote, WroteAll, misses}
use Rattle.lift_base.specs.Output.{WroteUpToFault, Takes, TakesPrefix, is_miss, taken, sent_of}
use Rattle.lift_base.specs.Output.{sent_by, flushed_by, sink_of}
use Rattle.lift_base.specs.declared.text.output.WriteFault.{WriteFault}

-- a call, and a flush, as they are counted
pub counts_call : {W : Type 0} {gives : W → List ℕ → Option ℕ → W → Type 0}
    {contents : W → Option (List ℕ)} (before : OutputState W) (bytes : List ℕ) (answer : Option ℕ)
    (after : OutputState W) → TakesOnce gives contents before bytes answer after
    → sent_of after ≡ sent_by bytes answer (sent_of before)
counts_call before bytes answer after once =
    ap (λ n. record { failures = n; gone = after.gone; flushed = after.flushed }) once.failures
    ∙ ap (λ g. record { failures = before.failures + misses answer; gone = g; flushed = after.flushed }) once.gone
    ∙ ap (λ f. record { failures = before.failures + misses answer; gone = before.gone ++ taken answer bytes; flushed = f }) once.flushed

pub counts_flush_of : {W : Type 0} {flushes : W → Bool → W → Type 0}
    {contents : W → Option (List ℕ)} (before : OutputState W) (done : Bool)
    (after : OutputState W) → FlushesOnce flushes contents before done after
    → sent_of after ≡ flushed_by done (sent_of before)
counts_flush_of before true after once =
    ap (λ n. record { failures = n; gone = after.gone; flushed = after.flushed }) once.failures
    ∙ ap (λ g. record { failures = before.failures; gone = g; flushed = after.flushed }) once.gone
    ∙ ap (λ f. record { failures = before.failures; gone = before.gone; flushed = f }) once.flushed
counts_flush_of before false after once =
    ap (λ n. record { failures = n; gone = after.gone; flushed = after.flushed }) once.failures
    ∙ ap (λ g. record { failures = before.failures + 1; gone = g; flushed = after.flushed }) once.gone
    ∙ ap (λ f. record { failures = before.failures + 1; gone = before.gone; flushed = f }) once.flushed

-- a call that took a byte is no failure
pub no_miss : (count : ℕ) → 0 < count → is_miss (Some count) ≡ false
no_miss count some = grind (arith, nat_tests)

-- what so many calls add up to that took so many of these bytes, and each one at least
pub record AddsUp {W : Type 0} (gives : W → List ℕ → Option ℕ → W → Type 0)
    (contents : W → Option (List ℕ)) (calls : ℕ) (bytes : List ℕ) (written : ℕ)
    (before after : OutputState W) : Type 0 where
  pub each : Wrote gives calls bytes written before.writer after.writer
  pub counted : after.calls ≡ before.calls + calls
  pub few : calls ≤ written
  pub some : 0 < written → 0 < calls
  pub failures : after.failures ≡ before.failures
  pub failed : after.failed ≡ before.failed
  pub gone : after.gone ≡ before.gone ++ take written bytes
  pub held : Appends (contents before.writer) (contents after.writer) (take written bytes)

module _ {W : Type 0} (gives : W → List ℕ → Option ℕ → W → Type 0)
    (contents : W → Option (List ℕ)) where
  none_added : (bytes : List ℕ) (written : ℕ) (before after : OutputState W) → written ≡ 0
      → after ≡ before → AddsUp gives contents 0 bytes written before after
  none_added bytes written before after none same =
      let nothing : take written bytes ≡ [] = ap (λ n. take n bytes) none in
      record {
        each = (none, ap (λ (s : OutputState W). s.writer) same);
        counted = omega (arith, ap (λ (s : OutputState W). s.calls) same);
        few = omega arith;
        some = λ more. omega (arith, none, more);
        failures = ap (λ (s : OutputState W). s.failures) same;
        failed = ap (λ (s : OutputState W). s.failed) same;
        gone = ap (λ (s : OutputState W). s.gone) same ∙ sym (append-nil before.gone) ∙ ap (λ t. before.gone ++ t) (sym nothing);
        held = subst (λ (s : OutputState W). Appends (contents before.writer) (contents s.writer) (take written bytes)) (sym same)
            (subst (Appends (contents before.writer) (contents before.writer)) (sym nothing) (Appends-nil (contents before.writer)));
      }

  one_added : (calls : ℕ) (bytes : List ℕ) (earlier count written : ℕ) (before between after : OutputState W)
      → AddsUp gives contents calls bytes earlier before between
      → TakesOnce gives contents between (drop earlier bytes) (Some count) after → 0 < count
      → written ≡ earlier + count → AddsUp gives contents (suc calls) bytes written before after
  one_added calls bytes earlier count written before between after so_far step some whole =
      let hit = no_miss count some in
      let few = so_far.few in
      let so_many = so_far.counted in
      let text : take earlier bytes ++ take count (drop earlier bytes) ≡ take written bytes =
      sym (take-add earlier count bytes) ∙ ap (λ n. take n bytes) (sym whole) in
      record {
        each = (between.writer, earlier, count, so_far.each, step.call, some, whole);
        counted = omega (arith, so_many, step.calls);
        few = omega (arith, few, some, whole);
        some = λ more. omega arith;
        failures = step.failures ∙ ap (λ (b : Bool). between.failures + (if b then 1 else 0)) hit ∙ omega (arith, so_far.failures);
        failed = step.failed ∙ ap (λ (b : Bool). if b then true else between.failed) hit ∙ so_far.failed;
        gone = step.gone ∙ ap (λ g. g ++ take count (drop earlier bytes)) so_far.gone
            ∙ append_assoc before.gone (take earlier bytes) (take count (drop earlier bytes)) ∙ ap (λ t. before.gone ++ t) text;
        held = subst (Appends (contents before.writer) (contents after.writer)) text
            (Appends-trans (contents before.writer) (contents between.writer) (contents after.writer) (take earlier bytes) (take count (drop earlier bytes)) so_far.held step.written);
      }

  pub adds_up : (calls : ℕ) (bytes : List ℕ) (written : ℕ) (before after : OutputState W)
      → Wrote (TakesOnce gives contents) calls bytes written before after
      → AddsUp gives contents calls bytes written before after
  adds_up zero bytes written before after wrote = none_added bytes written before after wrote.0 wrote.1
  adds_up (suc calls) bytes written before after (between, earlier, count, wrote, step, some, whole) =
      one_added calls bytes earlier count written before between after
      (adds_up calls bytes earlier before between wrote) step some whole

  -- all of some bytes were taken
  pub takes_all_of : (bytes : List ℕ) (before after : OutputState W)
      → (calls : ℕ) × WroteAll (TakesOnce gives contents) bytes 0 calls before after
      → Takes bytes (sink_of contents before) (sink_of contents after)
      × WroteAll gives bytes before.calls after.calls before.writer after.writer
  takes_all_of bytes before after (calls, (made, wrote, count)) =
      let all = adds_up made bytes (length bytes) before after wrote in
      let few = all.few in
      let some = all.some in
      let so_many = all.counted in (
        record {
          calls = record { called = λ more. omega (arith, so_many, some more); useful = omega (arith, so_many, few) };
          failures = all.failures;
          failed = all.failed;
          gone = all.gone ∙ ap (λ t. before.gone ++ t) (take-length bytes);
          written = subst (Appends (contents before.writer) (contents after.writer)) (take-length bytes) all.held;
        },
        (made, all.each, all.counted),
      )

  -- a call that failed, or took nothing
  record Misses (before after : OutputState W) : Type 0 where
    pub calls : after.calls ≡ before.calls + 1
    pub failures : after.failures ≡ before.failures + 1
    pub failed : after.failed ≡ true
    pub gone : after.gone ≡ before.gone
    pub held : Appends (contents before.writer) (contents after.writer) []

  missed : (rest : List ℕ) (before after : OutputState W)
      → TakesOnce gives contents before rest None after
      ⊎ TakesOnce gives contents before rest (Some 0) after → Misses before after
  missed rest before after (inl once) = record {
    calls = once.calls;
    failures = once.failures;
    failed = once.failed;
    gone = once.gone ∙ append-nil before.gone;
    held = once.written;
  }
  missed rest before after (inr once) = record {
    calls = once.calls;
    failures = once.failures;
    failed = once.failed;
    gone = once.gone ∙ append-nil before.gone;
    held = once.written;
  }

  called : (rest : List ℕ) (before after : OutputState W)
      → TakesOnce gives contents before rest None after
      ⊎ TakesOnce gives contents before rest (Some 0) after
      → gives before.writer rest None after.writer ⊎ gives before.writer rest (Some 0) after.writer
  called rest before after (inl once) = inl once.call
  called rest before after (inr once) = inr once.call

  -- or a prefix of them
  pub takes_some_of : (bytes : List ℕ) (written : ℕ) (before after : OutputState W)
      → written < length bytes
      → (calls : ℕ) × WroteUpToFault (TakesOnce gives contents) bytes written 0 calls before after
      → TakesPrefix written bytes (sink_of contents before) (sink_of contents after)
      × WroteUpToFault gives bytes written before.calls after.calls before.writer after.writer
  takes_some_of bytes written before after within (calls, (made, between, wrote, fails, count)) =
      let all = adds_up made bytes written before between wrote in
      let few = all.few in
      let so_many = all.counted in
      let miss = missed (drop written bytes) between after fails in
      let last = miss.calls in (
        record {
          short = within;
          calls = record { called = omega (arith, so_many, last); useful = omega (arith, so_many, few, last) };
          failures = omega (arith, miss.failures, all.failures);
          failed = miss.failed;
          gone = miss.gone ∙ all.gone;
          written = subst (Appends (contents before.writer) (contents after.writer)) (append-nil (take written bytes))
              (Appends-trans (contents before.writer) (contents between.writer) (contents after.writer) (take written bytes) [] all.held miss.held);
        },
        (made, between.writer, all.each, called (drop written bytes) between after fails, omega (arith, so_many, last)),
      )

  -- by what a put came to
  pub put_takes : (bytes : List ℕ) (before after : OutputState W) (result : Result Unit WriteFault)
      → OnOk result ((calls : ℕ) × WroteAll (TakesOnce gives contents) bytes 0 calls before after)
      → OnOk result (Takes bytes (sink_of contents before) (sink_of contents after))
      × OnOk result (WroteAll gives bytes before.calls after.calls before.writer after.writer)
  put_takes bytes before after (Ok done) told = takes_all_of bytes before after told
  put_takes bytes before after (Err fault) told = (tt, tt)

  pub put_stops : (bytes : List ℕ) (before after : OutputState W) (result : Result Unit WriteFault)
      → IfErr result (λ fault. fault.written < length bytes)
      → IfErr result (λ fault. (calls : ℕ)
      × WroteUpToFault (TakesOnce gives contents) bytes fault.written 0 calls before after)
      → IfErr result (λ fault.
      TakesPrefix fault.written bytes (sink_of contents before) (sink_of contents after))
      × IfErr result (λ fault.
      WroteUpToFault gives bytes fault.written before.calls after.calls before.writer after.writer)
  put_stops bytes before after (Ok done) within told = (tt, tt)
  put_stops bytes before after (Err fault) within told =
      takes_some_of bytes fault.written before after within told
