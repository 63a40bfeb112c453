-- What a writer took.
use Rattle.std.specs.Prelude.{ℕ, zero, suc, ◌≡◌, ◌==◌, ◌<◌, ◌≤◌, ◌+◌, ◌⊎◌, Bool, true, false, Option}
use Rattle.std.specs.Prelude.{Some, None, List, [], ◌++◌, length, take, drop, if◌then◌else◌}
use Rattle.std.specs.Io.KnownBytes.{Appends, Keeps}

-- a writer with what was seen of its calls
pub record OutputState (W : Type 0) : Type 0 where
  pub writer : W
  pub calls : ℕ
  pub failures : ℕ  -- how many calls failed or took nothing, and how many flushes failed
  pub failed : Bool  -- there was such a one
  pub gone : List ℕ  -- all bytes that its calls took
  pub flushed : List ℕ  -- those before the last flush that didn't fail

-- a writer: how often it was called, how often it failed, whether it did, which bytes were taken, and
-- what was written, where it tells that
pub record Sink : Type 0 where
  pub calls : ℕ
  pub failures : ℕ
  pub failed : Bool
  pub gone : List ℕ
  pub written : Option (List ℕ)

abbrev pub sink_of : {W : Type 0} → (contents : W → Option (List ℕ)) → OutputState W → Sink
sink_of contents output =
    record {
      calls = output.calls;
      failures = output.failures;
      failed = output.failed;
      gone = output.gone;
      written = contents output.writer;
    }

-- a call that is answered so failed, or took nothing
abbrev pub is_miss : Option ℕ → Bool
is_miss None = true
is_miss (Some count) = count == 0

-- how many failures that is
abbrev pub misses : Option ℕ → ℕ
misses answer = if is_miss answer then 1 else 0

-- what a call took of its bytes that is answered so
abbrev pub taken : Option ℕ → List ℕ → List ℕ
taken None bytes = []
taken (Some count) bytes = take count bytes

-- One call of a writer for these bytes, which was answered so, and is counted as it was answered.
pub record TakesOnce {W : Type 0} (gives : W → List ℕ → Option ℕ → W → Type 0)
    (contents : W → Option (List ℕ)) (before : OutputState W) (bytes : List ℕ) (answer : Option ℕ)
    (after : OutputState W) : Type 0 where
  pub call : gives before.writer bytes answer after.writer
  pub calls : after.calls ≡ before.calls + 1
  pub failures : after.failures ≡ before.failures + misses answer
  pub failed : after.failed ≡ (if is_miss answer then true else before.failed)
  pub gone : after.gone ≡ before.gone ++ taken answer bytes
  pub flushed : after.flushed ≡ before.flushed
  pub written : Appends (contents before.writer) (contents after.writer) (taken answer bytes)

-- One flush of a writer, which was done or failed, and is counted so.
pub record FlushesOnce {W : Type 0} (flushes : W → Bool → W → Type 0)
    (contents : W → Option (List ℕ)) (before : OutputState W) (done : Bool)
    (after : OutputState W) : Type 0 where
  pub flush : flushes before.writer done after.writer
  pub calls : after.calls ≡ before.calls
  pub failures : after.failures ≡ (if done then before.failures else before.failures + 1)
  pub failed : after.failed ≡ (if done then before.failed else true)
  pub gone : after.gone ≡ before.gone
  pub flushed : after.flushed ≡ (if done then before.gone else before.flushed)
  pub written : Keeps (contents before.writer) (contents after.writer)

-- how often a writer failed, which bytes it took, and how many of these it passed on by a flush
pub record OutputTally : Type 0 where
  pub failures : ℕ
  pub gone : List ℕ
  pub flushed : List ℕ

abbrev pub sent_of : {W : Type 0} → OutputState W → OutputTally
sent_of output =
    record { failures = output.failures; gone = output.gone; flushed = output.flushed }

-- what a call for these bytes that is answered so adds to that
abbrev pub sent_by : (bytes : List ℕ) → (answer : Option ℕ) → OutputTally → OutputTally
sent_by bytes answer before =
    record before {
      failures = before.failures + misses answer;
      gone = before.gone ++ taken answer bytes;
    }

-- and what a flush does
abbrev pub flushed_by : (done : Bool) → OutputTally → OutputTally
flushed_by true before = record before { flushed = before.gone }
flushed_by false before = record before { failures = before.failures + 1 }

-- the writer was called for this many bytes, where there are any, and each call took one at least
pub record CallsForAll (count before after : ℕ) : Type 0 where
  pub called : 0 < count → before < after
  pub useful : after ≤ before + count

-- the writer was called, and each call but the last took one of this many bytes at least
pub record CallsUpToFault (count before after : ℕ) : Type 0 where
  pub called : before < after
  pub useful : after ≤ before + count + 1

-- all of these bytes were written
pub record Takes (bytes : List ℕ) (before after : Sink) : Type 0 where
  pub calls : CallsForAll (length bytes) before.calls after.calls
  pub failures : after.failures ≡ before.failures
  pub failed : after.failed ≡ before.failed
  pub gone : after.gone ≡ before.gone ++ bytes
  pub written : Appends before.written after.written bytes

-- one call failed or took nothing, and only so many of these bytes were written, never all
pub record TakesPrefix (count : ℕ) (bytes : List ℕ) (before after : Sink) : Type 0 where
  pub short : count < length bytes
  pub calls : CallsUpToFault count before.calls after.calls
  pub failures : after.failures ≡ before.failures + 1
  pub failed : after.failed ≡ true
  pub gone : after.gone ≡ before.gone ++ take count bytes
  pub written : Appends before.written after.written (take count bytes)

-- So many calls of a writer took so many of these bytes, one after the other, and each took one at
-- least.
abbrev pub Wrote : {W : Type 0} → (gives : W → List ℕ → Option ℕ → W → Type 0) → (calls : ℕ)
    → (bytes : List ℕ) → (written : ℕ) → (before after : W) → Type 0
Wrote gives zero bytes written before after = (written ≡ 0) × (after ≡ before)
Wrote {W} gives (suc calls) bytes written before after =
    (between : W) × (earlier : ℕ) × (count : ℕ) × Wrote gives calls bytes earlier before between
    × gives between (drop earlier bytes) (Some count) after × (0 < count)
    × (written ≡ earlier + count)

-- such calls took all of these bytes, and there were no others
abbrev pub WroteAll : {W : Type 0} → (gives : W → List ℕ → Option ℕ → W → Type 0)
    → (bytes : List ℕ) → (first last : ℕ) → (before after : W) → Type 0
WroteAll gives bytes first last before after =
    (calls : ℕ) × Wrote gives calls bytes (length bytes) before after × (last ≡ first + calls)

-- such calls took so many of these bytes, then one failed or took nothing, and there were no others
abbrev pub WroteUpToFault : {W : Type 0} → (gives : W → List ℕ → Option ℕ → W → Type 0)
    → (bytes : List ℕ) → (written : ℕ) → (first last : ℕ) → (before after : W) → Type 0
WroteUpToFault {W} gives bytes written first last before after =
    (calls : ℕ) × (between : W) × Wrote gives calls bytes written before between
    × (gives between (drop written bytes) None after
    ⊎ gives between (drop written bytes) (Some 0) after)
    × (last ≡ first + calls + 1)
