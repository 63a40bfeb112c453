-- What is written, and what is known where it was not.
use Rattle.std.specs.Prelude.{ℕ, ◌≡◌, ◌+◌, ◌⊎◌, Bool, true, false, Option, List}
use Rattle.std.specs.Prelude.{take}
use Rattle.std.specs.Io.KnownBytes.{Appends}
use Rattle.lift_base.specs.Output.{OutputState, OutputTally, Takes, TakesPrefix, sink_of}
use Rattle.lift_replay.specs.Writing.{TakesSomeEachCall, FailsAtLast}

-- All of these bytes were written, or the writer failed after a prefix of them.
abbrev pub IsWrittenOrFailed : {W : Type 0} → (W → Option (List ℕ)) → (old new : OutputState W)
    → List ℕ
    → Type 0
IsWrittenOrFailed contents old new bytes =
    Takes bytes (sink_of contents old) (sink_of contents new)
    ⊎ ((count : ℕ) × TakesPrefix count bytes (sink_of contents old) (sink_of contents new))

-- Each call of the writer took a byte at least, and then it was flushed.
abbrev pub IsFlushed : {W : Type 0} → (gives : W → List ℕ → Option ℕ → W → Type 0)
    → (flushes : W → Bool → W → Type 0) → (old new : W) → Type 0
IsFlushed {W} gives flushes old new =
    (last : W) × TakesSomeEachCall gives old last × flushes last true new

-- Each call of the writer took a byte at least, and then there was none, or a flush that failed.
abbrev pub WasTaken : {W : Type 0} → (gives : W → List ℕ → Option ℕ → W → Type 0)
    → (flushes : W → Bool → W → Type 0) → (old new : W) → Type 0
WasTaken {W} gives flushes old new =
    (last : W) × TakesSomeEachCall gives old last × ((new ≡ last) ⊎ flushes last false new)

-- The writer's last call failed, or took nothing; or each took a byte at least, and the flush
-- after them failed.
abbrev pub WriterHasFailed : {W : Type 0} → (gives : W → List ℕ → Option ℕ → W → Type 0)
    → (flushes : W → Bool → W → Type 0) → (old new : W) → Type 0
WriterHasFailed {W} gives flushes old new =
    FailsAtLast gives old new
    ⊎ ((last : W) × TakesSomeEachCall gives old last × flushes last false new)

-- No call of the output failed, and all that it took was passed on by a flush.
pub record IsAllPassedOn (before after : OutputTally) : Type 0 where
  pub failures : after.failures ≡ before.failures
  pub flushed : after.flushed ≡ after.gone

-- one call of it failed, or took nothing, or a flush failed
abbrev pub HasFailedOnce : (before after : OutputTally) → Type 0
HasFailedOnce before after = after.failures ≡ before.failures + 1

-- This text was written and passed on; or a prefix of it, and then the output has failed.
abbrev pub SaysText : List ℕ → (is_flushed has_failed : Type 0) → (before after : Option (List ℕ))
    → Type 0
SaysText text is_flushed has_failed before after = (is_flushed × Appends before after text)
    ⊎ (has_failed × ((count : ℕ) × Appends before after (take count text)))
