-- How the writer of a report was called, and what it took.
use Rattle.std.specs.Prelude.{ℕ, zero, suc, ◌≡◌, ◌≢◌, ◌<◌, ◌+◌, ◌⊎◌, Option, Some, None, List, []}
use Rattle.std.specs.Prelude.{length, Result, Ok, Err}
use Rattle.std.specs.Io.KnownBytes.{Appends}
use Rattle.lift_base.specs.Output.{OutputTally}
use Rattle.lift_replay.specs.declared.input.InputFault.{InputFault}
use Rattle.lift_replay.specs.declared.input.InputFault.TheVariants.{Memory as NoRoom, Read as Unread}
use Rattle.lift_replay.specs.declared.script.ReplayFault.{ReplayFault}
use Rattle.lift_replay.specs.declared.script.ReplayFault.TheVariants.{Memory, Read, Write}

-- a script whose bytes were not read fails for the same cause
abbrev pub of_input : InputFault → ReplayFault
of_input (NoRoom no_memory) = Memory no_memory
of_input Unread = Read

-- this many calls of a writer, of which each took a byte at least
abbrev pub Took : {W : Type 0} → (W → List ℕ → Option ℕ → W → Type 0) → ℕ → W → W → Type 0
Took gives zero before after = after ≡ before
Took {W} gives (suc calls) before after =
    (between : W) × (given : List ℕ) × (count : ℕ) × Took gives calls before between
    × gives between given (Some count) after × (0 < count)

-- each call of the writer took a byte at least
abbrev pub TakesSomeEachCall : {W : Type 0} → (W → List ℕ → Option ℕ → W → Type 0) → W → W → Type 0
TakesSomeEachCall gives before after = (calls : ℕ) × Took gives calls before after

-- Each did but the last one: that failed, or took nothing of what it was given.
abbrev pub FailsAtLast : {W : Type 0} → (W → List ℕ → Option ℕ → W → Type 0) → W → W → Type 0
FailsAtLast {W} gives before after =
    (between : W) × (given : List ℕ) × TakesSomeEachCall gives before between × (0 < length given)
    × (gives between given None after ⊎ gives between given (Some 0) after)

-- How the writer was called, by the fault. The writer is the fault where a call failed or took
-- nothing, and that call was the last; where the reading failed there was none at all.
abbrev pub IsCalledTill : {W : Type 0} → (gives : W → List ℕ → Option ℕ → W → Type 0)
    → (before after : W) → ReplayFault → Type 0
IsCalledTill gives before after (Memory no_memory) = TakesSomeEachCall gives before after
IsCalledTill gives before after Read = after ≡ before
IsCalledTill gives before after Write = FailsAtLast gives before after

-- How it was called, by the end: with a report no call failed.
abbrev pub IsCalled : {W T : Type 0} → (gives : W → List ℕ → Option ℕ → W → Type 0)
    → (before after : W) → Result T ReplayFault → Type 0
IsCalled gives before after (Ok value) = TakesSomeEachCall gives before after
IsCalled gives before after (Err fault) = IsCalledTill gives before after fault

-- What a function does that adds to a piece of the report and may write it, whatever it comes to:
-- it reads nothing, calls the writer as its end says, and a writer that failed leaves no piece.
pub record WritesPieces {W T : Type 0} (gives : W → List ℕ → Option ℕ → W → Type 0)
    (before after : W) (piece : List ℕ) (result : Result T ReplayFault) : Type 0 where
  pub output : result ≢ Err Read
  pub calls : IsCalled gives before after result
  pub emptied : result ≡ Err Write → piece ≡ []

-- how many calls of the writer have failed, or taken nothing, after a run that ended so, by how many
-- had before it
abbrev pub failures_after : {T : Type 0} → Result T ReplayFault → ℕ → ℕ
failures_after (Ok value) before = before
failures_after (Err (Memory no_memory)) before = before
failures_after (Err Read) before = before
failures_after (Err Write) before = before + 1

-- the bytes that the calls of a writer took, which each of them tells
unfoldable pub gone_in : {W : Type 0} → (sent : W → OutputTally) → W → Option (List ℕ)
gone_in sent writer = Some (sent writer).gone

-- Bytes were taken by a writer, and these are what was added to it, where it tells what is in it.
abbrev pub GoesInto : {W : Type 0} → (W → OutputTally) → (W → Option (List ℕ)) → W → W → Type 0
GoesInto sent contents before after = (bytes : List ℕ)
    × Appends (gone_in sent before) (gone_in sent after) bytes
    × Appends (contents before) (contents after) bytes
