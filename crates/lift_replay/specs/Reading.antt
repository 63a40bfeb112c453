-- How far a script was read.
use Rattle.std.specs.Prelude.{ℕ, zero, suc, ◌≡◌, ◌⊎◌, ◌+◌, ◌≤◌, ◌<◌, true, false, Option, None}
use Rattle.std.specs.Prelude.{List, [], ◌++◌, length, IfSome}
use Rattle.std.specs.Io.KnownBytes.{Consumes, IsAtEnd}
use Rattle.lift_base.specs.Input.{InputState}
use Rattle.lift_replay.specs.Writing.{TakesSomeEachCall}

-- a script has this many bytes at most
abbrev pub most_bytes : ℕ
most_bytes = 1048576

-- and is read in so many calls at most
abbrev pub most_calls : ℕ
most_calls = 2097152

-- Its end was found, and the reader has nothing left; or one byte more than a script may have was
-- taken.
abbrev pub IsInputRead : {R : Type 0} → (R → Option (List ℕ)) → (old new : InputState R) → Type 0
IsInputRead remaining old new = ((new.ended ≡ true) × IsAtEnd (remaining new.reader))
    ⊎ ((bytes : List ℕ) × (length bytes ≡ most_bytes + 1)
    × Consumes (remaining old.reader) (remaining new.reader) bytes)

-- no more than this many bytes were taken from the reader
abbrev pub TakesUpTo : {R : Type 0} → ℕ → (R → Option (List ℕ)) → (old new : R) → Type 0
TakesUpTo most remaining old new = (bytes : List ℕ) × (length bytes ≤ most)
    × Consumes (remaining old) (remaining new) bytes

-- one call of the reader, which gave these bytes
abbrev pub ReaderGives : {R : Type 0} → (R → Option (List ℕ)) → List ℕ → (old new : InputState R)
    → Type 0
ReaderGives remaining bytes old new = (new.calls ≡ old.calls + 1)
    × Consumes (remaining old.reader) (remaining new.reader) bytes

-- This many calls of the reader gave these bytes, one after the other, and each gave one at least.
abbrev pub GiveEach : {R : Type 0} → (R → Option (List ℕ)) → (calls : ℕ) → List ℕ
    → (old new : InputState R) → Type 0
GiveEach remaining zero bytes old new = (bytes ≡ []) × (new ≡ old)
GiveEach {R} remaining (suc calls) bytes old new =
    (between : InputState R) × (earlier : List ℕ) × (more : List ℕ)
    × GiveEach remaining calls earlier old between × ReaderGives remaining more between new
    × (0 < length more) × (bytes ≡ earlier ++ more)

-- a call that gave these bytes gave one at least, found the end or failed
abbrev pub IsOfUse : {R : Type 0} → List ℕ → InputState R → Type 0
IsOfUse bytes new = (0 < length bytes) ⊎ ((new.ended ≡ true) ⊎ (new.failed ≡ true))

-- One call more, after these bytes: it gave some, up to one byte more than there may be, or found
-- the end, or failed.
abbrev pub IsLastCall : {R : Type 0} → ℕ → (R → Option (List ℕ)) → List ℕ → (old new : InputState R)
    → Type 0
IsLastCall most remaining bytes old new = (more : List ℕ) × ReaderGives remaining more old new
    × IsOfUse more new × (length bytes + length more ≤ most + 1)

-- Each call of the reader but the last gave a byte at least, and all of these no more than there
-- may be. So none was made after the end, after a failed one, or once a byte too many had come.
abbrev pub TakesByEach : {R : Type 0} → ℕ → (R → Option (List ℕ)) → (old new : InputState R)
    → Type 0
TakesByEach {R} most remaining old new =
    (calls : ℕ) × (bytes : List ℕ) × (last : InputState R) × GiveEach remaining calls bytes old last
    × (length bytes ≤ most)
    × ((new ≡ last) ⊎ IsLastCall most remaining bytes last new)

-- These bytes came of a reader, in a call or more of which none failed: all that it gives, or one
-- byte more than there may be.
pub record GivesInput {R : Type 0} (most : ℕ) (remaining : R → Option (List ℕ))
    (old new : InputState R) (bytes : List ℕ) : Type 0 where
  pub front : Consumes (remaining old.reader) (remaining new.reader) bytes
  pub few : length bytes ≤ most + 1
  pub whole : length bytes ≤ most → IfSome (remaining old.reader) (λ all. bytes ≡ all)
  pub ended : length bytes ≤ most → (new.ended ≡ true) × IsAtEnd (remaining new.reader)
  pub unfailed : new.failed ≡ false

-- A reader was read as far as it is looked at: to one byte more than there may be, in so many calls
-- at most.
pub record ReadsUpTo {R : Type 0} (most calls : ℕ) (remaining : R → Option (List ℕ))
    (old new : InputState R) : Type 0 where
  pub taken : TakesUpTo (most + 1) remaining old.reader new.reader
  pub each_call : TakesByEach most remaining old new
  pub few_calls : new.calls ≤ calls

-- A reader couldn't be read: a call failed, or all were used and the end was not found. No byte
-- too many had come.
pub record LeavesUnread {R : Type 0} (most calls : ℕ) (remaining : R → Option (List ℕ))
    (old new : InputState R) : Type 0 where
  pub cause : (new.failed ≡ true) ⊎ ((new.calls ≡ calls) × (new.ended ≡ false))
  pub taken : TakesUpTo most remaining old.reader new.reader

-- The reader is called as a writer is, but gives: each of its calls gave a byte at least, but the last
-- one, which failed.
abbrev pub ReaderFails : {R : Type 0} → (gives : R → List ℕ → Option ℕ → R → Type 0)
    → (old new : R) → Type 0
ReaderFails {R} gives old new =
    (last : R) × (buffer : List ℕ) × TakesSomeEachCall gives old last × gives last buffer None new
