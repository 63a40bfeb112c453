-- What is known of a file whose calls are listed.
use Rattle.std.specs.Prelude.{◌≡◌, ◌↔◌, ◌+◌, ◌-◌, ◌*◌, ◌/◌, ◌++◌, ℕ, zero, suc, List, [], ◌∷◌, Result}
use Rattle.std.specs.Prelude.{Option, Some, true, min, replicate}
use Rattle.std.specs.Fs.{new_options, with_create, with_read, with_write}
use Rattle.std.specs.declared.fs.options.OpenOptions.{OpenOptions}
use Rattle.lift_disk.specs.Disk.{DiskState}
use Rattle.lift_disk.specs.Holding.{IsUntouched, sectors_in}
use Rattle.lift_disk.specs.FileCalls.{AreCalls, FileCall, IsOneCall, LeadsBy, MakesCalls}
use Rattle.lift_disk.specs.FileCalls.FileCall.{Lock, Restrict, SetLength, SyncAll, WriteSectors}
use Rattle.lift_disk.specs.declared.traced.TracedFile.{TracedFile}

-- the file itself
abbrev pub file_of : {F : Type 0} → TracedFile F → F
file_of f = f.file

-- how a file is opened that is only looked at
abbrev pub to_be_read : OpenOptions
to_be_read = with_read new_options true

-- how one that is there is opened: to be read and written, neither made nor emptied
abbrev pub to_be_used : OpenOptions
to_be_used = with_write to_be_read true

-- how one is made, or is opened to be made again: it isn't emptied yet
abbrev pub to_be_made : OpenOptions
to_be_made = with_create to_be_used true

-- one of the writes of a file of this many sectors of zeros: 128 sectors each, the last one the
-- rest
abbrev pub zero_write : (sectors i : ℕ) → FileCall
zero_write sectors i = WriteSectors (i * 128 * 512)
    (replicate (min 128 (sectors - i * 128)) (replicate 512 0))

-- the first this many of them
abbrev pub zero_writes : (sectors count : ℕ) → List FileCall
zero_writes sectors zero = []
zero_writes sectors (suc count) = zero_writes sectors count ++ zero_write sectors count ∷ []

-- The calls by which a file of this many sectors of zeros is made: nothing is done before the lock
-- is taken, nobody but its owner may have it before anything is written, and all of it is written, so
-- that it has its room, and made safe.
abbrev pub making_calls : (sectors : ℕ) → List FileCall
making_calls sectors =
    (Lock ∷ Restrict ∷ SetLength 0 ∷ SetLength (sectors * 512) ∷ [])
    ++ zero_writes sectors ((sectors + 127) / 128) ++ SyncAll ∷ []

-- A file that was opened so, made by these calls, and then named by its folder for good. It is as
-- honest as it was when it was opened, and has this many sectors.
pub record IsMadeOf {F : Type 0} (opens : Option F → Type 0) (names : F → Type 0)
    (gives : F → FileCall → F → Type 0) (holds : F → DiskState) (sectors : ℕ)
    (made : F) : Type 0 where
  pub file : F
  pub opened : opens (Some file)
  pub led : LeadsBy gives (making_calls sectors) file made
  pub named : names made
  pub honest : (holds made).is_honest ↔ (holds file).is_honest
  pub size : (holds file).is_honest → (holds made).size ≡ sectors_in (sectors * 512)

-- its calls by which it was made, before those of a device
abbrev pub making_of : {F : Type 0} → TracedFile F → List FileCall
making_of f = f.making.calls

-- its calls since that have succeeded
abbrev pub traced_calls : {F : Type 0} → TracedFile F → List FileCall
traced_calls f = f.calls.calls

-- how many of its calls since have failed
abbrev pub failures_of : {F : Type 0} → TracedFile F → ℕ
failures_of f = f.failures.count

-- One call of the file, after those that made it: listed if it succeeded, else counted.
pub record IsTraced {F T E : Type 0} (gives fails : F → FileCall → F → Type 0)
    (result : Result T E) (call : FileCall) (old new : TracedFile F) : Type 0 where
  pub one : IsOneCall gives fails result call (file_of old) (file_of new)
  pub made : MakesCalls result (call ∷ []) (traced_calls old) (traced_calls new) (failures_of old)
      (failures_of new)
  pub making : making_of new ≡ making_of old

-- Just these calls of the file, up to one that fails: listed if all succeeded, else counted once.
pub record AreTraced {F T E : Type 0} (gives fails : F → FileCall → F → Type 0)
    (result : Result T E) (calls : List FileCall) (old new : TracedFile F) : Type 0 where
  pub all : AreCalls gives fails result calls (file_of old) (file_of new)
  pub made : MakesCalls result calls (traced_calls old) (traced_calls new) (failures_of old)
      (failures_of new)
  pub making : making_of new ≡ making_of old

-- These calls of the file, by which it is made or opened, before those of a device.
pub record IsMaking {F : Type 0} (gives : F → FileCall → F → Type 0) (calls : List FileCall)
    (old new : TracedFile F) : Type 0 where
  pub led : LeadsBy gives calls (file_of old) (file_of new)
  pub listed : making_of new ≡ making_of old ++ calls
  pub uncalled : traced_calls new ≡ traced_calls old
  pub unfailed : failures_of new ≡ failures_of old

-- A file that was opened and then called just so, in this order, before it is a device: it told
-- this many bytes, and it is as honest and holds the same as when it was opened.
pub record IsOpenedBy {F : Type 0} (gives : F → FileCall → F → Type 0) (holds : F → DiskState)
    (calls : List FileCall) (file : F) (bytes : ℕ) (opened : TracedFile F) : Type 0 where
  pub led : LeadsBy gives calls file (file_of opened)
  pub listed : making_of opened ≡ calls
  pub uncalled : traced_calls opened ≡ []
  pub unfailed : failures_of opened ≡ 0
  pub untouched : IsUntouched (holds file) (holds (file_of opened))
  pub size : (holds file).is_honest → (holds file).size ≡ sectors_in bytes
