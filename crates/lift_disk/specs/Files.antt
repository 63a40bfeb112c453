-- What is said of a device on a real file.
use Rattle.std.specs.Prelude.{ℕ, ◌≡◌, ◌↔◌, ◌≤◌, ◌-◌, ◌*◌, List, [], ◌∷◌}
use Rattle.std.specs.Prelude.{◌++◌, slice_get, Option, Some, None, ◌⊎◌, Result, OnOk, OnErr, Bool, true}
use Rattle.std.specs.Prelude.{false}
use Rattle.lift_disk.specs.FileCalls.{FailsIn, FileCall, LeadsBy, sync_calls}
use Rattle.lift_disk.specs.FileCalls.FileCall.{ReadSectors, GetLength}
use Rattle.lift_disk.specs.Holding.{HoldsTheSame, IsUntouched, on_file, sectors_in}
use Rattle.lift_disk.specs.Traced.{making_calls, making_of, traced_calls, failures_of, file_of}
use Rattle.lift_disk.specs.Traced.{IsMadeOf}
use Rattle.lift_disk.specs.Disk.{DiskState}
use Rattle.lift_disk.specs.declared.file.FileFault.{FileFault}
use Rattle.lift_disk.specs.declared.file.FileFault.TheVariants.{Unclear, NotAFile, Unopened, Failed}
use Rattle.lift_disk.specs.declared.sectors.SectorFile.{SectorFile}
use Rattle.lift_disk.specs.declared.listed.ListedFile.{Ghosts as Listed}

-- Its sectors, its counts and its calls, a failed one of which is one of its file, over what its
-- file holds: it is as honest as that.
abbrev pub sector_file_state_of : {F : Type 0} {listing : Listed F} → (holds : F → DiskState)
    → SectorFile F listing → DiskState
sector_file_state_of holds d = on_file (holds (file_of d.file)) d.sectors (failures_of d.file)
    d.calls.count d.writes.count d.trace.calls

-- how many writes it has had
abbrev pub writes_of : {F : Type 0} {listing : Listed F} → SectorFile F listing → ℕ
writes_of d = d.writes.count

-- its file
abbrev pub file_below : {F : Type 0} {listing : Listed F} → SectorFile F listing → F
file_below d = file_of d.file

-- the calls of its file by which that was made, before those of the device
abbrev pub making_below : {F : Type 0} {listing : Listed F} → SectorFile F listing → List FileCall
making_below d = making_of d.file

-- the calls of its file that the device has made, but for those that failed
abbrev pub calls_below : {F : Type 0} {listing : Listed F} → SectorFile F listing → List FileCall
calls_below d = traced_calls d.file

-- One of these calls gave these bytes for the sector, by itself or among its neighbours.
pub record HasReadBytes (calls : List FileCall) (sector : ℕ) (bytes : List ℕ) : Type 0 where
  pub before : List FileCall
  pub first : ℕ
  pub run : List (List ℕ)
  pub after : List FileCall
  pub listed : calls ≡ before ++ ReadSectors (first * 512) run ∷ after
  pub behind : first ≤ sector
  pub here : slice_get run (sector - first) ≡ Some bytes

-- The device read these sectors from this one on: a call of its file, for just these, gave them.
abbrev pub AsksForRun : {T E : Type 0} → (old : List FileCall) → (sector : ℕ)
    → (run : List (List ℕ)) → Result T E → (new : List FileCall) → Type 0
AsksForRun old sector run result new =
    OnOk result (new ≡ old ++ ReadSectors (sector * 512) run ∷ [])

-- Whether it is known that no call of its file has failed since the last sync that dropped what was
-- cached. Of a file that was just opened it isn't.
abbrev pub is_known_steady : {F : Type 0} {listing : Listed F} → SectorFile F listing → Bool
is_known_steady d = d.is_steady

-- a call that failed leaves that unknown, and another one changes nothing of it
pub record KnownStays {F T E : Type 0} {listing : Listed F} (result : Result T E)
    (old new : SectorFile F listing) : Type 0 where
  pub ok : OnOk result (is_known_steady new ≡ is_known_steady old)
  pub err : OnErr result (is_known_steady new ≡ false)

-- A read of these sectors from this one on.
pub record ReadsByCall {F T E : Type 0} {listing : Listed F} (sector : ℕ) (run : List (List ℕ))
    (result : Result T E) (old new : SectorFile F listing) : Type 0 where
  pub asked : AsksForRun (calls_below old) sector run result (calls_below new)
  pub known : KnownStays result old new

-- A sync: after it that is known, if it succeeded. Then the calls of the file were one where it was
-- known before, and else the two by which what is cached is dropped.
pub record SyncsByCalls {F T E : Type 0} {listing : Listed F} (result : Result T E)
    (old new : SectorFile F listing) : Type 0 where
  pub made : OnOk result (calls_below new ≡ calls_below old ++ sync_calls (is_known_steady old))
  pub ok : OnOk result (is_known_steady new ≡ true)
  pub err : OnErr result (is_known_steady new ≡ false)

-- A device on a file that was there and was not made: it was opened, and after these calls asked for
-- its length, before the calls of the device, and the sectors are the whole ones of that length.
-- The device is honest exactly where that file was when it was opened, and then it holds what that
-- held.
pub record IsMeasured {F : Type 0} {listing : Listed F} (opens : Option F → Type 0)
    (gives : F → FileCall → F → Type 0) (holds : F → DiskState) (first : List FileCall)
    (d : SectorFile F listing) : Type 0 where
  pub file : F
  pub opened : opens (Some file)
  pub bytes : ℕ
  pub led : LeadsBy gives (first ++ GetLength bytes ∷ []) file (file_below d)
  pub asked : making_below d ≡ first ++ GetLength bytes ∷ []
  pub size : (sector_file_state_of holds d).size ≡ sectors_in bytes
  pub honest : (sector_file_state_of holds d).is_honest ↔ (holds file).is_honest
  pub held : (holds file).is_honest → HoldsTheSame (holds file) (sector_file_state_of holds d)
  pub unknown : is_known_steady d ≡ false

-- A device of this many sectors on a file that was made: the device is honest exactly where that
-- file was when it was opened.
pub record IsMadeDevice {F : Type 0} {listing : Listed F} (opens : Option F → Type 0)
    (names : F → Type 0) (gives : F → FileCall → F → Type 0) (holds : F → DiskState) (sectors : ℕ)
    (d : SectorFile F listing) : Type 0 where
  pub made : IsMadeOf opens names gives holds sectors (file_below d)
  pub honest : (sector_file_state_of holds d).is_honest ↔ (holds made.file).is_honest

-- How an opening fails that makes these calls and then asks for the length: one of them failed,
-- whatever length it would have answered, none was made after it, and the file holds what it held.
abbrev pub fails_opening : {F : Type 0} → (gives fails : F → FileCall → F → Type 0)
    → (holds : F → DiskState) → (first : List FileCall) → (opened left : F) → Type 0
fails_opening gives fails holds first opened left =
    ((bytes : ℕ) → FailsIn gives fails (first ++ GetLength bytes ∷ []) opened left)
    × IsUntouched (holds opened) (holds left)

-- How a making fails of a file of this many sectors of zeros: one of its calls failed, and none was
-- made after it; or all were made, and the folder couldn't be made safe.
abbrev pub fails_making : {F : Type 0} → (unnamed : F → Type 0)
    → (gives fails : F → FileCall → F → Type 0) → (sectors : ℕ) → (opened left : F) → Type 0
fails_making unnamed gives fails sectors opened left =
    FailsIn gives fails (making_calls sectors) opened left
    ⊎ (LeadsBy gives (making_calls sectors) opened left × unnamed left)

-- The system said that no plain file stands there. That it said nothing is no reason to make none.
abbrev pub stands_in_the_way : (stands : Option Bool → Type 0) → Option Bool → Type 0
stands_in_the_way stands told = stands told × (told ≡ Some false)

-- Why there is no device of what stands at a path. The system didn't say what stands there, or no
-- plain file does: then nothing was opened, and what was to open it comes back. Or the system
-- didn't open it; or a file was opened, and failed so.
abbrev pub IsRefused : {F O : Type 0} → (opener : O) → (stands : Option Bool → Type 0)
    → (opens : Option F → Type 0) → (fails : F → F → Type 0) → FileFault F O → Type 0
IsRefused opener stands opens fails (Unclear error back) = stands None × (back ≡ opener)
IsRefused opener stands opens fails (NotAFile back) = stands (Some false) × (back ≡ opener)
IsRefused opener stands opens fails (Unopened error) = opens None
IsRefused {F} opener stands opens fails (Failed failed) =
    (file : F) × opens (Some file) × fails file failed.file
