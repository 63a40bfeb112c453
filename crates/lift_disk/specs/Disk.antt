-- What a device holds, what its calls do to it, and what a crash may leave of it.
use Rattle.lift_disk.specs.Trace.{Access, Records}
use Rattle.lift_disk.specs.Trace.Access.{Read, Write, Sync}
use Rattle.std.specs.Prelude.{◌≡◌, ◌⊎◌, ◌↔◌, ◌<◌, ◌≤◌, ◌+◌, ℕ, Bool, true, List, length, replicate}
use Rattle.std.specs.Prelude.{slice_get, slice_set, Some, Result, OnOk, OnErr}

-- the sectors, each the list of its bytes
abbrev pub Image : Type 0
Image = List (List ℕ)

-- What is said of a device at one moment. All but its size and its counts rests on its honesty.
pub record DiskState : Type 1 where
  -- how many sectors it has
  pub size : ℕ
  -- how many of its calls have failed
  pub failures : ℕ
  -- how many calls it has had: reads, writes and syncs, failed ones too
  pub calls : ℕ
  -- how many of these were writes
  pub writes : ℕ
  -- those of its calls that have succeeded, in their order
  pub trace : List Access
  -- it does what the definitions below say
  pub is_honest : Type 0
  -- It fails only where it was armed to or is out of memory, and a failed call changes no byte
  -- of the image as read.
  pub is_inert : Type 0
  -- the image as read
  pub image : Image
  -- the image as it was read after the last successful sync
  pub synced : Image
  -- the sector was written, or a write of it failed, since the last successful sync
  pub is_loose : ℕ → Type 0
  -- no call has failed since the last successful sync
  pub is_steady : Type 0
  -- The sector was written with these bytes, and no call has failed since: they are read once a
  -- sync succeeds, if none fails before it.
  pub written : ℕ → List ℕ → Type 0
  -- a growth inside the device was refused, now or earlier
  pub is_short : Bool
  -- of the calls to come, counted as calls is, this one was armed to fail
  pub fails_at : ℕ → Type 0
  -- a number that doesn't fall
  pub moment : ℕ
  -- what a crash at some moment from that one on might have left
  pub left_since : ℕ → Image → Type 0

-- these sectors may have changed to anything at all, and no other did
pub record ChangesWithin (changed : ℕ → Type 0) (old new : Image) : Type 0 where
  pub size : length new ≡ length old
  pub others : (i : ℕ) → ¬ changed i → slice_get new i ≡ slice_get old i

-- a crash now may leave this image: any bytes at all in the loose sectors, the others as they are
abbrev pub MayLeave : DiskState → Image → Type 0
MayLeave disk left = ChangesWithin disk.is_loose disk.image left

-- the image has as many sectors as the device says
abbrev pub IsWhole : DiskState → Type 0
IsWhole disk = disk.is_honest → length disk.image ≡ disk.size

-- This moment is one of those since an earlier one.
abbrev pub CountsNow : DiskState → Type 0
CountsNow disk = disk.is_honest → (t : ℕ) (left : Image) → t ≤ disk.moment → MayLeave disk left
    → disk.left_since t left

-- Since this moment there is no other.
abbrev pub LeavesNoOther : DiskState → Type 0
LeavesNoOther disk = disk.is_honest → (left : Image) → disk.left_since disk.moment left
    → MayLeave disk left

-- A crash now may take back what the loose sectors hold: the others are as the last sync left them.
abbrev pub MayLose : DiskState → Type 0
MayLose disk = disk.is_honest → MayLeave disk disk.synced

-- this is the image with that byte all over the loose sectors
pub record IsFilled (byte : ℕ) (disk : DiskState) (left : Image) : Type 0 where
  pub size : length left ≡ length disk.image
  pub loose : (i : ℕ) → i < length disk.image → disk.is_loose i
      → slice_get left i ≡ Some (replicate 512 byte)
  pub others : (i : ℕ) → ¬ disk.is_loose i → slice_get left i ≡ slice_get disk.image i

-- Time goes on: a crash since t might have left what it might have left before, or what it may
-- leave now.
pub record Elapses (old new : DiskState) : Type 0 where
  pub later : old.moment ≤ new.moment
  pub nothing_else : (t : ℕ) (left : Image) → t ≤ old.moment → new.left_since t left
      → old.left_since t left ⊎ MayLeave new left
  pub keeps : (t : ℕ) (left : Image) → t ≤ old.moment → old.left_since t left
      → new.left_since t left

-- what every call keeps, whether it fails or not
pub record GoesOn (old new : DiskState) : Type 0 where
  pub size : new.size ≡ old.size
  pub calls : new.calls ≡ old.calls + 1
  pub failures : old.failures ≤ new.failures
  pub honest : new.is_honest ↔ old.is_honest
  pub inert : new.is_inert ↔ old.is_inert
  -- which later calls are armed to fail stays so
  pub armed : (call : ℕ) → new.calls < call → new.fails_at call ↔ old.fails_at call
  pub time : old.is_honest → Elapses old new

-- after a run of calls: it is the same device, armed alike, and no count has fallen
pub record RunsOn (old new : DiskState) : Type 0 where
  pub size : new.size ≡ old.size
  pub calls : old.calls ≤ new.calls
  pub failures : old.failures ≤ new.failures
  pub honest : new.is_honest ↔ old.is_honest
  pub inert : new.is_inert ↔ old.is_inert
  pub armed : (call : ℕ) → new.calls < call → new.fails_at call ↔ old.fails_at call

-- a fault is answered exactly where the count rose
pub record HasCause {T E : Type 0} (result : Result T E) (old new : DiskState) : Type 0 where
  pub ok : OnOk result (new.failures ≡ old.failures)
  pub err : OnErr result (old.failures < new.failures)

-- An inert device fails this call exactly where it was armed to. It takes no memory.
pub record FailsAsArmed {T E : Type 0} (result : Result T E) (old new : DiskState) : Type 0 where
  pub ok : OnOk result (old.is_inert → ¬ old.fails_at (old.calls + 1))
  pub err : OnErr result (old.is_inert → old.fails_at (old.calls + 1))
  pub short : new.is_short ≡ old.is_short

-- An inert device fails this call exactly where it was armed to, or where a growth was refused in
-- it: then it is short from now on.
pub record FailsAsArmedOrShort {T E : Type 0} (result : Result T E)
    (old new : DiskState) : Type 0 where
  pub ok : OnOk result (old.is_inert → ¬ old.fails_at (old.calls + 1))
  pub same : OnOk result (new.is_short ≡ old.is_short)
  pub err : OnErr result (old.is_inert
      → old.fails_at (old.calls + 1) × (new.is_short ≡ old.is_short)
      ⊎ ¬ old.fails_at (old.calls + 1) × (new.is_short ≡ true))
  pub short : old.is_short ≡ true → new.is_short ≡ true

-- what an inert device fails such a call for: a read takes no memory
abbrev pub FailsFor : {T E : Type 0} → Access → Result T E → DiskState → DiskState → Type 0
FailsFor (Read sector) result old new = FailsAsArmed result old new
FailsFor (Write sector bytes) result old new = FailsAsArmedOrShort result old new
FailsFor Sync result old new = FailsAsArmedOrShort result old new

-- how many writes such a call is
abbrev pub writes_in : Access → ℕ
writes_in (Read sector) = 0
writes_in (Write sector bytes) = 1
writes_in Sync = 0

-- One failure more if it failed, else none.
pub record CountsFault {T E : Type 0} (result : Result T E) (old new : DiskState) : Type 0 where
  pub ok : OnOk result (new.failures ≡ old.failures)
  pub err : OnErr result (new.failures ≡ old.failures + 1)

-- One call of a device, by its counts, its faults and the list of its calls.
pub record IsAccess {T E : Type 0} (result : Result T E) (call : Access)
    (old new : DiskState) : Type 0 where
  pub goes_on : GoesOn old new
  pub fault : CountsFault result old new
  pub armed : FailsFor call result old new
  pub writes : new.writes ≡ old.writes + writes_in call
  pub recorded : Records result call old.trace new.trace

-- One sector more is loose, and nothing but loose sectors has changed.
pub record Touches (sector : ℕ) (old new : DiskState) : Type 0 where
  pub loose : (i : ℕ) → new.is_loose i ↔ (old.is_loose i ⊎ (i ≡ sector))
  pub within : ChangesWithin new.is_loose old.image new.image

-- No sector more is loose, and nothing but loose sectors has changed.
pub record TouchesNothing (old new : DiskState) : Type 0 where
  pub loose : (i : ℕ) → new.is_loose i → old.is_loose i
  pub within : ChangesWithin old.is_loose old.image new.image

-- a loose sector stays so
abbrev pub StaysLoose : DiskState → DiskState → Type 0
StaysLoose old new = (i : ℕ) → old.is_loose i → new.is_loose i

-- what was written and has stood since still does
abbrev pub StaysWritten : DiskState → DiskState → Type 0
StaysWritten old new = old.is_honest → (i : ℕ) (bytes : List ℕ) → old.written i bytes
    → new.written i bytes

-- these bytes are written in the sector, and what was written in others still stands
pub record SectorIsWritten (sector : ℕ) (bytes : List ℕ) (old new : DiskState) : Type 0 where
  pub here : new.written sector bytes
  pub others : (i : ℕ) (other : List ℕ) → ¬ (i ≡ sector) → old.written i other → new.written i other

-- what was written is read
abbrev pub ReadsAsWritten : DiskState → DiskState → Type 0
ReadsAsWritten old new = (i : ℕ) (bytes : List ℕ) → old.written i bytes
    → slice_get new.image i ≡ Some bytes

-- the image of the last sync is the same
abbrev pub SyncedStays : DiskState → DiskState → Type 0
SyncedStays old new = old.is_honest → new.synced ≡ old.synced

-- an inert device reads as before
abbrev pub ReadsAsBefore : DiskState → DiskState → Type 0
ReadsAsBefore old new = old.is_honest → old.is_inert → new.image ≡ old.image

-- an inert device reads as before, with these bytes in the sector
abbrev pub SetsSector : ℕ → List ℕ → DiskState → DiskState → Type 0
SetsSector sector bytes old new = old.is_honest → old.is_inert
    → new.image ≡ slice_set old.image sector bytes

-- this is read, and it stays so until a call fails
pub record IsSteadyAt (image : Image) (disk : DiskState) : Type 0 where
  pub steady : disk.is_steady
  pub same : disk.image ≡ image

-- after a sync a crash leaves what is read
pub record IsSynced (disk : DiskState) : Type 0 where
  pub steady : disk.is_steady
  pub none_loose : (i : ℕ) → ¬ disk.is_loose i

-- A crash leaves what it would have left before: no sector more or less is loose, nothing but
-- loose sectors has changed, and the image of the last sync is the same.
pub record LeavesAsBefore (old new : DiskState) : Type 0 where
  pub touched : old.is_honest → TouchesNothing old new
  pub loose : old.is_honest → StaysLoose old new
  pub kept : SyncedStays old new

-- What was written and has stood since still does, and where no call has failed the same is read.
pub record WritesStay (old new : DiskState) : Type 0 where
  pub written : StaysWritten old new
  pub steady : old.is_honest → old.is_steady → IsSteadyAt old.image new

-- These bytes are written in the sector: they are read at once where no call has failed, and once a
-- sync succeeds if none fails before it.
pub record StoresSector (sector : ℕ) (bytes : List ℕ) (old new : DiskState) : Type 0 where
  pub written : old.is_honest → SectorIsWritten sector bytes old new
  pub steady : old.is_honest → old.is_steady → IsSteadyAt (slice_set old.image sector bytes) new
  pub image : SetsSector sector bytes old new

-- What was written is read, and from now on a crash leaves what is read.
pub record SavesAll (old new : DiskState) : Type 0 where
  pub as_written : ReadsAsWritten old new
  pub touched : TouchesNothing old new
  pub synced : IsSynced new
  pub steady : old.is_steady → IsSteadyAt old.image new
  pub saved : new.synced ≡ new.image

-- nothing that is said of the device has changed, but for what it was armed to
pub record IsUnchanged (old new : DiskState) : Type 0 where
  pub size : new.size ≡ old.size
  pub failures : new.failures ≡ old.failures
  pub calls : new.calls ≡ old.calls
  pub writes : new.writes ≡ old.writes
  pub trace : new.trace ≡ old.trace
  pub honest : new.is_honest ↔ old.is_honest
  pub inert : new.is_inert ↔ old.is_inert
  pub short : new.is_short ≡ old.is_short
  pub image : new.image ≡ old.image
  pub synced : new.synced ≡ old.synced
  pub loose : (i : ℕ) → new.is_loose i ↔ old.is_loose i
  pub steady : new.is_steady ↔ old.is_steady
  pub written : (i : ℕ) (bytes : List ℕ) → new.written i bytes ↔ old.written i bytes
  pub moment : new.moment ≡ old.moment
  pub left_since : (t : ℕ) (left : Image) → new.left_since t left ↔ old.left_since t left

-- no call to come was armed to fail
abbrev pub IsUnarmed : DiskState → Type 0
IsUnarmed disk = (call : ℕ) → disk.calls < call → ¬ disk.fails_at call

-- of the calls to come just these were armed to fail
abbrev pub IsArmedWith : (ℕ → Type 0) → DiskState → Type 0
IsArmedWith fails disk = (call : ℕ) → disk.calls < call → disk.fails_at call ↔ fails call

-- Every image that a crash at some moment from old to new may leave has P, if the device is honest.
pub record LeavesOnly (old new : DiskState) (P : Image → Type 0) : Type 0 where
  pub honest : new.is_honest ↔ old.is_honest
  pub later : old.is_honest → old.moment ≤ new.moment
  pub each : old.is_honest → (left : Image) → new.left_since old.moment left → P left
  -- for a run that began earlier
  pub before : old.is_honest → (t : ℕ) (left : Image) → t ≤ old.moment → new.left_since t left
      → old.left_since t left ⊎ P left

-- every image that a crash now may leave has P, if the device is honest
abbrev pub LeavesNow : DiskState → (Image → Type 0) → Type 0
LeavesNow disk P = disk.is_honest → (left : Image) → MayLeave disk left → P left

-- no sector but these is loose
abbrev pub LooseWithin : (ℕ → Type 0) → DiskState → Type 0
LooseWithin changed disk = disk.is_honest → (i : ℕ) → disk.is_loose i → changed i

-- From old to new no sector but these was touched, so a crash at any moment leaves the others as
-- they were.
pub record TouchesOnly (changed : ℕ → Type 0) (old new : DiskState) : Type 0 where
  pub size : new.size ≡ old.size
  pub moments : LeavesOnly old new (ChangesWithin changed old.image)
  pub loose : LooseWithin changed new
  pub within : old.is_honest → ChangesWithin changed old.image new.image
