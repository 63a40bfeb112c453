-- What a writer holds: the register that is safe on its device.
use Rattle.std.specs.Prelude.{◌≡◌, ◌<◌, ◌≤◌, ◌+◌, ◌==◌, ◌++◌, ℕ, Bool, true, false, not}
use Rattle.std.specs.Prelude.{if◌then◌else◌, nat_le, List, [], length}
use Rattle.lift_base.specs.declared.history.Entry.{Entry}
use Rattle.lift_base.specs.declared.history.Record.{Record}
use Rattle.lift_base.specs.declared.history.Shape.{Shape}
use Rattle.lift_building.specs.Plan.{Plan, shape_of}
use Rattle.lift_disk.specs.Disk.{DiskState, LeavesNow}
use Rattle.lift_register.specs.Prelude.{RegisterState, register_of, BelongsTo, IsBalanced}
use Rattle.lift_register.specs.Prelude.{IsWellFormed}
use Rattle.lift_register.specs.Base.{base_records}
use Rattle.lift_journal.specs.Checkpoint.{sectors_for}
use Rattle.lift_journal.specs.Journal.{JournalView, StandsFor}
use Rattle.lift_journal.specs.Layout.{Batch, records_of, Holds, Picks, body_size, used}
use Rattle.lift_keeper.specs.Cuts.{FailsAtMark}
use Rattle.lift_keeper.specs.Images.{IsImageIn, IsInDoubt}
use Rattle.lift_keeper.specs.Recovery.{IsRegisterOf}

-- what a caller sees of a writer over a device
pub record WriterView (D : Type 0) : Type 0 where
  pub plan : Plan
  pub device : D
  -- the sectors of a half; the second half is picked; the sectors of the picked half before its
  -- closing gate
  pub half : ℕ
  pub is_in_second_half : Bool
  pub used : ℕ
  -- the register that is safe; of a broken writer, the one that was safe before the fault
  pub register : RegisterState
  -- the batch that the fault left in doubt; none of a writer that isn't broken
  pub doubt : List Entry
  -- how many calls of the device had failed when it was last opened
  pub failures_at_opening : ℕ
  -- a call of the device has failed, and no reopening has succeeded since
  pub is_broken : Bool

-- every crash now leaves the same batches in this half, and this is the register of their records
pub record HoldsRegister (plan : Plan) (shape : Shape) (is_in_second_half : Bool) (taken : ℕ)
    (register : RegisterState) (disk : DiskState) : Type 0 where
  pub of_building : shape ≡ shape_of plan shape.half
  pub batches : List Batch
  pub base : List Record
  pub entries : List Record
  pub holds : LeavesNow disk (Holds shape batches)
  pub stands : StandsFor shape base entries disk
  pub joined : records_of batches ≡ base ++ entries
  pub is : IsRegisterOf plan base entries register
  pub picks : LeavesNow disk (Picks is_in_second_half)
  pub counts : taken ≡ used batches

-- the register is possible in the building, and an honest device keeps it
pub record Guards (plan : Plan) (shape : Shape) (is_in_second_half : Bool) (taken : ℕ)
    (register : RegisterState) (disk : DiskState) : Type 0 where
  pub lawful : IsWellFormed register
  pub belongs : BelongsTo plan register
  pub balanced : IsBalanced register
  pub keeps : disk.is_honest → HoldsRegister plan shape is_in_second_half taken register disk

-- what is true of every writer
pub record IsWriter {D : Type 0} (plan : Plan) (journal : JournalView D) (register : RegisterState)
    (doubt : List Entry) (failures_at_opening : ℕ) (is_broken : Bool) (disk : DiskState)
    : Type 0 where
  pub lawful : IsWellFormed register
  pub belongs : BelongsTo plan register
  pub balanced : IsBalanced register
  pub counted : failures_at_opening ≤ disk.failures
  pub failed : is_broken ≡ true → failures_at_opening < disk.failures
  pub whole : is_broken ≡ false → journal.is_broken ≡ false
  pub no_doubt : is_broken ≡ false → doubt ≡ []
  pub keeps : is_broken ≡ false → disk.is_honest
      → HoldsRegister plan journal.shape journal.is_in_second_half journal.used register disk
  pub leaves : is_broken ≡ true → LeavesNow disk (IsInDoubt plan register doubt)

-- a batch of this many entries has room after this many used sectors of a half
abbrev pub has_room : (used half count : ℕ) → Bool
has_room used half count = nat_le (used + body_size count + 2) half

-- the sectors of the safe register's checkpoint
abbrev pub base_size : RegisterState → ℕ
base_size safe = sectors_for (length (base_records safe))

-- how many device calls the checkpoint takes that a batch without room needs, and how many of them
-- are writes
abbrev pub room_call_count : RegisterState → (used half count : ℕ) → ℕ
room_call_count safe used half count = if has_room used half count then 0 else base_size safe + 4

abbrev pub room_write_count : RegisterState → (used half count : ℕ) → ℕ
room_write_count safe used half count = if has_room used half count then 0 else base_size safe + 2

-- the sectors that are used once there is room, and the half that is picked then
abbrev pub room_used : RegisterState → (used half count : ℕ) → ℕ
room_used safe used half count = if has_room used half count then used else base_size safe

abbrev pub room_second : Bool → (used half count : ℕ) → Bool
room_second second used half count = if has_room used half count then second else not second

-- how many device calls a commit of this many entries makes, how many of them are writes, and the
-- sectors used after it
abbrev pub commit_call_count : RegisterState → (used half count : ℕ) → ℕ
commit_call_count safe used half count =
    if count == 0 then 0 else room_call_count safe used half count + (body_size count + 4)

abbrev pub commit_write_count : RegisterState → (used half count : ℕ) → ℕ
commit_write_count safe used half count =
    if count == 0 then 0 else room_write_count safe used half count + (body_size count + 2)

abbrev pub commit_used : RegisterState → (used half count : ℕ) → ℕ
commit_used safe used half count =
    if count == 0 then used else room_used safe used half count + (body_size count + 1)

abbrev pub commit_second : Bool → (used half count : ℕ) → Bool
commit_second second used half count =
    if count == 0 then second else room_second second used half count

-- A checkpoint has failed: the other half has the register alone then. Which half a fill leaves picked
-- goes by its byte, and it is the same register in both.
abbrev pub FailsInCheckpoint : Plan → ℕ → Bool → ℕ → RegisterState → DiskState → DiskState → Type 0
FailsInCheckpoint plan half second taken safe old new =
    FailsAtMark (IsImageIn plan half second taken safe)
    (IsImageIn plan half (not second) (base_size safe) safe) second (base_size safe + 2) old new

-- The appending of a batch has failed, this many calls after the beginning: a fill leaves the batch
-- just where its byte is the mark.
abbrev pub FailsInAppend : Plan → ℕ → Bool → ℕ → RegisterState → List Entry → ℕ → DiskState
    → DiskState → Type 0
FailsInAppend plan half second taken safe batch before old new =
    FailsAtMark (IsImageIn plan half second taken safe)
    (IsImageIn plan half second (taken + (body_size (length batch) + 1)) (register_of safe batch))
    false (before + (body_size (length batch) + 2)) old new

-- A commit has failed: within its checkpoint, if it needs one, or after it.
pub record IsFailedCommit (plan : Plan) (half : ℕ) (second : Bool) (taken : ℕ)
    (safe : RegisterState) (batch : List Entry) (old new : DiskState) : Type 0 where
  pub folding : new.calls ≤ old.calls + room_call_count safe taken half (length batch)
      → FailsInCheckpoint plan half second taken safe old new
  pub adding : old.calls + room_call_count safe taken half (length batch) < new.calls
      → FailsInAppend plan half (room_second second taken half (length batch))
      (room_used safe taken half (length batch)) safe batch
      (room_call_count safe taken half (length batch)) old new
