-- Which calls of the device an append and a checkpoint of a journal make, and what a cut leaves where
-- one of them fails.
use Rattle.std.specs.Prelude.{◌+◌, ℕ, List, length, not, Result, IsErrOf}
use Rattle.lift_base.specs.declared.history.Record.{Record}
use Rattle.lift_disk.specs.Disk.{DiskState, LeavesNow}
use Rattle.lift_journal.specs.declared.fault.JournalFault.{JournalFault}
use Rattle.lift_journal.specs.declared.fault.JournalFault.TheVariants.{Disk}
use Rattle.lift_journal.specs.Layout.{Batch, Holds, body_size, new_batch}
use Rattle.lift_journal.specs.Checkpoint.{checkpoint_of, sectors_for}
use Rattle.lift_journal.specs.Calls.{CallsDevice, half_start, append_calls, batch_body}
use Rattle.lift_journal.specs.Calls.{checkpoint_calls, pick_of}
use Rattle.lift_journal.specs.Failed.{IsFailedAppend, IsFailedCheckpoint}
use Rattle.lift_journal.specs.Journal.{JournalView}

-- the gate that is closed, and that the next batch opens
abbrev pub next_gate : {D : Type 0} → JournalView D → ℕ
next_gate journal = half_start journal.is_in_second_half journal.shape.half + journal.used

-- of an append of these records: the body and the next gate, a sync, the gate, a sync
abbrev pub AppendCalls : {D T : Type 0} → (D → DiskState) → JournalView D → List Record
    → JournalView D → Result T JournalFault → Type 0
AppendCalls state old records new result =
    CallsDevice result (append_calls (next_gate old) (batch_body old.number (new_batch records)))
    (body_size (length records) + 4) (body_size (length records) + 2) (state old.device)
    (state new.device)

-- Where a call failed it, of an honest and inert device, whose images hold these batches.
abbrev pub AppendStops : {D T : Type 0} → (D → DiskState) → JournalView D → List Record
    → JournalView D → Result T JournalFault → Type 0
AppendStops state old records new result =
    IsErrOf result Disk → (state old.device).is_honest → (state old.device).is_inert
    → (batches : List Batch) → LeavesNow (state old.device) (Holds old.shape batches)
    → IsFailedAppend old.shape batches (new_batch records) (body_size (length records))
    (state old.device) (state new.device)

-- Of a checkpoint of these records, in the half that isn't picked: each batch and its gate, a closed
-- gate, a sync, the pick, a sync.
abbrev pub CheckpointCalls : {D T : Type 0} → (D → DiskState) → JournalView D → List Record
    → JournalView D → Result T JournalFault → Type 0
CheckpointCalls state old records new result =
    CallsDevice result (checkpoint_calls (half_start (not old.is_in_second_half) old.shape.half)
    (pick_of (not old.is_in_second_half)) (checkpoint_of records)) (sectors_for (length records) + 4)
    (sectors_for (length records) + 2) (state old.device) (state new.device)

-- Where a call failed it, of such a device.
abbrev pub CheckpointStops : {D T : Type 0} → (D → DiskState) → JournalView D → List Record
    → JournalView D → Result T JournalFault → Type 0
CheckpointStops state old records new result =
    IsErrOf result Disk → (state old.device).is_honest → (state old.device).is_inert
    → (batches : List Batch) → LeavesNow (state old.device) (Holds old.shape batches)
    → IsFailedCheckpoint old.shape old.is_in_second_half batches (checkpoint_of records)
    (sectors_for (length records)) (state old.device) (state new.device)
