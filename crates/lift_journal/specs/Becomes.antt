-- What an append and a checkpoint make of a journal, for whoever rests on what it holds.
use Rattle.std.specs.Prelude.{◌≡◌, ◌⊎◌, ◌↔◌, ◌<◌, ◌+◌, ◌++◌, ℕ, Bool, false, not, List, [], ◌∷◌}
use Rattle.std.specs.Prelude.{Result, OnOk, OnErr, IfErr, IsErrOf}
use Rattle.lift_base.specs.declared.history.Record.{Record}
use Rattle.lift_disk.specs.Disk.{DiskState, LeavesOnly}
use Rattle.lift_journal.specs.declared.fault.JournalFault.{JournalFault}
use Rattle.lift_journal.specs.declared.fault.JournalFault.TheVariants.{Disk, Full, Broken}
use Rattle.lift_journal.specs.Layout.{Batch, HoldsIn, body_size, new_batch}
use Rattle.lift_journal.specs.Checkpoint.{batch_count, checkpoint_of, sectors_for}
use Rattle.lift_journal.specs.Journal.{JournalView, JournalHolds}

-- The batches that a journal holds become others, in this half.
pub record Becomes {D T : Type 0} (state : D
    → DiskState) (old : JournalView D) (is_in_second_half : Bool)
    (change : List Batch → List Batch) (new : JournalView D)
    (result : Result T JournalFault) : Type 0 where
  -- those from before
  pub batches : List Batch
  pub held : JournalHolds state old batches
  -- a crash at any moment of the call leaves just these in their half, or just the others in that
  -- one
  pub any_moment : LeavesOnly (state old.device) (state new.device)
      (λ left. HoldsIn old.shape old.is_in_second_half batches left
      ⊎ HoldsIn old.shape is_in_second_half (change batches) left)
  -- at Ok the journal holds the others
  pub done : OnOk result (JournalHolds state new (change batches))

-- over an honest device: the batches from before and one of these records, in the same half
abbrev pub AddsBatch : {D T : Type 0} → (D → DiskState) → JournalView D → List Record → JournalView D
    → Result T JournalFault → Type 0
AddsBatch state old records new result = (state old.device).is_honest
    → Becomes state old old.is_in_second_half (λ batches. batches ++ new_batch records ∷ []) new result

-- over an honest device: the checkpoint of these records alone, in the other half
abbrev pub PutsCheckpoint : {D T : Type 0} → (D → DiskState) → JournalView D → List Record
    → JournalView D → Result T JournalFault → Type 0
PutsCheckpoint state old records new result = (state old.device).is_honest
    → Becomes state old (not old.is_in_second_half) (λ _. checkpoint_of records) new result

-- The next batch goes into this half, after this many sectors, with this number; where the call
-- fails, it goes where it would have gone.
pub record MovesOnOk {D T : Type 0} (old : JournalView D) (is_in_second_half : Bool)
    (sectors next : ℕ)
    (new : JournalView D) (result : Result T JournalFault) : Type 0 where
  pub second : OnOk result (new.is_in_second_half ≡ is_in_second_half)
  pub used : OnOk result (new.used ≡ sectors)
  pub number : OnOk result (new.number ≡ next)
  pub kept : OnErr result ((new.is_in_second_half ≡ old.is_in_second_half) × (new.used ≡ old.used)
      × (new.number ≡ old.number))

-- after a batch of this many records
abbrev pub GoesAfterBatch : {D T : Type 0} → JournalView D → (count : ℕ) → JournalView D
    → Result T JournalFault → Type 0
GoesAfterBatch old count new result =
    MovesOnOk old old.is_in_second_half (old.used + body_size count + 1) (old.number + 1) new result

-- after a checkpoint of this many records, in the other half
abbrev pub GoesAfterCheckpoint : {D T : Type 0} → JournalView D → (count : ℕ) → JournalView D
    → Result T JournalFault → Type 0
GoesAfterCheckpoint old count new result =
    MovesOnOk old (not old.is_in_second_half) (sectors_for count) (batch_count count + 1) new result

-- A batch of this many records is Full just where it has no room and the journal isn't broken, and
-- then nothing is changed. Else it is refused for a call that failed, or while broken.
pub record RefusesForRoom {D T : Type 0} (old : JournalView D) (count : ℕ) (new : JournalView D)
    (result : Result T JournalFault) : Type 0 where
  pub full : IsErrOf result Full
      ↔ (old.is_broken ≡ false) × (old.shape.half < old.used + body_size count + 2)
  pub unchanged : IsErrOf result Full → new ≡ old
  pub causes : IfErr result (λ fault. (fault ≡ Disk) ⊎ (fault ≡ Full) ⊎ (fault ≡ Broken))
