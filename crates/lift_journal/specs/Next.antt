-- What reading the next batch of a journal gives, how it moves the cursor, and which calls of the
-- device it makes.
use Rattle.std.specs.Prelude.{◌≡◌, ◌≤◌, ◌+◌, ◌++◌, ℕ, false, List, length, Option, None}
use Rattle.std.specs.Prelude.{Result, Ok, OnErr, IfOk, IfSome, IsErrOf}
use Rattle.std.specs.Option.{option_map}
use Rattle.arrayvec.specs.ArrayVec.{ArrayVec}
use Rattle.lift_base.specs.declared.history.Record.{Record}
use Rattle.lift_disk.specs.Disk.{DiskState}
use Rattle.lift_journal.specs.declared.fault.JournalFault.{JournalFault}
use Rattle.lift_journal.specs.declared.fault.JournalFault.TheVariants.{Disk, Damaged}
use Rattle.lift_journal.specs.Layout.{Batch, body_size}
use Rattle.lift_journal.specs.Calls.{half_start, reads_from, HasRead, HasReadAt}
use Rattle.lift_journal.specs.Steps.{ReadsOnly}
use Rattle.lift_journal.specs.Armed.{AnswersAsArmed}
use Rattle.lift_journal.specs.Journal.{JournalView, CursorView, IsNext}

-- The next of these batches is given, or none at their end, and nothing is reported as damaged.
pub record GivesNext (batches : List Batch) (from to : CursorView)
    (result : Result (Option (ArrayVec Record)) JournalFault) : Type 0 where
  pub next : IfOk result (λ found. IsNext batches from to (option_map (λ l. l.items) found))
  pub undamaged : (sector : ℕ) → ¬ IsErrOf result (Damaged sector)

-- Whatever the device holds: the cursor goes after the batch that is given, and the journal stands
-- where it stood.
pub record MovesCursor {D : Type 0} (old : JournalView D) (from : CursorView) (new : JournalView D)
    (to : CursorView) (result : Result (Option (ArrayVec Record)) JournalFault) : Type 0 where
  pub given : IfOk result (λ found. IfSome found (λ records.
      (to.skipped ≡ from.skipped + (1 + body_size (length records.items)))
      × (to.given ≡ from.given + 1)))
  -- the end is answered after all used sectors alone, and without a call
  pub ends : result ≡ Ok None → (old.used ≤ from.skipped) × (new ≡ old) × (to ≡ from)
  -- and it always is there, so that nothing is read after the closing gate
  pub behind : old.is_broken ≡ false → old.used ≤ from.skipped → result ≡ Ok None
  pub refused : OnErr result (to ≡ from)
  pub stays : (new.is_in_second_half ≡ old.is_in_second_half) × (new.used ≡ old.used)
      × (new.number ≡ old.number)
  -- damage breaks nothing
  pub whole : (sector : ℕ) → IsErrOf result (Damaged sector) → new.is_broken ≡ false

-- It calls the device for its gate and its body in a row, and at the end for
-- nothing; where it is refused, as far as that came.
pub record NextCalls {D : Type 0} (state : D → DiskState) (old : JournalView D) (from : CursorView)
    (new : JournalView D) (result : Result (Option (ArrayVec Record)) JournalFault) : Type 0 where
  pub reads : ReadsOnly (state old.device) (state new.device)
  pub armed : AnswersAsArmed result (state old.device) (state new.device)
  pub all : IfOk result (λ found. IfSome found (λ records.
      (state new.device).trace ≡ (state old.device).trace
      ++ reads_from (half_start old.is_in_second_half old.shape.half + from.skipped)
      (1 + body_size (length records.items))))
  pub failed : IsErrOf result Disk
      → HasRead (half_start old.is_in_second_half old.shape.half + from.skipped) 2
      (half_start old.is_in_second_half old.shape.half + old.shape.half) (state old.device)
      (state new.device)
  -- damage is reported of the cursor's own gate, and no call has failed
  pub damaged : (sector : ℕ) → IsErrOf result (Damaged sector)
      → (sector ≡ half_start old.is_in_second_half old.shape.half + from.skipped)
      × ((state new.device).failures ≡ (state old.device).failures)
      × HasReadAt sector (half_start old.is_in_second_half old.shape.half + old.shape.half)
      (state old.device) (state new.device)
