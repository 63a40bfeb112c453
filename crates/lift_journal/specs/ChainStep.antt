-- One step along a chain.
use Rattle.std.specs.Prelude.{◌≤◌, ◌+◌}
use Rattle.lift_record.specs.Version.{version_number}
use Rattle.lift_journal.specs.declared.batch.Stored.{Stored}
use Rattle.lift_journal.specs.declared.fault.JournalFault.{JournalFault}
use Rattle.lift_journal.specs.declared.fault.JournalFault.TheVariants.{Disk, NotFormatted, Damaged}
use Rattle.lift_journal.specs.declared.fault.JournalFault.TheVariants.{Full}
use Rattle.lift_journal.specs.declared.walk.Front.{Front}
use Rattle.lift_journal.specs.Layout.{body_size}
use Rattle.lift_journal.specs.Order.{IsInOrderAfter, last_record_after}
use Rattle.std.specs.Prelude.{length}

-- the batch may stand after those before it
pub record Passes (front : Front) (stored : Stored) : Type 0 where
  pub rises : version_number front.version ≤ version_number stored.version
  pub ordered : IsInOrderAfter front.last stored.records.items

-- the front after it
abbrev pub passed : Front → Stored → Front
passed front stored = record {
  gate = front.gate + (1 + body_size (length stored.records.items));
  number = front.number + 1;
  version = stored.version;
  last = last_record_after front.last stored.records.items;
}

-- a fault that a walk along a chain may end with
abbrev pub IsOfChain : JournalFault → Type 0
IsOfChain Disk = Unit {0}
IsOfChain (Damaged sector) = Unit {0}
IsOfChain _ = ⊥

-- a fault that the reading of a stamp may end with
abbrev pub IsOfStamp : JournalFault → Type 0
IsOfStamp Disk = Unit {0}
IsOfStamp NotFormatted = Unit {0}
IsOfStamp _ = ⊥

-- a fault that the reading of one batch more may end with
abbrev pub IsOfCursor : JournalFault → Type 0
IsOfCursor NotFormatted = ⊥
IsOfCursor Full = ⊥
IsOfCursor _ = Unit {0}
