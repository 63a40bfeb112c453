-- What is read of a batch.
use Rattle.std.specs.Prelude.{◌≡◌, ◌+◌, ◌*◌, ◌-◌, ◌++◌, ◌<◌, ◌≤◌, ℕ, List}
use Rattle.std.specs.Prelude.{length, take, replicate, All}
use Rattle.std.specs.List.{flat_map}
use Rattle.lift_base.specs.declared.history.Record.{Record}
use Rattle.lift_base.specs.declared.limits.TheConstants.{MOST_ENTRIES}
use Rattle.lift_record.specs.declared.version.Version.{Version}
use Rattle.lift_record.specs.Record.{spelling_of}
use Rattle.lift_disk.specs.Disk.{Image}
use Rattle.lift_journal.specs.declared.batch.Stored.{Stored}
use Rattle.lift_journal.specs.declared.reads.AtGate.{AtGate}
use Rattle.lift_journal.specs.declared.reads.AtGate.TheVariants.{Closed, Batch as BatchAt, Damaged}
use Rattle.lift_journal.specs.Layout.{Batch, IsRecordIn, IsOpen, IsClosed, sector_at, body_size}
use Rattle.lift_journal.specs.Walk.{IsBatchAt}

-- the text begins with this many records
pub record IsRecordsIn (version : Version) (text : List ℕ) (count : ℕ)
    (records : List Record) : Type 0 where
  pub counted : length records ≡ count
  pub lawful : All (IsRecordIn version) records
  pub spelled : flat_map (spelling_of version) records ≡ take (16 * count) text

-- the records and zeros, as they stand after the header in two sectors
pub record IsTailOf (version : Version) (records : List Record) (tail : List ℕ) : Type 0 where
  pub lawful : All (IsRecordIn version) records
  pub spelled : tail ≡ flat_map (spelling_of version) records
      ++ replicate (1008 - 16 * length records) 0

-- zeros in place of a second body sector
abbrev pub zeros : List ℕ
zeros = replicate 512 0

-- a batch as it was read
abbrev pub batch_of : Stored → Batch
batch_of stored = record { version = stored.version; records = stored.records.items }

-- it is a batch by its size, and its next gate stands below the end
pub record FitsBelow (gate end : ℕ) (stored : Stored) : Type 0 where
  pub some : 1 ≤ length stored.records.items
  pub few : length stored.records.items ≤ MOST_ENTRIES
  pub below : gate + 1 + body_size (length stored.records.items) < end

-- this stands after an open gate, where a batch is one that was read
abbrev pub ShowsBody : Image → ℕ → ℕ → ℕ → AtGate → Stored → Type 0
ShowsBody image gate end number Closed stored = ⊥
ShowsBody image gate end number BatchAt stored = IsBatchAt image gate end number (batch_of stored)
ShowsBody image gate end number Damaged stored =
    (batch : Batch) → ¬ IsBatchAt image gate end number batch

-- this stands at a gate, where a batch is one that was read
abbrev pub ShowsAt : Image → ℕ → ℕ → ℕ → AtGate → Stored → Type 0
ShowsAt image gate end number Closed stored = IsClosed (sector_at image gate)
ShowsAt image gate end number BatchAt stored = IsOpen (sector_at image gate)
    × IsBatchAt image gate end number (batch_of stored)
ShowsAt image gate end number Damaged stored = IsOpen (sector_at image gate)
    × ((batch : Batch) → ¬ IsBatchAt image gate end number batch)
