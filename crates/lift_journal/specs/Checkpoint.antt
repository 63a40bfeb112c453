-- The batches of a checkpoint.
use Rattle.std.specs.Prelude.{◌+◌, ◌-◌, ◌*◌, ◌/◌, ℕ, zero, suc, List, [], ◌∷◌, length, take, drop}
use Rattle.lift_base.specs.declared.history.Record.{Record}
use Rattle.lift_base.specs.declared.limits.TheConstants.{MOST_ENTRIES}
use Rattle.lift_record.specs.declared.version.Version.TheVariants.{Two}
use Rattle.lift_journal.specs.Layout.{Batch, body_size}

-- the first of these records, in this many whole batches; the last one may be shorter
abbrev pub in_batches : ℕ → List Record → List Batch
in_batches zero records = []
in_batches (suc count) records =
    record { version = Two; records = take MOST_ENTRIES records } ∷ in_batches count (drop MOST_ENTRIES records)

-- how many batches that takes
abbrev pub batch_count : ℕ → ℕ
batch_count records = (records + (MOST_ENTRIES - 1)) / MOST_ENTRIES

-- a checkpoint of these records
abbrev pub checkpoint_of : List Record → List Batch
checkpoint_of records = in_batches (batch_count (length records)) records

-- How many sectors a checkpoint of this many records takes before its closing gate: each batch has
-- a gate, and all but the last are full and take two sectors more.
abbrev pub sectors_for : ℕ → ℕ
sectors_for records =
    let full = batch_count records - 1 in 3 * full + 1 + body_size (records - MOST_ENTRIES * full)
