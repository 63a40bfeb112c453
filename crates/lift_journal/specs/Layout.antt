-- Which batches an image holds. This looks at one image at rest.
use Rattle.std.specs.Prelude.{◌≡◌, ◌<◌, ◌≤◌, ◌+◌, ◌-◌, ◌*◌, ℕ, suc, Bool, true, false}
use Rattle.std.specs.Prelude.{if◌then◌else◌, ◌==◌, nat_lt, List, [], ◌∷◌, ◌++◌, length, take, drop}
use Rattle.std.specs.Prelude.{replicate, slice_get, unwrap_or, All, codes, None}
use Rattle.std.specs.Int.{w32, to_be_bytes}
use Rattle.std.specs.List.{concat, flat_map}
use Rattle.lift_base.specs.declared.history.Record.{Record}
use Rattle.lift_base.specs.declared.history.Shape.{Shape}
use Rattle.lift_base.specs.History.{IsWithinLimits}
use Rattle.lift_base.specs.Records.{IsRecord}
use Rattle.lift_disk.specs.Disk.{Image}
use Rattle.lift_base.specs.declared.limits.TheConstants.{MOST_ENTRIES}
use Rattle.lift_record.specs.declared.version.Version.{Version}
use Rattle.lift_record.specs.declared.version.Version.TheVariants.{One, Two}
use Rattle.lift_record.specs.Version.{version_number}
use Rattle.lift_record.specs.Record.{IsSayable, spelling_of}
use Rattle.lift_record.specs.Header.{header_bytes}
use Rattle.lift_journal.specs.Order.{IsInOrderAfter, MayEnd, last_record_after}

-- the records that were written at once, and the version of their spelling
pub record Batch : Type 0 where
  pub version : Version
  pub records : List Record

-- a batch that is written now: of the second version
abbrev pub new_batch : List Record → Batch
new_batch records = record { version = Two; records = records }

-- all records of these batches
abbrev pub records_of : List Batch → List Record
records_of batches = flat_map (λ batch. batch.records) batches

abbrev pub sector_at : Image → ℕ → List ℕ
sector_at image i = unwrap_or (slice_get image i) []

-- The mark is A5 as the first byte; the rest of the sector is ignored.
abbrev pub is_marked : List ℕ → Bool
is_marked [] = false
is_marked (byte ∷ bytes) = byte == 165

abbrev pub IsOpen : List ℕ → Type 0
IsOpen gate = is_marked gate ≡ true

abbrev pub IsClosed : List ℕ → Type 0
IsClosed gate = is_marked gate ≡ false

-- how many sectors this many records take beside their gate
abbrev pub body_size : ℕ → ℕ
body_size count = if nat_lt count 32 then 1 else 2

abbrev pub size_of : Batch → ℕ
size_of batch = body_size (length batch.records)

-- the bytes with zeros to the end of this many sectors
abbrev pub filled : ℕ → List ℕ → List ℕ
filled sectors bytes = bytes ++ replicate (512 * sectors - length bytes) 0

-- a record that the journal may hold, and that the version can say
pub record IsRecordIn (version : Version) (content : Record) : Type 0 where
  pub is_record : IsRecord content
  pub sayable : IsSayable version content

-- the header of a batch with this number, and its records
abbrev pub batch_bytes : ℕ → Batch → List ℕ
batch_bytes number batch =
    header_bytes batch.version (length batch.records) number
    ++ flat_map (spelling_of batch.version) batch.records

-- these sectors hold the batch: the header, the records and zeros
pub record IsBody (number : ℕ) (batch : Batch) (sectors : Image) : Type 0 where
  pub some : 1 ≤ length batch.records
  pub few : length batch.records ≤ MOST_ENTRIES
  pub lawful : All (IsRecordIn batch.version) batch.records
  pub spelled : concat sectors ≡ filled (size_of batch) (batch_bytes number batch)

-- From their first sector on these hold the batches, the first of them with this number: each batch
-- after an open gate, and a closed gate at the end.
abbrev pub IsChain : List Batch → ℕ → Image → Type 0
IsChain _ number [] = ⊥
IsChain [] number (gate ∷ rest) = IsClosed gate
IsChain (batch ∷ batches) number (gate ∷ rest) =
    IsOpen gate × IsBody number batch (take (size_of batch) rest)
    × IsChain batches (number + 1) (drop (size_of batch) rest)

-- From this version on versions never fall.
abbrev pub NeverFall : Version → List Batch → Type 0
NeverFall least [] = Unit {0}
NeverFall least (batch ∷ batches) =
    (version_number least ≤ version_number batch.version) × NeverFall batch.version batches

-- how many sectors stand before the closed gate
abbrev pub used : List Batch → ℕ
used [] = 0
used (batch ∷ batches) = suc (size_of batch + used batches)

-- this half is picked: the mark in sector 0 picks the second one, and any other byte the first
abbrev pub Picks : Bool → Image → Type 0
Picks is_in_second_half image = is_marked (sector_at image 0) ≡ is_in_second_half

-- the first sector of the half that is picked
abbrev pub start_of : ℕ → Image → ℕ
start_of half image = if is_marked (sector_at image 0) then half + 2 else 2

-- the name of the format, the numbers of floors, cars and kiosks, and the sectors of a half
abbrev pub stamp_bytes : Shape → List ℕ
stamp_bytes shape =
    codes "LIFTJRNL" ++ shape.floors ∷ shape.cars ∷ shape.kiosks ∷ 0 ∷ to_be_bytes w32 shape.half

-- a formatted image of this shape
pub record IsStamped (shape : Shape) (image : Image) : Type 0 where
  pub within : IsWithinLimits shape
  pub size : 2 * shape.half + 2 ≤ length image
  pub stamp : sector_at image 1 ≡ filled 1 (stamp_bytes shape)

-- batches that may stand in one chain: versions never fall, and the records are a checkpoint or
-- none, and then entries
pub record IsSound (batches : List Batch) : Type 0 where
  pub versions : NeverFall One batches
  pub ordered : IsInOrderAfter None (records_of batches)
  pub complete : MayEnd (last_record_after None (records_of batches))

-- the image holds these batches
pub record Holds (shape : Shape) (batches : List Batch) (image : Image) : Type 0 where
  pub stamped : IsStamped shape image
  pub chain : IsChain batches 1 (take shape.half (drop (start_of shape.half image) image))
  pub sound : IsSound batches

-- the image holds these batches, in this half
pub record HoldsIn (shape : Shape) (is_in_second_half : Bool) (batches : List Batch)
    (image : Image) : Type 0 where
  pub holds : Holds shape batches image
  pub picks : Picks is_in_second_half image

-- after this gate
abbrev pub IsAfter : ℕ → ℕ → Type 0
IsAfter gate i = gate < i

-- After the closed gate at the end stands one batch more, and a closed gate after it.
pub record IsPrepared (shape : Shape) (batches : List Batch) (batch : Batch) (gate : ℕ)
    (image : Image) : Type 0 where
  pub holds : Holds shape batches image
  pub at : gate ≡ start_of shape.half image + used batches
  pub room : used batches + size_of batch + 2 ≤ shape.half
  pub body : IsBody (1 + length batches) batch (take (size_of batch) (drop (gate + 1) image))
  pub closed : IsClosed (sector_at image (gate + 1 + size_of batch))
  pub sound : IsSound (batches ++ batch ∷ [])
