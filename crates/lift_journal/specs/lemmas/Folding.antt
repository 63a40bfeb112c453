-- The batches of a checkpoint: all its records, and how many sectors they take.
use Rattle.std.proofs.Common.{◌≡◌, ◌≤◌, ◌+◌, ◌-◌, ◌*◌, ℕ, zero, suc, List, [], ◌∷◌, ◌++◌, length, take, drop, map, refl, sym, ◌∙◌, ap, arith, length-drop, length-append}
use Rattle.std.specs.List.{flat_map}
use Rattle.std.proofs.Math.Seq.{take-add}
use Rattle.std.proofs.lemmas.List.{take_all, drop-drop, length-take-le}
use Rattle.lift_base.specs.declared.history.Record.{Record}
use Rattle.lift_base.specs.declared.history.Record.TheVariants.{Row, Done}
use Rattle.lift_register.specs.Register.{RegisterState, rows_of, cars, terminals}
use Rattle.lift_register.specs.Base.{base_records, last_records}
use Rattle.lift_base.specs.declared.limits.TheConstants.{MOST_ENTRIES}
use Rattle.lift_record.specs.declared.version.Version.TheVariants.{Two}
use Rattle.lift_journal.specs.Layout.{Batch, records_of, body_size, used}
use Rattle.lift_journal.specs.Checkpoint.{in_batches, batch_count, checkpoint_of, sectors_for}
use Rattle.lift_journal.specs.lemmas.Chains.{used_more}

-- the batch at one place
abbrev pub batch_at : ℕ → List Record → Batch
batch_at place records = record { version = Two; records = take MOST_ENTRIES (drop (MOST_ENTRIES * place) records) }

pub batches_more : (count : ℕ) (records : List Record) → in_batches (suc count) records ≡ in_batches count records ++ batch_at count records ∷ []
batches_more zero records = refl
batches_more (suc count) records =
    let first : Batch = record { version = Two; records = take MOST_ENTRIES records } in
    let place : drop (MOST_ENTRIES * count) (drop MOST_ENTRIES records) ≡ drop (MOST_ENTRIES * suc count) records =
    drop-drop (MOST_ENTRIES * count) MOST_ENTRIES records ∙ ap (λ n. drop n records) (let sum : MOST_ENTRIES + MOST_ENTRIES * count ≡ MOST_ENTRIES * suc count = omega arith in sum) in
    ap (λ (l : List Batch). first ∷ l) (batches_more count (drop MOST_ENTRIES records))
    ∙ ap (λ (l : List Record). first ∷ in_batches count (drop MOST_ENTRIES records) ++ (record { version = Two; records = take MOST_ENTRIES l }) ∷ []) place

pub records_in : (count : ℕ) (records : List Record) → records_of (in_batches count records) ≡ take (MOST_ENTRIES * count) records
records_in zero records = refl
records_in (suc count) records =
    ap (λ (l : List Record). take MOST_ENTRIES records ++ l) (records_in count (drop MOST_ENTRIES records)) ∙ sym (take-add MOST_ENTRIES (MOST_ENTRIES * count) records)
    ∙ ap (λ n. take n records) (let sum : MOST_ENTRIES + MOST_ENTRIES * count ≡ MOST_ENTRIES * suc count = omega arith in sum)

pub length_batches : (count : ℕ) (records : List Record) → length (in_batches count records) ≡ count
length_batches zero records = refl
length_batches (suc count) records = ap suc (length_batches count (drop MOST_ENTRIES records))

-- full batches take three sectors each
used_full : (count : ℕ) (records : List Record) → MOST_ENTRIES * count ≤ length records → used (in_batches count records) ≡ 3 * count
used_full zero records full = omega arith
used_full (suc count) records full =
    let size : body_size (length (take MOST_ENTRIES records)) ≡ 2 = ap body_size (length-take-le MOST_ENTRIES records (omega arith)) in
    omega (arith, size, used_full count (drop MOST_ENTRIES records) (omega (arith, length-drop MOST_ENTRIES records)))

pub used_checkpoint : (records : List Record) → 1 ≤ length records → used (checkpoint_of records) ≡ sectors_for (length records)
used_checkpoint records some =
    let n = length records in
    let full = batch_count n - 1 in
    let count : batch_count n ≡ suc full = omega arith in
    let early : MOST_ENTRIES * full ≤ n = omega arith in
    let late : n ≤ MOST_ENTRIES * full + MOST_ENTRIES = omega arith in
    let rest : length (take MOST_ENTRIES (drop (MOST_ENTRIES * full) records)) ≡ n - MOST_ENTRIES * full =
    ap length (take_all MOST_ENTRIES (drop (MOST_ENTRIES * full) records) (omega (arith, length-drop (MOST_ENTRIES * full) records))) ∙ length-drop (MOST_ENTRIES * full) records in
    let last : body_size (length (take MOST_ENTRIES (drop (MOST_ENTRIES * full) records))) ≡ body_size (n - MOST_ENTRIES * full) = ap body_size rest in
    ap (λ k. used (in_batches k records)) count
    ∙ ap used (batches_more full records)
    ∙ (let sum : used (in_batches full records ++ batch_at full records ∷ []) ≡ 3 * full + 1 + body_size (n - MOST_ENTRIES * full) =
    omega (arith, used_more (in_batches full records) (batch_at full records), used_full full records early, last) in sum)

pub checkpoint_records : (records : List Record) → records_of (checkpoint_of records) ≡ records
checkpoint_records records =
    records_in (batch_count (length records)) records
    ∙ take_all (MOST_ENTRIES * batch_count (length records)) records (omega arith)

-- a register's checkpoint, which has a count of done calls at least
pub used_base : (register : RegisterState) → used (checkpoint_of (base_records register)) ≡ sectors_for (length (base_records register))
used_base register =
    let rows = map Row (flat_map (rows_of register) cars) in
    let lasts = flat_map (last_records register) terminals in
    used_checkpoint (base_records register) (omega (arith, length-append (rows ++ lasts) ((Done register.done) ∷ [])))
