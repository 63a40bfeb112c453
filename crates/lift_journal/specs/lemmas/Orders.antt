-- Records and versions in their order, batch by batch.
use Rattle.std.proofs.Common.{◌≡◌, ◌<◌, ◌≤◌, ℕ, zero, suc, List, [], ◌∷◌, ◌++◌, Option, Some, None}
use Rattle.std.proofs.Common.{length, take, get_or, All, refl, sym, ◌∙◌, ap, subst, arith}
use Rattle.std.proofs.Common.{append_assoc}
use Rattle.std.specs.List.{AllByRecursion}
use Rattle.std.proofs.lemmas.List.{append-nil}
use Rattle.std.proofs.lemmas.List.Elements.{recursion_from_All}
use Rattle.lift_base.specs.declared.history.Record.{Record}
use Rattle.lift_base.specs.declared.history.Record.TheVariants.{Entry, Row, Last, Done}
use Rattle.lift_record.specs.declared.version.Version.{Version}
use Rattle.lift_record.specs.declared.version.Version.TheVariants.{One, Two}
use Rattle.lift_record.specs.Version.{version_number}
use Rattle.lift_journal.specs.Order.{IsEntry, IsOfBase, MayFollow, IsInOrderAfter}
use Rattle.lift_journal.specs.Order.{last_record_after, MayEnd}
use Rattle.lift_journal.specs.Layout.{Batch, records_of, NeverFall, IsSound}
use Rattle.lift_journal.specs.Walk.{MayBeginChain, version_after}

pub order_front : (last : Option Record) (first second : List Record)
    → IsInOrderAfter last (first ++ second) → IsInOrderAfter last first
order_front last [] second order = tt
order_front last (next ∷ first) second order =
    (order.0, order_front (Some next) first second order.1)

pub order_back : (last : Option Record) (first second : List Record)
    → IsInOrderAfter last (first ++ second) → IsInOrderAfter (last_record_after last first) second
order_back last [] second order = order
order_back last (next ∷ first) second order = order_back (Some next) first second order.1

pub order_join : (last : Option Record) (first second : List Record) → IsInOrderAfter last first
    → IsInOrderAfter (last_record_after last first) second → IsInOrderAfter last (first ++ second)
order_join last [] second order behind = behind
order_join last (next ∷ first) second order behind =
    (order.0, order_join (Some next) first second order.1 behind)

pub last_join : (last : Option Record) (first second : List Record)
    → last_record_after last (first ++ second) ≡ last_record_after (last_record_after last first) second
last_join last [] second = refl
last_join last (next ∷ first) second = last_join (Some next) first second

-- the record at one place
pub order_at : (last : Option Record) (records : List Record) (k : ℕ) (blank : Record)
    → k < length records → IsInOrderAfter last records
    → MayFollow (last_record_after last (take k records)) (get_or records k blank)
order_at last [] k blank lt order = absurd (omega arith)
order_at last (next ∷ records) zero blank lt order = order.0
order_at last (next ∷ records) (suc k) blank lt order =
    order_at (Some next) records k blank (omega arith) order.1

pub order_more : (last : Option Record) (records : List Record) (k : ℕ) (blank : Record)
    → k < length records → IsInOrderAfter last (take k records)
    → MayFollow (last_record_after last (take k records)) (get_or records k blank)
    → IsInOrderAfter last (take (suc k) records)
order_more last [] k blank lt order may = absurd (omega arith)
order_more last (next ∷ records) zero blank lt order may = (may, tt)
order_more last (next ∷ records) (suc k) blank lt order may =
    (order.0, order_more (Some next) records k blank (omega arith) order.1 may)

pub last_more : (last : Option Record) (records : List Record) (k : ℕ) (blank : Record)
    → k < length records
    → last_record_after last (take (suc k) records) ≡ Some (get_or records k blank)
last_more last [] k blank lt = absurd (omega arith)
last_more last (next ∷ records) zero blank lt = refl
last_more last (next ∷ records) (suc k) blank lt =
    last_more (Some next) records k blank (omega arith)

pub records_push : (batches : List Batch) (batch : Batch)
    → records_of (batches ++ batch ∷ []) ≡ records_of batches ++ batch.records
records_push [] batch = append-nil batch.records
records_push (first ∷ batches) batch =
    ap (λ (l : List Record). first.records ++ l) (records_push batches batch) ∙ sym
    (append_assoc first.records (records_of batches) batch.records)

pub version_push : (version : Version) (batches : List Batch) (batch : Batch)
    → version_after version (batches ++ batch ∷ []) ≡ batch.version
version_push version [] batch = refl
version_push version (first ∷ batches) batch = version_push first.version batches batch

pub fall_push : (version : Version) (batches : List Batch) (batch : Batch)
    → NeverFall version batches
    → version_number (version_after version batches) ≤ version_number batch.version
    → NeverFall version (batches ++ batch ∷ [])
fall_push version [] batch never rises = (rises, tt)
fall_push version (first ∷ batches) batch never rises =
    (never.0, fall_push first.version batches batch never.1 rises)

pub fall_front : (version : Version) (batches more : List Batch)
    → NeverFall version (batches ++ more) → NeverFall version batches
fall_front version [] more never = tt
fall_front version (first ∷ batches) more never =
    (never.0, fall_front first.version batches more never.1)

pub fall_last : (version : Version) (batches : List Batch) (batch : Batch)
    → NeverFall version (batches ++ batch ∷ [])
    → version_number (version_after version batches) ≤ version_number batch.version
fall_last version [] batch never = never.0
fall_last version (first ∷ batches) batch never = fall_last first.version batches batch never.1

-- the second version is the highest
pub fall_to_second : (version : Version) (batches : List Batch)
    → version_number (version_after version batches) ≤ 2
fall_to_second One [] = omega arith
fall_to_second Two [] = omega arith
fall_to_second version (batch ∷ batches) = fall_to_second batch.version batches

-- where one more batch may stand
pub front_push : (batches : List Batch) (batch : Batch) → MayBeginChain batches
    → version_number (version_after One batches) ≤ version_number batch.version
    → IsInOrderAfter (last_record_after None (records_of batches)) batch.records
    → MayBeginChain (batches ++ batch ∷ [])
front_push batches batch sound rises order = record {
  versions = fall_push One batches batch sound.versions rises;
  ordered = subst (IsInOrderAfter None) (sym (records_push batches batch))
      (order_join None (records_of batches) batch.records sound.ordered order);
}

pub front_rises : (batches : List Batch) (batch : Batch) → MayBeginChain (batches ++ batch ∷ [])
    → version_number (version_after One batches) ≤ version_number batch.version
front_rises batches batch sound = fall_last One batches batch sound.versions

pub front_order : (batches : List Batch) (batch : Batch) → MayBeginChain (batches ++ batch ∷ [])
    → IsInOrderAfter (last_record_after None (records_of batches)) batch.records
front_order batches batch sound =
    order_back None (records_of batches) batch.records
    (subst (IsInOrderAfter None) (records_push batches batch) sound.ordered)

pub last_push : (batches : List Batch) (batch : Batch)
    → last_record_after None (records_of (batches ++ batch ∷ []))
    ≡ last_record_after (last_record_after None (records_of batches)) batch.records
last_push batches batch =
    ap (last_record_after None) (records_push batches batch) ∙ last_join None
    (records_of batches) batch.records

-- An entry may follow wherever a chain may end, and a chain may end after it.
entry_follows : (last : Option Record) (next : Record) → MayEnd last → IsEntry next
    → MayFollow last next
entry_follows None next may entry = tt
entry_follows (Some (Entry kept)) next may entry = entry
entry_follows (Some (Row row)) next may entry = absurd may
entry_follows (Some (Last terminal last)) next may entry = absurd may
entry_follows (Some (Done count)) next may entry = entry

entry_ends : (next : Record) → IsEntry next → MayEnd (Some next)
entry_ends (Entry kept) entry = tt
entry_ends (Row row) entry = absurd entry
entry_ends (Last terminal last) entry = absurd entry
entry_ends (Done count) entry = absurd entry

entries_follow : (last : Option Record) (entries : List Record) → MayEnd last
    → AllByRecursion IsEntry entries → IsInOrderAfter last entries
entries_follow last [] may each = tt
entries_follow last (next ∷ entries) may each = (
  entry_follows last next may each.0,
  entries_follow (Some next) entries
      (entry_ends next each.0) each.1,
)

entries_end : (last : Option Record) (entries : List Record) → MayEnd last
    → AllByRecursion IsEntry entries → MayEnd (last_record_after last entries)
entries_end last [] may each = may
entries_end last (next ∷ entries) may each =
    entries_end (Some next) entries (entry_ends next each.0) each.1

-- Entries of the second version may stand after any chain.
pub sound_push : (batches : List Batch) (entries : List Record) → IsSound batches
    → All IsEntry entries → IsSound (batches ++ (record { version = Two; records = entries }) ∷ [])
sound_push batches entries sound kinds =
    let batch : Batch = record { version = Two; records = entries } in
    let each = recursion_from_All IsEntry entries kinds in
    let last = last_record_after None (records_of batches) in
    record {
      versions = fall_push One batches batch sound.versions (fall_to_second One batches);
      ordered = subst (IsInOrderAfter None) (sym (records_push batches batch))
          (order_join None (records_of batches) entries sound.ordered
          (entries_follow last entries sound.complete each));
      complete = subst MayEnd (sym (last_push batches batch))
          (entries_end last entries sound.complete each);
    }

-- a checkpoint or none, and entries
pub record Parts (records : List Record) : Type 0 where
  pub base : List Record
  pub entries : List Record
  pub joined : records ≡ base ++ entries
  pub is_base : AllByRecursion IsOfBase base
  pub are_entries : AllByRecursion IsEntry entries

-- nothing but entries may stand after an entry or after the count of done calls
only_entries : (last : Record) (records : List Record) → MayEnd (Some last)
    → IsInOrderAfter (Some last) records → AllByRecursion IsEntry records
only_entries last [] may order = tt
only_entries last (next ∷ records) may order =
    let entry = follows last next may order.0 in
    (entry, only_entries next records (entry_ends next entry) order.1)
  where
    follows : (last next : Record) → MayEnd (Some last) → MayFollow (Some last) next → IsEntry next
    follows (Entry kept) next may order = order
    follows (Row row) next may order = absurd may
    follows (Last terminal last) next may order = absurd may
    follows (Done count) next may order = order

-- records in order are a checkpoint or none, and entries
pub order_parts : (last : Option Record) (records : List Record) → IsInOrderAfter last records
    → Parts records
order_parts last [] order =
    record { base = []; entries = []; joined = refl; is_base = tt; are_entries = tt }
order_parts last ((Entry entry) ∷ records) order = record {
  base = [];
  entries = (Entry entry) ∷ records;
  joined = refl;
  is_base = tt;
  are_entries = (tt, only_entries (Entry entry) records tt order.1);
}
order_parts last ((Row row) ∷ records) order =
    let rest = order_parts (Some (Row row)) records order.1 in
    record {
      base = (Row row) ∷ rest.base;
      entries = rest.entries;
      joined = ap (λ (l : List Record). (Row row) ∷ l) rest.joined;
      is_base = (tt, rest.is_base);
      are_entries = rest.are_entries;
    }
order_parts last ((Last terminal content) ∷ records) order =
    let rest = order_parts (Some (Last terminal content)) records order.1 in
    record {
      base = (Last terminal content) ∷ rest.base;
      entries = rest.entries;
      joined = ap (λ (l : List Record). (Last terminal content) ∷ l) rest.joined;
      is_base = (tt, rest.is_base);
      are_entries = rest.are_entries;
    }
order_parts last ((Done count) ∷ records) order = record {
  base = (Done count) ∷ [];
  entries = records;
  joined = refl;
  is_base = (tt, tt);
  are_entries = only_entries (Done count) records tt order.1;
}
