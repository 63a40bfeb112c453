-- What a device keeps of a register, through a checkpoint and an append.
use Rattle.std.proofs.Common.{◌≡◌, ◌⊎◌, ◌↔◌, inl, inr, ⊎_elim, ℕ, List, [], ◌∷◌, ◌++◌, None, length, map, All, Bool, true, false, not, cond, ◌+◌, ◌<◌, refl, sym, ◌∙◌, ap, subst, arith, append_assoc}
use Rattle.std.specs.Prelude.{OnOk, OnErr, IfErr, Result, Ok, Err, MatchBool}
use Rattle.std.proofs.lemmas.List.{append-nil, length-set, length-map}
use Rattle.std.proofs.lemmas.List.Elements.{All-nil, All-cons, All-append}
use Rattle.lift_base.specs.declared.history.Entry.{Entry}
use Rattle.lift_base.specs.declared.history.Record.{Record}
use Rattle.lift_base.specs.declared.history.Record.TheVariants.{Entry as EntryRecord, Row, Last, Done}
use Rattle.lift_base.specs.declared.history.Shape.{Shape}
use Rattle.lift_building.specs.Plan.{Plan, shape_of}
use Rattle.lift_disk.specs.Disk.{DiskState, Image, CountsNow, RunsOn, LeavesNow, LeavesOnly, MayLeave, MayLose}
use Rattle.lift_disk.specs.lemmas.Moments.{changes_nothing, leaves_weaker, leaves_if_honest, filled_left}
use Rattle.lift_register.specs.Register.{RegisterState, register_of, rows_of, rows_after, last_after, calls_of, done_among, empty}
use Rattle.lift_register.specs.Fits.{FitFrom}
use Rattle.lift_register.specs.Base.{BaseFits, BaseFitFrom, base_records, with_record, with_records}
use Rattle.lift_register.specs.Belongs.{BelongsTo}
use Rattle.lift_register.specs.Balanced.{IsBalanced}
use Rattle.lift_register.specs.WellFormed.{IsWellFormed}
use Rattle.lift_register.specs.lemmas.BaseLemmas.{BaseFitFrom-base_records, with_records-base_records}
use Rattle.lift_register.specs.lemmas.EntryLemmas.{register_of-nothing, rows_after-nothing, done-nothing}
use Rattle.lift_register.specs.lemmas.HistoryLemmas.{register_of-append, same_state}
use Rattle.lift_register.specs.lemmas.Laws.{FitFrom-append}
use Rattle.lift_register.specs.lemmas.Sums.{list_on_cars, list_on_terminals, nothing_over_cars, length-on_cars, length-on_terminals}
use Rattle.lift_base.specs.declared.limits.TheConstants.{MOST_CARS, MOST_TERMINALS}
use Rattle.lift_journal.specs.declared.fault.JournalFault.{JournalFault}
use Rattle.lift_journal.specs.declared.fault.JournalFault.TheVariants.{Disk, Full, Broken}
use Rattle.lift_journal.specs.Journal.{ReadsAs, StandsFor}
use Rattle.lift_journal.specs.Armed.{NoneFails, LastFails, FailsBy, AnswersAsArmed}
use Rattle.lift_journal.specs.lemmas.Telling.{passes_then, fault_then}
use Rattle.lift_journal.specs.Checkpoint.{sectors_for}
use Rattle.lift_journal.specs.Layout.{Batch, new_batch, records_of, size_of, body_size, used, Holds, HoldsIn, Picks}
use Rattle.lift_journal.specs.Order.{IsEntry, IsOfBase}
use Rattle.lift_journal.specs.Failed.{IsFailedAppend, IsFailedCheckpoint}
use Rattle.lift_keeper.specs.Images.{IsImageOf, IsImageIn, IsInDoubt}
use Rattle.lift_keeper.specs.Recovery.{entries_of, IsRegisterOf}
use Rattle.lift_keeper.specs.Writer.{HoldsRegister, Guards, FailsInCheckpoint, FailsInAppend, IsFailedCommit, room_call_count, room_used, room_second}

-- the register in the other half, as a checkpoint alone
abbrev IsFolded : Plan → ℕ → Bool → RegisterState → Image → Type 0
IsFolded plan half is_in_second_half register image = IsImageIn plan half (not is_in_second_half) (sectors_for (length (base_records register))) register image

-- clauses of an answer, weakened together
pub ok_five : {T E : Type 0} (r : Result T E) (P Q S U V R : Type 0) → (P → Q → S → U → V → R) → OnOk r P → OnOk r Q → OnOk r S → OnOk r U → OnOk r V → OnOk r R
ok_five (Ok x) P Q S U V R f p q s u v = f p q s u v
ok_five (Err e) P Q S U V R f p q s u v = tt

pub ok_three : {T E : Type 0} (r : Result T E) (P Q S R : Type 0) → (P → Q → S → R) → OnOk r P → OnOk r Q → OnOk r S → OnOk r R
ok_three (Ok x) P Q S R f p q s = f p q s
ok_three (Err e) P Q S R f p q s = tt

-- of the faults of a call only that of the device is left
pub by_disk : {T : Type 0} (r : Result T JournalFault) (R : Type 0) → IfErr r (λ f. (f ≡ Disk) ⊎ (f ≡ Broken)) → (r ≡ Err Broken → ⊥) → (r ≡ Err Disk → R) → OnErr r R
by_disk (Ok x) R which never made = tt
by_disk (Err f) R which never made = ⊎_elim (λ is. made (ap (λ (e : JournalFault). Err e) is)) (λ is. absurd (never (ap (λ (e : JournalFault). Err e) is))) which

pub by_disk_alone : {T : Type 0} (r : Result T JournalFault) (R : Type 0) → IfErr r (λ f. (f ≡ Disk) ⊎ (f ≡ Full) ⊎ (f ≡ Broken)) → (r ≡ Err Full → ⊥) → (r ≡ Err Broken → ⊥) → (r ≡ Err Disk → R) → OnErr r R
by_disk_alone (Ok x) R which full never made = tt
by_disk_alone (Err f) R which full never made =
    ⊎_elim (λ is. made (ap (λ (e : JournalFault). Err e) is))
    (⊎_elim (λ is. absurd (full (ap (λ (e : JournalFault). Err e) is))) (λ is. absurd (never (ap (λ (e : JournalFault). Err e) is)))) which

-- a call failed
pub disk_calls : {T : Type 0} (r : Result T JournalFault) (old new : DiskState) → r ≡ Err Disk → AnswersAsArmed r old new → old.calls < new.calls
disk_calls r old new is armed =
    let fails : IfErr r (λ fault. FailsBy fault old new) = armed.err in
    let last : LastFails old new = subst (λ (a : Result _ JournalFault). IfErr a (λ fault. FailsBy fault old new)) is fails in
    last.some

-- an image of a journal of the building
pub image_from : (plan : Plan) (shape : Shape) (register : RegisterState) (base entries : List Record) (image : Image) → shape ≡ shape_of plan shape.half
    → IsRegisterOf plan base entries register → ReadsAs shape base entries image → IsImageOf plan register image
image_from plan shape register base entries image of_building is reads = record {
  half = shape.half;
  base = base;
  entries = entries;
  reads = subst (λ (s : Shape). ReadsAs s base entries image) of_building reads;
  is = is;
}

pub keeps_image : (plan : Plan) (shape : Shape) (is_in_second_half : Bool) (taken : ℕ) (register : RegisterState) (disk : DiskState) → disk.is_honest → HoldsRegister plan shape is_in_second_half taken register disk
    → (left : Image) → MayLeave disk left → IsImageOf plan register left
keeps_image plan shape is_in_second_half taken register disk honest keeps left leaves =
    image_from plan shape register keeps.base keeps.entries left keeps.of_building keeps.is (keeps.stands honest left leaves)

pub keeps_safe : (plan : Plan) (shape : Shape) (is_in_second_half : Bool) (taken : ℕ) (register : RegisterState) (disk : DiskState) → (disk.is_honest → HoldsRegister plan shape is_in_second_half taken register disk) → LeavesNow disk (IsImageOf plan register)
keeps_safe plan shape is_in_second_half taken register disk keeps honest left leaves = keeps_image plan shape is_in_second_half taken register disk honest (keeps honest) left leaves

-- an image that holds these batches in this half
pub image_in : (plan : Plan) (shape : Shape) (is_in_second_half : Bool) (taken : ℕ) (register : RegisterState) (batches : List Batch) (base entries : List Record) (image : Image) → shape ≡ shape_of plan shape.half
    → Holds shape batches image → records_of batches ≡ base ++ entries → All IsOfBase base → All IsEntry entries → IsRegisterOf plan base entries register → Picks is_in_second_half image → taken ≡ used batches
    → IsImageIn plan shape.half is_in_second_half taken register image
image_in plan shape is_in_second_half taken register batches base entries image of_building holds joined is_base are_entries is picks counts = record {
  found = record {
    half = shape.half;
    base = base;
    entries = entries;
    reads = record { batches = batches; holds = subst (λ (s : Shape). Holds s batches image) of_building holds; joined = joined; is_base = is_base; are_entries = are_entries };
    is = is;
  };
  sectors = refl;
  picks = picks;
  counts = counts;
}

-- the records of what is kept
keeps_reads : (plan : Plan) (shape : Shape) (is_in_second_half : Bool) (taken : ℕ) (register : RegisterState) (disk : DiskState) (keeps : HoldsRegister plan shape is_in_second_half taken register disk) → disk.is_honest
    → ReadsAs shape keeps.base keeps.entries disk.image
keeps_reads plan shape is_in_second_half taken register disk keeps honest = keeps.stands honest disk.image (changes_nothing disk.is_loose disk.image)

pub keeps_placed : (plan : Plan) (shape : Shape) (is_in_second_half : Bool) (taken : ℕ) (register : RegisterState) (disk : DiskState) → (disk.is_honest → HoldsRegister plan shape is_in_second_half taken register disk)
    → LeavesNow disk (IsImageIn plan shape.half is_in_second_half taken register)
keeps_placed plan shape is_in_second_half taken register disk keeps honest left leaves =
    let kept = keeps honest in
    let reads = keeps_reads plan shape is_in_second_half taken register disk kept honest in
    image_in plan shape is_in_second_half taken register kept.batches kept.base kept.entries left kept.of_building (kept.holds honest left leaves) kept.joined reads.is_base reads.are_entries kept.is
    (kept.picks honest left leaves) kept.counts

-- what all moments leave is left now
pub now_after : (old new : DiskState) (P : Image → Type 0) → LeavesOnly old new P → CountsNow new → LeavesNow new P
now_after old new P leaves counts honest_new left now =
    let honest = leaves.honest.0 honest_new in
    leaves.each honest left (counts honest_new old.moment left (leaves.later honest) now)

-- a checkpoint alone
pub base_alone : (plan : Plan) (register : RegisterState) → IsWellFormed register → BelongsTo plan register → IsBalanced register → IsRegisterOf plan (base_records register) [] register
base_alone plan register lawful belongs balanced = record {
  base_fits = BaseFitFrom-base_records plan register lawful belongs balanced;
  entries_fit = tt;
  is = sym (register_of-nothing register lawful) ∙ ap (λ (r : RegisterState). register_of r []) (sym (with_records-base_records register lawful));
}

-- no entry changes no register that has its cars and terminals
nothing_of : (register : RegisterState) → length register.rows ≡ MOST_CARS → length register.lasts ≡ MOST_TERMINALS → register_of register [] ≡ register
nothing_of register rows lasts =
    same_state _ _ _ _ _ _
    (sym (list_on_cars (rows_after register []) register.rows [] rows (λ k below. sym (rows_after-nothing register k))))
    (sym (list_on_terminals (last_after register []) register.lasts None lasts (λ k below. refl)))
    (omega (arith, nothing_over_cars (λ k. done_among (calls_of register [] k)) (λ k. done-nothing register k)))

record HasAll (register : RegisterState) : Type 0 where
  pub rows : length register.rows ≡ MOST_CARS
  pub lasts : length register.lasts ≡ MOST_TERMINALS

all_with : (register : RegisterState) (records : List Record) → HasAll register → HasAll (with_records register records)
all_with register [] all = all
all_with register (Row row ∷ records) all = all_with (with_record register (Row row)) records (record { rows = length-set register.rows row.car (rows_of register row.car ++ row ∷ []) ∙ all.rows; lasts = all.lasts })
all_with register (Last terminal last ∷ records) all = all_with (with_record register (Last terminal last)) records (record { rows = all.rows; lasts = length-set register.lasts terminal _ ∙ all.lasts })
all_with register (Done count ∷ records) all = all_with (with_record register (Done count)) records (record { rows = all.rows; lasts = all.lasts })
all_with register (EntryRecord entry ∷ records) all = all_with register records all

all_empty : HasAll empty
all_empty = record { rows = length-on_cars (λ (k : ℕ). []); lasts = length-on_terminals (λ (k : ℕ). None) }

base_nothing : (base : List Record) → register_of (with_records empty base) [] ≡ with_records empty base
base_nothing base = let all = all_with empty base all_empty in nothing_of (with_records empty base) all.rows all.lasts

-- the entries of records
entries_same : (batch : List Entry) → entries_of (map EntryRecord batch) ≡ batch
entries_same [] = refl
entries_same (entry ∷ batch) = ap (λ (l : List Entry). entry ∷ l) (entries_same batch)

entries_then : (first later : List Record) → entries_of (first ++ later) ≡ entries_of first ++ entries_of later
entries_then [] later = refl
entries_then (EntryRecord entry ∷ first) later = ap (λ (l : List Entry). entry ∷ l) (entries_then first later)
entries_then (Row row ∷ first) later = entries_then first later
entries_then (Last terminal last ∷ first) later = entries_then first later
entries_then (Done count ∷ first) later = entries_then first later

entries_more : (entries : List Record) (batch : List Entry) → entries_of (entries ++ map EntryRecord batch) ≡ entries_of entries ++ batch
entries_more entries batch = entries_then entries (map EntryRecord batch) ∙ ap (λ (l : List Entry). entries_of entries ++ l) (entries_same batch)

-- a batch after the entries
pub batch_after : (plan : Plan) (base entries : List Record) (register : RegisterState) (batch : List Entry) (records : List Record) → IsRegisterOf plan base entries register
    → FitFrom plan register batch → records ≡ map EntryRecord batch → IsRegisterOf plan base (entries ++ records) (register_of register batch)
batch_after plan base entries register batch records is fit kept =
    let start = with_records empty base in
    let same : entries_of (entries ++ records) ≡ entries_of entries ++ batch = ap (λ (l : List Record). entries_of (entries ++ l)) kept ∙ entries_more entries batch in
    record {
      base_fits = is.base_fits;
      entries_fit = subst (FitFrom plan start) (sym same)
          (FitFrom-append plan start (entries_of entries) batch (base_nothing base) is.entries_fit (subst (λ (r : RegisterState). FitFrom plan r batch) is.is fit));
      is = ap (λ (r : RegisterState). register_of r batch) is.is ∙ register_of-append start (entries_of entries) batch ∙ ap (register_of start) (sym same);
    }

records_push : (batches : List Batch) (batch : Batch) → records_of (batches ++ batch ∷ []) ≡ records_of batches ++ batch.records
records_push [] batch = append-nil batch.records
records_push (first ∷ batches) batch = ap (λ (l : List Record). first.records ++ l) (records_push batches batch) ∙ sym (append_assoc first.records (records_of batches) batch.records)

-- a checkpoint has parts of one alone
is_part : (plan : Plan) (register : RegisterState) (content : Record) → BaseFits plan register content → IsOfBase content
is_part plan register (EntryRecord entry) fits = absurd fits.1
is_part plan register (Row row) fits = tt
is_part plan register (Last terminal last) fits = tt
is_part plan register (Done count) fits = tt

are_parts : (plan : Plan) (register : RegisterState) (records : List Record) → BaseFitFrom plan register records → All IsOfBase records
are_parts plan register [] fit = All-nil IsOfBase
are_parts plan register (content ∷ records) fit = All-cons IsOfBase content records (is_part plan register content fit.0) (are_parts plan (with_record register content) records fit.1)

-- the records of a register's checkpoint
pub base_kinds : (plan : Plan) (register : RegisterState) → IsWellFormed register → BelongsTo plan register → IsBalanced register → All IsOfBase (base_records register)
base_kinds plan register lawful belongs balanced = are_parts plan empty (base_records register) (base_alone plan register lawful belongs balanced).base_fits

used_push : (batches : List Batch) (batch : Batch) → used (batches ++ batch ∷ []) ≡ used batches + (size_of batch + 1)
used_push [] batch = omega arith
used_push (first ∷ batches) batch = omega (arith, used_push batches batch)

module _ (plan : Plan) (shape : Shape) (is_in_second_half : Bool) (taken : ℕ) (register : RegisterState) (old : DiskState) (guards : Guards plan shape is_in_second_half taken register old) where
  pub guarded : LeavesNow old (IsImageOf plan register)
  guarded = keeps_safe plan shape is_in_second_half taken register old guards.keeps

  checkpoint_is : IsRegisterOf plan (base_records register) [] register
  checkpoint_is = base_alone plan register guards.lawful guards.belongs guards.balanced

  checkpoint_parts : All IsOfBase (base_records register)
  checkpoint_parts = base_kinds plan register guards.lawful guards.belongs guards.balanced

  -- a checkpoint
  pub replace_leaves : (new : DiskState) → (new.is_honest ↔ old.is_honest)
      → ((base entries : List Record) → StandsFor shape base entries old → LeavesOnly old new (λ left. ReadsAs shape base entries left ⊎ ReadsAs shape (base_records register) [] left))
      → LeavesOnly old new (IsImageOf plan register)
  replace_leaves new same leaves =
      leaves_if_honest old new (IsImageOf plan register) same (λ honest.
      let keeps = guards.keeps honest in
      leaves_weaker old new (λ left. ReadsAs shape keeps.base keeps.entries left ⊎ ReadsAs shape (base_records register) [] left) (IsImageOf plan register)
      (λ _ left reads. ⊎_elim (λ was. image_from plan shape register keeps.base keeps.entries left keeps.of_building keeps.is was)
      (λ now. image_from plan shape register (base_records register) [] left keeps.of_building checkpoint_is now) reads)
      (leaves keeps.base keeps.entries keeps.stands))

  pub replace_keeps : (new : DiskState) (after : Shape) (second : Bool) (count : ℕ) (checkpoint : List Batch) → (new.is_honest ↔ old.is_honest) → after ≡ shape → LeavesNow new (Holds after checkpoint)
      → StandsFor after (base_records register) [] new → records_of checkpoint ≡ base_records register → LeavesNow new (Picks second) → count ≡ used checkpoint → new.is_honest
      → HoldsRegister plan after second count register new
  replace_keeps new after second count checkpoint same is holds stands joined picks counts honest_new =
      let keeps = guards.keeps (same.0 honest_new) in
      record {
        of_building = subst (λ (s : Shape). s ≡ shape_of plan s.half) (sym is) keeps.of_building;
        batches = checkpoint;
        base = base_records register;
        entries = [];
        holds = holds;
        stands = stands;
        joined = joined ∙ sym (append-nil (base_records register));
        is = checkpoint_is;
        picks = picks;
        counts = counts;
      }

  -- an image of the old batches, in this half
  old_in : (honest : old.is_honest) (left : Image) → HoldsIn shape is_in_second_half (guards.keeps honest).batches left → IsImageIn plan shape.half is_in_second_half taken register left
  old_in honest left held =
      let keeps = guards.keeps honest in
      let reads = keeps_reads plan shape is_in_second_half taken register old keeps honest in
      image_in plan shape is_in_second_half taken register keeps.batches keeps.base keeps.entries left keeps.of_building held.holds keeps.joined reads.is_base reads.are_entries keeps.is held.picks keeps.counts

  -- a checkpoint that failed
  module _ (new : DiskState) (checkpoint : List Batch) (honest : old.is_honest) (joined : records_of checkpoint ≡ base_records register)
      (counted : used checkpoint ≡ sectors_for (length (base_records register))) where
    folded_in : (left : Image) → HoldsIn shape (not is_in_second_half) checkpoint left → IsFolded plan shape.half is_in_second_half register left
    folded_in left held =
        image_in plan shape (not is_in_second_half) (sectors_for (length (base_records register))) register checkpoint (base_records register) [] left (guards.keeps honest).of_building held.holds
        (joined ∙ sym (append-nil (base_records register))) checkpoint_parts (All-nil IsEntry) checkpoint_is held.picks (sym counted)

    pub replace_fails : IsFailedCheckpoint shape is_in_second_half (guards.keeps honest).batches checkpoint (sectors_for (length (base_records register))) old new
        → FailsInCheckpoint plan shape.half is_in_second_half taken register old new
    replace_fails stops = record {
      early = λ few honest_new left leaves. old_in honest left (stops.early few honest_new left leaves);
      keeps_old = λ calls. old_in honest new.image ((stops.late (omega (arith, calls))).keeps_old calls);
      keeps_new = λ calls. folded_in new.image ((stops.late (omega (arith, calls))).keeps_new calls);
      loses = λ many. old_in honest new.synced ((stops.late many).loses);
      fills_mark = λ many left filled. by_mark is_in_second_half refl left ((stops.late many).fills_second left filled);
      fills_other = λ many byte left other filled. by_other is_in_second_half refl left ((stops.late many).fills_first byte left other filled);
    }
      where
        by_mark : (b : Bool) → b ≡ is_in_second_half → (left : Image) → HoldsIn shape true (cond b (guards.keeps honest).batches checkpoint) left
            → MatchBool b (IsImageIn plan shape.half is_in_second_half taken register left) (IsFolded plan shape.half is_in_second_half register left)
        by_mark true is left held = old_in honest left (subst (λ (b : Bool). HoldsIn shape b (guards.keeps honest).batches left) is held)
        by_mark false is left held = folded_in left (subst (λ (b : Bool). HoldsIn shape (not b) checkpoint left) is held)

        by_other : (b : Bool) → b ≡ is_in_second_half → (left : Image) → HoldsIn shape false (cond b checkpoint (guards.keeps honest).batches) left
            → MatchBool b (IsFolded plan shape.half is_in_second_half register left) (IsImageIn plan shape.half is_in_second_half taken register left)
        by_other true is left held = folded_in left (subst (λ (b : Bool). HoldsIn shape (not b) checkpoint left) is held)
        by_other false is left held = old_in honest left (subst (λ (b : Bool). HoldsIn shape b (guards.keeps honest).batches left) is held)

  module _ (batch : List Entry) (records : List Record) (kept : records ≡ map EntryRecord batch) (fit : FitFrom plan register batch) where
    -- an append
    pub append_leaves : (new : DiskState) → (new.is_honest ↔ old.is_honest)
        → ((base entries : List Record) → StandsFor shape base entries old → LeavesOnly old new (λ left. ReadsAs shape base entries left ⊎ ReadsAs shape base (entries ++ records) left))
        → LeavesOnly old new (IsInDoubt plan register batch)
    append_leaves new same leaves =
        leaves_if_honest old new (IsInDoubt plan register batch) same (λ honest.
        let keeps = guards.keeps honest in
        let more = batch_after plan keeps.base keeps.entries register batch records keeps.is fit kept in
        leaves_weaker old new (λ left. ReadsAs shape keeps.base keeps.entries left ⊎ ReadsAs shape keeps.base (keeps.entries ++ records) left) (IsInDoubt plan register batch)
        (λ _ left reads. ⊎_elim (λ was. inl (image_from plan shape register keeps.base keeps.entries left keeps.of_building keeps.is was))
        (λ now. inr (image_from plan shape (register_of register batch) keeps.base (keeps.entries ++ records) left keeps.of_building more now)) reads)
        (leaves keeps.base keeps.entries keeps.stands))

    pub append_keeps : (new : DiskState) (after : Shape) (second : Bool) (count : ℕ) → (new.is_honest ↔ old.is_honest) → after ≡ shape
        → ((base entries : List Record) → StandsFor shape base entries old → StandsFor after base (entries ++ records) new)
        → ((batches : List Batch) → LeavesNow old (Holds shape batches) → LeavesNow new (Holds after (batches ++ new_batch records ∷ [])))
        → second ≡ is_in_second_half → LeavesNow new (Picks is_in_second_half) → count ≡ taken + body_size (length records) + 1
        → new.is_honest → HoldsRegister plan after second count (register_of register batch) new
    append_keeps new after second count same is stands holds half picks counts honest_new =
        let keeps = guards.keeps (same.0 honest_new) in
        record {
          of_building = subst (λ (s : Shape). s ≡ shape_of plan s.half) (sym is) keeps.of_building;
          batches = keeps.batches ++ new_batch records ∷ [];
          base = keeps.base;
          entries = keeps.entries ++ records;
          holds = holds keeps.batches keeps.holds;
          stands = stands keeps.base keeps.entries keeps.stands;
          joined = records_push keeps.batches (new_batch records) ∙ ap (λ (l : List Record). l ++ records) keeps.joined ∙ append_assoc keeps.base keeps.entries records;
          is = batch_after plan keeps.base keeps.entries register batch records keeps.is fit kept;
          picks = subst (λ (b : Bool). LeavesNow new (Picks b)) (sym half) picks;
          counts = omega (arith, counts, keeps.counts, used_push keeps.batches (new_batch records));
        }

    -- an append that failed
    module _ (new : DiskState) (honest : old.is_honest) (honest_new : new.is_honest) (are : All IsEntry records) (picks : LeavesNow new (Picks is_in_second_half)) (may_lose : MayLose new)
        (stops : IsFailedAppend shape (guards.keeps honest).batches (new_batch records) (body_size (length records)) old new) where
      pick_at : (left : Image) → MayLeave new left → Picks is_in_second_half left
      pick_at left leaves = picks honest_new left leaves

      long : length records ≡ length batch
      long = ap length kept ∙ length-map batch EntryRecord

      before_in : (left : Image) → MayLeave new left → Holds shape (guards.keeps honest).batches left → IsImageIn plan shape.half is_in_second_half taken register left
      before_in left leaves holds = old_in honest left (record { holds = holds; picks = pick_at left leaves })

      added_in : (left : Image) → MayLeave new left → Holds shape ((guards.keeps honest).batches ++ new_batch records ∷ []) left
          → IsImageIn plan shape.half is_in_second_half (taken + (body_size (length batch) + 1)) (register_of register batch) left
      added_in left leaves holds =
          let keeps = guards.keeps honest in
          let reads = keeps_reads plan shape is_in_second_half taken register old keeps honest in
          image_in plan shape is_in_second_half (taken + (body_size (length batch) + 1)) (register_of register batch) (keeps.batches ++ new_batch records ∷ []) keeps.base (keeps.entries ++ records) left keeps.of_building holds
          (records_push keeps.batches (new_batch records) ∙ ap (λ (l : List Record). l ++ records) keeps.joined ∙ append_assoc keeps.base keeps.entries records)
          reads.is_base (All-append IsEntry keeps.entries records reads.are_entries are) (batch_after plan keeps.base keeps.entries register batch records keeps.is fit kept) (pick_at left leaves)
          (omega (arith, keeps.counts, used_push keeps.batches (new_batch records), ap body_size long))

      -- this many calls were made before
      pub append_fails : (first : DiskState) (made : ℕ) → old.calls ≡ first.calls + made → FailsInAppend plan shape.half is_in_second_half taken register batch made first new
      append_fails first made before = record {
        early = λ few _ left leaves. before_in left leaves (stops.early (omega (arith, few, before, ap body_size long)) honest_new left leaves);
        keeps_old = λ calls. before_in new.image here ((stops.late (omega (arith, calls, before, ap body_size long))).keeps_old (omega (arith, calls, before, ap body_size long)));
        keeps_new = λ calls. added_in new.image here ((stops.late (omega (arith, calls, before, ap body_size long))).keeps_new (omega (arith, calls, before, ap body_size long)));
        loses = λ many. before_in new.synced (may_lose honest_new) ((stops.late (omega (arith, many, before, ap body_size long))).loses);
        fills_mark = λ many left filled. added_in left (filled_left 165 new left filled) ((stops.late (omega (arith, many, before, ap body_size long))).fills_new left filled);
        fills_other = λ many byte left other filled.
            before_in left (filled_left byte new left filled) ((stops.late (omega (arith, many, before, ap body_size long))).fills_old byte left other filled);
      }
        where
          here : MayLeave new new.image
          here = changes_nothing new.is_loose new.image

pub in_doubt_of : (plan : Plan) (register : RegisterState) (batch : List Entry) (old : DiskState) → old.is_honest → (left : Image) → IsImageOf plan register left → IsInDoubt plan register batch left
in_doubt_of plan register batch old honest left is = inl is

pub guards_then : (plan : Plan) (shape after : Shape) (is_in_second_half second : Bool) (taken count : ℕ) (register : RegisterState) (old new : DiskState) → Guards plan shape is_in_second_half taken register old
    → (new.is_honest → HoldsRegister plan after second count register new) → Guards plan after second count register new
guards_then plan shape after is_in_second_half second taken count register old new guards keeps = record { lawful = guards.lawful; belongs = guards.belongs; balanced = guards.balanced; keeps = keeps }

-- a call of the journal after one in which none failed
pub answers_then : {T : Type 0} (r : Result T JournalFault) (old mid new : DiskState) → RunsOn old mid → NoneFails old mid → AnswersAsArmed r mid new → AnswersAsArmed r old new
answers_then (Ok x) old mid new runs first second = record { ok = passes_then old mid new runs first second.ok; err = tt }
answers_then (Err fault) old mid new runs first second = record { ok = tt; err = fault_then old mid new runs first fault second.err }

-- a commit that failed after its checkpoint
pub adding_fails : (plan : Plan) (half : ℕ) (is_in_second_half : Bool) (taken : ℕ) (register : RegisterState) (batch : List Entry) (old mid new : DiskState) (count after : ℕ) (second : Bool) (now : ℕ)
    → count ≡ length batch → after ≡ half → second ≡ room_second is_in_second_half taken half count → now ≡ room_used register taken half count → mid.calls ≡ old.calls + room_call_count register taken half count
    → mid.calls < new.calls → ((first : DiskState) (made : ℕ) → mid.calls ≡ first.calls + made → FailsInAppend plan after second now register batch made first new)
    → IsFailedCommit plan half is_in_second_half taken register batch old new
adding_fails plan half is_in_second_half taken register batch old mid new count after second now counted same_half same_second same_used calls more adds =
    let made = adds old (room_call_count register taken half count) calls in
    let at_half = subst (λ h. FailsInAppend plan h second now register batch (room_call_count register taken half count) old new) same_half made in
    let at_second = subst (λ (b : Bool). FailsInAppend plan half b now register batch (room_call_count register taken half count) old new) same_second at_half in
    let at_used = subst (λ n. FailsInAppend plan half (room_second is_in_second_half taken half count) n register batch (room_call_count register taken half count) old new) same_used at_second in
    let at_count = subst (λ n. FailsInAppend plan half (room_second is_in_second_half taken half n) (room_used register taken half n) register batch (room_call_count register taken half n) old new) counted at_used in
    record {
      folding = λ few. absurd (omega (arith, few, more, calls, ap (λ n. room_call_count register taken half n) counted));
      adding = λ _. at_count;
    }
