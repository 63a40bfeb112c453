-- The bytes of a batch.
use Rattle.std.proofs.Common.{◌≡◌, ◌≤◌, ◌<◌, ◌+◌, ◌-◌, ◌*◌, ◌/◌, ℕ, suc, List, [], ◌∷◌, ◌++◌, slice_set, length, take, drop, get_or, replicate, All, refl, sym, ◌∙◌, ap, arith, length-append, length-drop, append_assoc, take-append-drop, zero, Bool, true, false, cond, nat_lt}
use Rattle.std.proofs.lemmas.List.{take_all, take_at, drop_at, drop-drop, drop-replicate, length-replicate, flat_map_more, append-nil, take-replicate, replicate-append-replicate, take-append-le, take-take, drop-take, drop_more}
use Rattle.std.proofs.lemmas.Option.{unwrap_or-slice_get}
use Rattle.std.proofs.lemmas.List.Elements.{All-append, All-from_recursion}
use Rattle.std.specs.List.{flat_map, concat}
use Rattle.std.specs.Simd.{first_chunks}
use Rattle.std.proofs.Math.Seq.{take-append-add, take-add}
use borrow.Author.Tests.{ltb-true}
use Rattle.lift_base.specs.declared.history.Record.{Record}
use Rattle.lift_disk.specs.Disk.{Image}
use Rattle.lift_base.specs.declared.limits.TheConstants.{MOST_ENTRIES}
use Rattle.lift_record.specs.declared.version.Version.{Version}
use Rattle.lift_record.specs.declared.version.Version.TheVariants.{Two}
use Rattle.lift_record.specs.Record.{spelling_of}
use Rattle.lift_record.specs.Header.{header_bytes}
use Rattle.lift_record.specs.lemmas.Spellings.{length-spelling_of, length-header_bytes}
use Rattle.lift_journal.specs.Layout.{Batch, new_batch, filled, body_size, size_of, batch_bytes, IsBody, IsRecordIn, sector_at}
use Rattle.lift_journal.specs.Calls.{batch_body}
use Rattle.lift_journal.specs.Seen.{IsRecordsIn, IsTailOf}
use Rattle.lift_journal.specs.lemmas.Unique.{length-spellings}

pub length-batch_bytes : (number : ℕ) (batch : Batch) → length (batch_bytes number batch) ≡ 16 + 16 * length batch.records
length-batch_bytes number batch =
    omega (
      arith,
      length-append (header_bytes batch.version (length batch.records) number) (flat_map (spelling_of batch.version) batch.records),
      length-header_bytes batch.version (length batch.records) number,
      length-spellings batch.version batch.records,
    )

length-filled : (sectors : ℕ) (bytes : List ℕ) → length bytes ≤ 512 * sectors → length (filled sectors bytes) ≡ 512 * sectors
length-filled sectors bytes few =
    omega (arith, length-append bytes (replicate (512 * sectors - length bytes) 0), length-replicate {A = ℕ} (512 * sectors - length bytes) 0, few)

-- a batch fits into its sectors
batch_fits : (count : ℕ) → count ≤ MOST_ENTRIES → 16 + 16 * count ≤ 512 * body_size count
batch_fits count few = by_size (nat_lt count 32) refl
  where
    by_size : (b : Bool) → nat_lt count 32 ≡ b → 16 + 16 * count ≤ 512 * cond b 1 2
    by_size true small = (let less = ltb-true count 32 small in omega (arith, less))
    by_size false large = omega (arith, few)

-- bytes that are put after those that stand already
pub put_more : (sectors : ℕ) (done text piece : List ℕ) (at n : ℕ) → length done ≡ at → n ≡ length piece → text ≡ filled sectors done → take at text ++ (piece ++ drop (at + n) text) ≡ filled sectors (done ++ piece)
put_more sectors done text piece at n so_long size is =
    let zeros = replicate (512 * sectors - length done) 0 in
    let front : take at text ≡ done = ap (take at) is ∙ take_at done zeros at so_long in
    let back : drop (at + n) text ≡ replicate (512 * sectors - length (done ++ piece)) 0 =
    sym (drop-drop n at text) ∙ ap (λ (l : List ℕ). drop n (drop at l)) is ∙ ap (drop n) (drop_at done zeros at so_long)
    ∙ drop-replicate n (512 * sectors - length done) 0
    ∙ ap (λ k. replicate k 0) (omega (arith, length-append done piece)) in
    ap (λ (l : List ℕ). l ++ (piece ++ drop (at + n) text)) front ∙ ap (λ (l : List ℕ). done ++ (piece ++ l)) back
    ∙ sym (append_assoc done piece (replicate (512 * sectors - length (done ++ piece)) 0))

take_past : (xs ys : List ℕ) (n : ℕ) → length xs ≤ n → take n (xs ++ ys) ≡ xs ++ take (n - length xs) ys
take_past xs ys n le = (let whole : n ≡ length xs + (n - length xs) = omega arith in ap (λ k. take k (xs ++ ys)) whole) ∙ take-append-add xs ys (n - length xs)

first_sector : (content : List ℕ) → length content ≤ 512 → take 512 (filled 2 content) ≡ filled 1 content
first_sector content few =
    take_past content (replicate (1024 - length content) 0) 512 few
    ∙ ap (λ (l : List ℕ). content ++ l) (take-replicate (512 - length content) (1024 - length content) 0 (omega arith))

-- the front of a text, cut into sectors
pub sectors_spelled : (count : ℕ) (content text : List ℕ) → length content ≡ 16 + 16 * count → count ≤ MOST_ENTRIES → text ≡ filled 2 content
    → concat (take (body_size count) (take 512 text ∷ drop 512 text ∷ [])) ≡ filled (body_size count) content
sectors_spelled count content text size few is = by_size (nat_lt count 32) refl
  where
    one : count < 32 → take 512 text ++ [] ≡ content ++ replicate (512 - length content) 0
    one small = append-nil (take 512 text) ∙ ap (take 512) is ∙ first_sector content (omega (arith, size, small))

    two : take 512 text ++ (drop 512 text ++ []) ≡ content ++ replicate (1024 - length content) 0
    two = ap (λ (l : List ℕ). take 512 text ++ l) (append-nil (drop 512 text)) ∙ take-append-drop 512 text ∙ is

    by_size : (b : Bool) → nat_lt count 32 ≡ b → concat (take (cond b 1 2) (take 512 text ∷ drop 512 text ∷ [])) ≡ filled (cond b 1 2) content
    by_size true small = one (ltb-true count 32 small)
    by_size false large = two

-- two sectors whose header and tail are right hold the batch
pub body_found : (number : ℕ) (batch : Batch) (first second : List ℕ) → length first ≡ 512 → length second ≡ 512
    → 1 ≤ length batch.records → length batch.records ≤ MOST_ENTRIES
    → take 16 first ≡ header_bytes batch.version (length batch.records) number → IsTailOf batch.version batch.records (drop 16 (first ++ second))
    → IsBody number batch (take (size_of batch) (first ∷ second ∷ []))
body_found number batch first second one two some few header tail =
    let text = first ++ second in
    let head = header_bytes batch.version (length batch.records) number in
    let texts = flat_map (spelling_of batch.version) batch.records in
    let n = length batch.records in
    let front : take 16 text ≡ head = take-append-le 16 first second (omega (arith, one)) ∙ header in
    let spelled : text ≡ filled 2 (batch_bytes number batch) =
    sym (take-append-drop 16 text) ∙ ap (λ (l : List ℕ). l ++ drop 16 text) front ∙ ap (λ (l : List ℕ). head ++ l) tail.spelled
    ∙ sym (append_assoc head texts (replicate (1008 - 16 * n) 0))
    ∙ ap (λ k. (head ++ texts) ++ replicate k 0) (omega (arith, length-batch_bytes number batch)) in
    let cut : take 512 text ∷ drop 512 text ∷ [] ≡ first ∷ second ∷ [] =
    ap (λ (l : List ℕ). l ∷ drop 512 text ∷ []) (take_at first second 512 one) ∙ ap (λ (l : List ℕ). first ∷ l ∷ []) (drop_at first second 512 one) in
    record {
      some = some;
      few = few;
      lawful = tail.lawful;
      spelled = sym (ap (λ (l : Image). concat (take (body_size n) l)) cut) ∙ sectors_spelled n (batch_bytes number batch) text (length-batch_bytes number batch) few spelled;
    }

pub length-batch_body : (number : ℕ) (batch : Batch) → length (batch_body number batch) ≡ size_of batch
length-batch_body number batch = by_size (nat_lt (length batch.records) 32) (filled 2 (batch_bytes number batch))
  where
    by_size : (b : Bool) (text : List ℕ) → length (take (cond b 1 2) (take 512 text ∷ drop 512 text ∷ [])) ≡ cond b 1 2
    by_size true text = refl
    by_size false text = refl

-- a text of as many sectors as the batch takes is its body
pub sectors_cut : (number : ℕ) (batch : Batch) (text : List ℕ) → length batch.records ≤ MOST_ENTRIES → text ≡ filled (size_of batch) (batch_bytes number batch)
    → first_chunks 512 (length text / 512) text ≡ batch_body number batch
sectors_cut number batch text few is = ap (λ k. first_chunks 512 k text) (omega (arith, long)) ∙ by_size (nat_lt (length batch.records) 32) refl is
  where
    size : length (batch_bytes number batch) ≡ 16 + 16 * length batch.records
    size = length-batch_bytes number batch

    long : length text ≡ 512 * size_of batch
    long = ap length is ∙ length-filled (size_of batch) (batch_bytes number batch) (omega (arith, size, batch_fits (length batch.records) few))

    by_size : (b : Bool) → nat_lt (length batch.records) 32 ≡ b → text ≡ filled (cond b 1 2) (batch_bytes number batch)
        → first_chunks 512 (cond b 1 2) text ≡ take (cond b 1 2) (take 512 (filled 2 (batch_bytes number batch)) ∷ drop 512 (filled 2 (batch_bytes number batch)) ∷ [])
    by_size true small one =
        let less = ltb-true (length batch.records) 32 small in
        ap (λ (l : List ℕ). take 512 l ∷ []) (one ∙ sym (first_sector (batch_bytes number batch) (omega (arith, size, less))))
        ∙ ap (λ (l : List ℕ). l ∷ []) (take-take 512 512 (filled 2 (batch_bytes number batch)) (omega arith))
    by_size false large two =
        let whole : length (filled 2 (batch_bytes number batch)) ≡ 1024 = length-filled 2 (batch_bytes number batch) (omega (arith, size, few)) in
        ap (λ (l : List ℕ). take 512 l ∷ take 512 (drop 512 l) ∷ []) two
        ∙ ap (λ (l : List ℕ). take 512 (filled 2 (batch_bytes number batch)) ∷ l ∷ []) (take_all 512 (drop 512 (filled 2 (batch_bytes number batch))) (omega (arith, whole, length-drop 512 (filled 2 (batch_bytes number batch)))))

-- the body that is written is one of the batch
pub body_of_batch : (number : ℕ) (records : List Record) → 1 ≤ length records → length records ≤ MOST_ENTRIES → All (IsRecordIn Two) records → IsBody number (new_batch records) (batch_body number (new_batch records))
body_of_batch number records some few lawful =
    let text = batch_bytes number (new_batch records) in
    record { some = some; few = few; lawful = lawful; spelled = sectors_spelled (length records) text (filled 2 text) (length-batch_bytes number (new_batch records)) few refl }

-- the text of two sectors, zeros standing for a second one that isn't there
pub text_of_body : (number : ℕ) (batch : Batch) (first second : List ℕ) → IsBody number batch (take (size_of batch) (first ∷ second ∷ []))
    → (size_of batch ≡ 1 → second ≡ replicate 512 0) → first ++ second ≡ filled 2 (batch_bytes number batch)
text_of_body number batch first second body blank = by_size (nat_lt (length batch.records) 32) refl body.spelled blank
  where
    content : List ℕ
    content = batch_bytes number batch

    by_size : (b : Bool) → nat_lt (length batch.records) 32 ≡ b → concat (take (cond b 1 2) (first ∷ second ∷ [])) ≡ filled (cond b 1 2) (batch_bytes number batch)
        → (◌≡◌ {A = ℕ} (cond b 1 2) 1 → second ≡ replicate 512 0) → first ++ second ≡ filled 2 (batch_bytes number batch)
    by_size true small spelled zeros =
        let few = ltb-true (length batch.records) 32 small in
        let size = length-batch_bytes number batch in
        ap (λ (l : List ℕ). l ++ second) (sym (append-nil first) ∙ spelled) ∙ ap (λ (l : List ℕ). filled 1 (batch_bytes number batch) ++ l) (zeros refl)
        ∙ append_assoc (batch_bytes number batch) (replicate (512 - length (batch_bytes number batch)) 0) (replicate 512 0)
        ∙ ap (λ (l : List ℕ). batch_bytes number batch ++ l) (replicate-append-replicate (512 - length (batch_bytes number batch)) 512 0
        ∙ ap (λ k. replicate k 0) (omega (arith, size, few)))
    by_size false large spelled zeros = ap (λ (l : List ℕ). first ++ l) (sym (append-nil second)) ∙ spelled

-- its records and zeros
pub tail_of_text : (number : ℕ) (batch : Batch) (first second : List ℕ) → All (IsRecordIn batch.version) batch.records
    → first ++ second ≡ filled 2 (batch_bytes number batch) → IsTailOf batch.version batch.records (drop 16 (first ++ second))
tail_of_text number batch first second lawful is =
    let head = header_bytes batch.version (length batch.records) number in
    let texts = flat_map (spelling_of batch.version) batch.records in
    let zeros = replicate (1024 - length (head ++ texts)) 0 in
    record {
      lawful = lawful;
      spelled = ap (drop 16) is ∙ ap (drop 16) (append_assoc head texts zeros) ∙ drop_at head (texts ++ zeros) 16 (length-header_bytes batch.version (length batch.records) number)
          ∙ ap (λ k. texts ++ replicate k 0) (omega (arith, length-batch_bytes number batch));
    }

-- the header of a body, whatever stands after its first sector
pub header_of_body : (number : ℕ) (batch : Batch) (first : List ℕ) (rest : Image) → 16 ≤ length first → IsBody number batch (take (size_of batch) (first ∷ rest))
    → take 16 first ≡ header_bytes batch.version (length batch.records) number
header_of_body number batch first rest long body = by_size (nat_lt (length batch.records) 32) body.spelled
  where
    head : List ℕ
    head = header_bytes batch.version (length batch.records) number

    by_size : (b : Bool) → concat (take (cond b 1 2) (first ∷ rest)) ≡ filled (cond b 1 2) (batch_bytes number batch)
        → take 16 first ≡ header_bytes batch.version (length batch.records) number
    by_size true spelled = finish [] (512 - length (batch_bytes number batch)) spelled
      where
        finish : (more : List ℕ) (k : ℕ) → first ++ more ≡ batch_bytes number batch ++ replicate k 0 → take 16 first ≡ header_bytes batch.version (length batch.records) number
        finish more k is = front more k is
          where
            front : (more : List ℕ) (k : ℕ) → first ++ more ≡ batch_bytes number batch ++ replicate k 0 → take 16 first ≡ header_bytes batch.version (length batch.records) number
            front more k is =
                sym (take-append-le 16 first more long) ∙ ap (take 16) (is ∙ append_assoc (header_bytes batch.version (length batch.records) number) (flat_map (spelling_of batch.version) batch.records) (replicate k 0))
                ∙ take_at (header_bytes batch.version (length batch.records) number) (flat_map (spelling_of batch.version) batch.records ++ replicate k 0) 16 (length-header_bytes batch.version (length batch.records) number)
    by_size false spelled =
        sym (take-append-le 16 first (concat (take 1 rest)) long) ∙ ap (take 16) (spelled ∙ append_assoc (header_bytes batch.version (length batch.records) number) (flat_map (spelling_of batch.version) batch.records) (replicate (1024 - length (batch_bytes number batch)) 0))
        ∙ take_at (header_bytes batch.version (length batch.records) number) (flat_map (spelling_of batch.version) batch.records ++ replicate (1024 - length (batch_bytes number batch)) 0) 16 (length-header_bytes batch.version (length batch.records) number)

-- the sectors of a body
pub body_sectors : (n at : ℕ) (image : Image) (first second : List ℕ) → (1 ≤ n) × (n ≤ 2) → at + n ≤ length image → sector_at image at ≡ first
    → (n ≡ 2 → sector_at image (at + 1) ≡ second) → take n (drop at image) ≡ take n (first ∷ second ∷ [])
body_sectors zero at image first second some within is next = absurd (omega (arith, some.0))
body_sectors (suc zero) at image first second some within is next =
    ap (take 1) (drop_more image at [] (omega (arith, within))) ∙ ap (λ (s : List ℕ). s ∷ []) (sym (unwrap_or-slice_get image at []) ∙ is)
body_sectors (suc (suc zero)) at image first second some within is next =
    let one : get_or image at [] ≡ first = sym (unwrap_or-slice_get image at []) ∙ is in
    let two : get_or image (at + 1) [] ≡ second = sym (unwrap_or-slice_get image (at + 1) []) ∙ next refl in
    ap (take 2) (drop_more image at [] (omega (arith, within))) ∙ ap (λ (l : Image). get_or image at [] ∷ take 1 l) (drop_more image (at + 1) [] (omega (arith, within)))
    ∙ ap (λ (s : List ℕ). s ∷ get_or image (at + 1) [] ∷ []) one ∙ ap (λ (s : List ℕ). first ∷ s ∷ []) two
body_sectors (suc (suc (suc n))) at image first second some within is next = absurd (omega (arith, some.1))

-- record k of a text
pub record_at : (version : Version) (text : List ℕ) (count k : ℕ) (records : List Record) (blank : Record) → IsRecordsIn version text count records → k < count
    → take 16 (drop (16 * k) text) ≡ spelling_of version (get_or records k blank)
record_at version text count k records blank there below =
    sym (slice 16 (16 * k) (16 * count) text (omega arith)) ∙ ap (λ (l : List ℕ). take 16 (drop (16 * k) l)) (sym there.spelled)
    ∙ chunk records k (omega (arith, there.counted))
  where
    slice : (n at whole : ℕ) (text : List ℕ) → at + n ≤ whole → take n (drop at (take whole text)) ≡ take n (drop at text)
    slice n at whole text le =
        let split : whole ≡ at + (whole - at) = omega arith in
        ap (λ w. take n (drop at (take w text))) split ∙ ap (take n) (drop-take at (whole - at) text) ∙ take-take n (whole - at) (drop at text) (omega arith)

    chunk : (records : List Record) (k : ℕ) → k < length records → take 16 (drop (16 * k) (flat_map (spelling_of version) records)) ≡ spelling_of version (get_or records k blank)
    chunk [] k lt = absurd (omega arith)
    chunk (first ∷ records) zero lt = take_at (spelling_of version first) (flat_map (spelling_of version) records) 16 (length-spelling_of version first)
    chunk (first ∷ records) (suc k) lt =
        let step : 16 * suc k ≡ 16 + 16 * k = omega arith in
        ap (λ n. take 16 (drop n (spelling_of version first ++ flat_map (spelling_of version) records))) step
        ∙ ap (take 16) (sym (drop-drop (16 * k) 16 (spelling_of version first ++ flat_map (spelling_of version) records)))
        ∙ ap (λ (l : List ℕ). take 16 (drop (16 * k) l)) (drop_at (spelling_of version first) (flat_map (spelling_of version) records) 16 (length-spelling_of version first))
        ∙ chunk records k (omega arith)

-- one record more
pub records_more : (version : Version) (text : List ℕ) (k : ℕ) (records : List Record) (next : Record) → IsRecordsIn version text k records → IsRecordIn version next
    → 16 * k + 16 ≤ length text → take 16 (drop (16 * k) text) ≡ spelling_of version next → IsRecordsIn version text (k + 1) (records ++ next ∷ [])
records_more version text k records next so_far lawful room is =
    let twice : 16 * (k + 1) ≡ 16 * k + 16 = omega arith in
    record {
      counted = omega (arith, so_far.counted, length-append records (next ∷ []));
      lawful = All-append (IsRecordIn version) records (next ∷ []) so_far.lawful (All-from_recursion (IsRecordIn version) (next ∷ []) (lawful, tt));
      spelled = sym (flat_map_more (spelling_of version) [] records next) ∙ ap (λ (l : List ℕ). l ++ spelling_of version next) so_far.spelled
          ∙ ap (λ (l : List ℕ). take (16 * k) text ++ l) (sym is) ∙ sym (take-add (16 * k) 16 text) ∙ ap (λ n. take n text) (sym twice);
    }

-- the text of a body whose second sector is this one
pub text_of_sectors : (body : Image) (second : List ℕ) → length body ≡ 2 → flat_map (λ sector. sector) (slice_set body 1 second) ≡ sector_at body 0 ++ second
text_of_sectors [] second two = absurd (cc two)
text_of_sectors (first ∷ []) second two = absurd (cc two)
text_of_sectors (first ∷ blank ∷ []) second two = ap (λ (l : List ℕ). first ++ l) (append-nil second)
text_of_sectors (first ∷ blank ∷ more ∷ rest) second two = absurd (cc two)

-- what stands after the header, as records and zeros
pub tail_split : (version : Version) (count : ℕ) (records : List Record) (text : List ℕ) → length text ≡ 1024 → count ≤ MOST_ENTRIES → IsRecordsIn version (drop 16 text) count records
    → drop (16 + 16 * count) text ≡ replicate (1024 - (16 + 16 * count)) 0 → IsTailOf version records (drop 16 text)
tail_split version count records text size few there blank = record {
  lawful = there.lawful;
  spelled = sym (take-append-drop (16 * count) (drop 16 text)) ∙ ap (λ (l : List ℕ). l ++ drop (16 * count) (drop 16 text)) (sym there.spelled)
      ∙ ap (λ (l : List ℕ). flat_map (spelling_of version) records ++ l)
      (drop-drop (16 * count) 16 text ∙ blank ∙ ap (λ k. replicate k 0) (omega (arith, there.counted)));
}

pub tail_blank : (version : Version) (count : ℕ) (records : List Record) (text : List ℕ) → length records ≡ count → IsTailOf version records (drop 16 text)
    → drop (16 + 16 * count) text ≡ replicate (1024 - (16 + 16 * count)) 0
tail_blank version count records text counted tail =
    sym (drop-drop (16 * count) 16 text) ∙ ap (drop (16 * count)) tail.spelled
    ∙ drop_at (flat_map (spelling_of version) records) (replicate (1008 - 16 * length records) 0) (16 * count) (omega (arith, length-spellings version records, counted))
    ∙ ap (λ k. replicate k 0) (omega (arith, counted))
