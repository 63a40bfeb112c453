-- An image reads in one way at most.
use Rattle.std.proofs.Common.{◌≡◌, ◌≤◌, ◌<◌, ◌^◌, ◌+◌, ◌*◌, ◌-◌, ℕ, get_or, Bool, true, false, cond, nat_lt, List, [], ◌∷◌, ◌++◌, length, take, drop, replicate, All, refl, sym, ◌∙◌, ap, subst, arith, append_assoc, length-append}
use Rattle.std.specs.List.{concat, flat_map, AllByRecursion}
use Rattle.std.proofs.lemmas.List.{take_at, drop_at, take-append-le, append-nil}
use Rattle.std.proofs.lemmas.List.Elements.{recursion_from_All}
use Rattle.std.proofs.lemmas.Nat.{from_be_bytes-to_be_bytes_4}
use Rattle.std.specs.Int.{w32, to_be_bytes, from_be_bytes}
use Rattle.lift_base.specs.declared.history.Record.{Record}
use Rattle.lift_base.specs.declared.history.Shape.{Shape}
use Rattle.lift_disk.specs.Disk.{Image}
use Rattle.lift_record.specs.declared.version.Version.{Version}
use Rattle.lift_record.specs.Record.{spelling_of}
use Rattle.lift_record.specs.Header.{header_bytes}
use Rattle.lift_record.specs.lemmas.Spellings.{spelling_of_unique, header_versions, header_counts, length-spelling_of, length-header_bytes}
use Rattle.lift_journal.specs.Layout.{Batch, body_size, size_of, filled, IsRecordIn, IsBody, IsChain, start_of, stamp_bytes, IsStamped, Holds}

pub length-spellings : (version : Version) (contents : List Record) → length (flat_map (spelling_of version) contents) ≡ 16 * length contents
length-spellings version [] = refl
length-spellings version (content ∷ contents) =
    omega (arith, length-append (spelling_of version content) (flat_map (spelling_of version) contents), length-spelling_of version content, length-spellings version contents)

records_unique : (version : Version) (first second : List Record) → AllByRecursion (IsRecordIn version) first → AllByRecursion (IsRecordIn version) second → length first ≡ length second
    → flat_map (spelling_of version) first ≡ flat_map (spelling_of version) second → first ≡ second
records_unique version [] [] a b count same = refl
records_unique version [] (y ∷ ys) a b count same = absurd (omega arith)
records_unique version (x ∷ xs) [] a b count same = absurd (omega arith)
records_unique version (x ∷ xs) (y ∷ ys) a b count same =
    let here : spelling_of version x ≡ spelling_of version y =
    sym (take_at (spelling_of version x) (flat_map (spelling_of version) xs) 16 (length-spelling_of version x)) ∙ ap (take 16) same ∙ take_at (spelling_of version y) (flat_map (spelling_of version) ys) 16 (length-spelling_of version y) in
    let rest : flat_map (spelling_of version) xs ≡ flat_map (spelling_of version) ys =
    sym (drop_at (spelling_of version x) (flat_map (spelling_of version) xs) 16 (length-spelling_of version x)) ∙ ap (drop 16) same ∙ drop_at (spelling_of version y) (flat_map (spelling_of version) ys) 16 (length-spelling_of version y) in
    let first : x ≡ y = spelling_of_unique version x y a.0.is_record b.0.is_record a.0.sayable b.0.sayable here in
    let others : xs ≡ ys = records_unique version xs ys a.1 b.1 (omega arith) rest in
    ap (λ (r : Record). r ∷ xs) first ∙ ap (λ (l : List Record). y ∷ l) others

-- the first sixteen bytes are the header
header_first : (number : ℕ) (batch : Batch) (sectors : Image) → IsBody number batch sectors → take 16 (concat sectors) ≡ header_bytes batch.version (length batch.records) number
header_first number batch sectors body =
    let header = header_bytes batch.version (length batch.records) number in
    let texts = flat_map (spelling_of batch.version) batch.records in
    let zeros = replicate (512 * size_of batch - length (header ++ texts)) 0 in
    ap (take 16) (body.spelled ∙ append_assoc header texts zeros) ∙ take_at header (texts ++ zeros) 16 (length-header_bytes batch.version (length batch.records) number)

long_enough : (number : ℕ) (batch : Batch) (sectors : Image) → IsBody number batch sectors → 16 ≤ length (concat sectors)
long_enough number batch sectors body =
    let header = header_bytes batch.version (length batch.records) number in
    let texts = flat_map (spelling_of batch.version) batch.records in
    let zeros = replicate (512 * size_of batch - length (header ++ texts)) 0 in
    let size = ap length (body.spelled ∙ append_assoc header texts zeros) ∙ length-append header (texts ++ zeros) in
    omega (arith, size, length-header_bytes batch.version (length batch.records) number)

front_same : (rest : Image) → 16 ≤ length (concat (take 1 rest)) → take 16 (concat (take 2 rest)) ≡ take 16 (concat (take 1 rest))
front_same [] long = refl
front_same (x ∷ rest) long =
    let enough : 16 ≤ length x = omega (arith, long, ap length (append-nil x)) in
    take-append-le 16 x (concat (take 1 rest)) enough ∙ sym (take-append-le 16 x [] enough)

-- two bodies at one place have the same header
headers_same : (number : ℕ) (first second : Batch) (rest : Image) → IsBody number first (take (size_of first) rest) → IsBody number second (take (size_of second) rest)
    → header_bytes first.version (length first.records) number ≡ header_bytes second.version (length second.records) number
headers_same number first second rest a b =
    let one = header_first number first (take (size_of first) rest) a in
    let two = header_first number second (take (size_of second) rest) b in
    let same : take 16 (concat (take (size_of first) rest)) ≡ take 16 (concat (take (size_of second) rest)) =
    by_sizes (nat_lt (length first.records) 32) (nat_lt (length second.records) 32) (long_enough number first (take (size_of first) rest) a) (long_enough number second (take (size_of second) rest) b) in
    sym one ∙ same ∙ two
  where
    by_sizes : (p q : Bool) → 16 ≤ length (concat (take (cond p 1 2) rest)) → 16 ≤ length (concat (take (cond q 1 2) rest)) → take 16 (concat (take (cond p 1 2) rest)) ≡ take 16 (concat (take (cond q 1 2) rest))
    by_sizes true true long also = refl
    by_sizes false false long also = refl
    by_sizes true false long also = sym (front_same rest long)
    by_sizes false true long also = front_same rest also

-- of one version and one count
texts_unique : (number count : ℕ) (version : Version) (first second : List Record) (bytes : List ℕ) → length first ≡ count → length second ≡ count
    → All (IsRecordIn version) first → All (IsRecordIn version) second
    → bytes ≡ filled (body_size count) (header_bytes version count number ++ flat_map (spelling_of version) first)
    → bytes ≡ filled (body_size count) (header_bytes version count number ++ flat_map (spelling_of version) second) → first ≡ second
texts_unique number count version first second bytes so_many as_many a b is also =
    let header = header_bytes version count number in
    let one = flat_map (spelling_of version) first in
    let two = flat_map (spelling_of version) second in
    let n = 16 * count in
    let zeros : List ℕ → List ℕ = λ texts. replicate (512 * body_size count - length (header ++ texts)) 0 in
    let size_one : length one ≡ n = length-spellings version first ∙ ap (λ k. 16 * k) so_many in
    let size_two : length two ≡ n = length-spellings version second ∙ ap (λ k. 16 * k) as_many in
    let both : header ++ (one ++ zeros one) ≡ header ++ (two ++ zeros two) =
    sym (append_assoc header one (zeros one)) ∙ sym is ∙ also ∙ append_assoc header two (zeros two) in
    let behind : one ++ zeros one ≡ two ++ zeros two =
    sym (drop_at header (one ++ zeros one) 16 (length-header_bytes version count number)) ∙ ap (drop 16) both ∙ drop_at header (two ++ zeros two) 16 (length-header_bytes version count number) in
    let texts : one ≡ two = sym (take_at one (zeros one) n size_one) ∙ ap (take n) behind ∙ take_at two (zeros two) n size_two in
    records_unique version first second (recursion_from_All (IsRecordIn version) first a) (recursion_from_All (IsRecordIn version) second b) (so_many ∙ sym as_many) texts

abbrev batch_with : Version → List Record → Batch
batch_with version records = record { version = version; records = records }

pub batch_same : (first second : Batch) → first.version ≡ second.version → first.records ≡ second.records → first ≡ second
batch_same first second a b = ap (λ (v : Version). batch_with v first.records) a ∙ ap (λ (l : List Record). batch_with second.version l) b

pub body_unique : (number : ℕ) (first second : Batch) (rest : Image) → IsBody number first (take (size_of first) rest) → IsBody number second (take (size_of second) rest) → first ≡ second
body_unique number first second rest a b =
    let same = headers_same number first second rest a b in
    let version : first.version ≡ second.version = header_versions first.version second.version (length first.records) (length second.records) number number same in
    let count : length first.records ≡ length second.records =
    header_counts first.version second.version (length first.records) (length second.records) number number (omega (arith, a.few)) (omega (arith, b.few)) same in
    let lawful : All (IsRecordIn first.version) second.records = subst (λ v. All (IsRecordIn v) second.records) (sym version) b.lawful in
    let again : concat (take (size_of first) rest) ≡ filled (size_of first) (header_bytes first.version (length first.records) number ++ flat_map (spelling_of first.version) second.records) =
    subst (λ v. concat (take (size_of first) rest) ≡ filled (size_of first) (header_bytes v (length first.records) number ++ flat_map (spelling_of v) second.records)) (sym version)
    (subst (λ k. concat (take (body_size k) rest) ≡ filled (body_size k) (header_bytes second.version k number ++ flat_map (spelling_of second.version) second.records)) (sym count) b.spelled) in
    batch_same first second version
    (texts_unique number (length first.records) first.version first.records second.records (concat (take (size_of first) rest)) refl (sym count) a.lawful lawful a.spelled again)

pub chain_unique : (batches others : List Batch) (number : ℕ) (sectors : Image) → IsChain batches number sectors → IsChain others number sectors → batches ≡ others
chain_unique batches others number [] a b = absurd (none batches a)
  where
    none : (batches : List Batch) → IsChain batches number [] → ⊥
    none [] chain = chain
    none (batch ∷ batches) chain = chain
chain_unique [] [] number (gate ∷ rest) a b = refl
chain_unique [] (other ∷ others) number (gate ∷ rest) a b = absurd (cc (a, b.0))
chain_unique (batch ∷ batches) [] number (gate ∷ rest) a b = absurd (cc (a.0, b))
chain_unique (batch ∷ batches) (other ∷ others) number (gate ∷ rest) a b =
    let first : batch ≡ other = body_unique number batch other rest a.1 b.1 in
    let next = subst (λ (x : Batch). IsChain others (number + 1) (drop (size_of x) rest)) (sym first) b.2 in
    ap (λ (x : Batch). x ∷ batches) first ∙ ap (λ (l : List Batch). other ∷ l) (chain_unique batches others (number + 1) (drop (size_of batch) rest) a.2 next)

pub holds_unique : (shape : Shape) (batches others : List Batch) (image : Image) → Holds shape batches image → Holds shape others image → batches ≡ others
holds_unique shape batches others image first second = chain_unique batches others 1 (take shape.half (drop (start_of shape.half image) image)) first.chain second.chain

abbrev shape_with : ℕ → ℕ → ℕ → ℕ → Shape
shape_with floors cars kiosks half = record { floors = floors; cars = cars; kiosks = kiosks; half = half }

shape_same : (one two : Shape) → one.floors ≡ two.floors → one.cars ≡ two.cars → one.kiosks ≡ two.kiosks → one.half ≡ two.half → one ≡ two
shape_same one two a b c d =
    ap (λ n. shape_with n one.cars one.kiosks one.half) a ∙ ap (λ n. shape_with two.floors n one.kiosks one.half) b
    ∙ ap (λ n. shape_with two.floors two.cars n one.half) c ∙ ap (λ n. shape_with two.floors two.cars two.kiosks n) d

-- the sectors of a half, as its stamp spells them
half_spelled : (shape : Shape) → shape.half < 2 ^ 32 → from_be_bytes w32 (take 4 (drop 12 (filled 1 (stamp_bytes shape)))) ≡ shape.half
half_spelled shape fits =
    ap (from_be_bytes w32) (take_at (to_be_bytes w32 shape.half) (replicate (512 * 1 - length (stamp_bytes shape)) 0) 4 refl) ∙ from_be_bytes-to_be_bytes_4 shape.half fits

pub stamp_unique : (one two : Shape) (image : Image) → IsStamped one image → IsStamped two image → one ≡ two
stamp_unique one two image first second =
    let same : filled 1 (stamp_bytes one) ≡ filled 1 (stamp_bytes two) = sym first.stamp ∙ second.stamp in
    shape_same one two (ap (λ (l : List ℕ). get_or l 8 0) same) (ap (λ (l : List ℕ). get_or l 9 0) same) (ap (λ (l : List ℕ). get_or l 10 0) same)
    (sym (half_spelled one (omega (arith, first.within.half))) ∙ ap (λ (l : List ℕ). from_be_bytes w32 (take 4 (drop 12 l))) same
    ∙ half_spelled two (omega (arith, second.within.half)))
