-- Sixteen bytes spell at most one record in each version, and one header at most.
use Rattle.std.proofs.Common.{◌≡◌, ◌<◌, ◌^◌, ℕ, Bool, true, false, List, length, take, drop, get_or}
use Rattle.std.proofs.Common.{refl, sym, ◌∙◌, ap, subst, arith}
use Rattle.std.proofs.lemmas.Nat.{from_be_bytes-to_be_bytes_2, from_be_bytes-to_be_bytes_4}
use Rattle.std.specs.Int.{w16, w32, to_be_bytes, from_be_bytes}
use Rattle.lift_base.specs.declared.travel.Dir.{Dir}
use Rattle.lift_base.specs.declared.travel.Dir.TheVariants.{Up, Down}
use Rattle.lift_base.specs.declared.history.Content.{Content}
use Rattle.lift_base.specs.declared.history.Content.TheVariants.{Letter, Stopped}
use Rattle.lift_base.specs.declared.history.Last.{Last as LastValue}
use Rattle.lift_base.specs.declared.history.Row.{Row as RowValue}
use Rattle.lift_base.specs.declared.history.Entry.TheVariants.{Allot, Stop}
use Rattle.lift_base.specs.declared.history.Record.{Record}
use Rattle.lift_base.specs.declared.history.Record.TheVariants.{Entry, Row, Last, Done}
use Rattle.lift_base.specs.Records.{IsRecord, IsLawfulLast}
use Rattle.lift_record.specs.declared.headers.Header.{Header}
use Rattle.lift_record.specs.declared.version.Version.{Version}
use Rattle.lift_record.specs.declared.version.Version.TheVariants.{One, Two}
use Rattle.lift_record.specs.Version.{version_number, party_byte, IsSayableParty}
use Rattle.lift_record.specs.Record.{IsSayable, IsSayableContent, record_bytes, dir_byte}
use Rattle.lift_record.specs.Record.{status_byte, last_bytes, spelling_of, IsSpellingOf}
use Rattle.lift_record.specs.Header.{header_bytes}

pub length-spelling_of : (version : Version) (content : Record)
    → length (spelling_of version content) ≡ 16
length-spelling_of version (Entry (Allot kiosk number from to car party)) = refl
length-spelling_of version (Entry (Stop car number floor dir)) = refl
length-spelling_of version (Row row) = refl
length-spelling_of version (Last terminal last) = by_content last.content
  where
    by_content : (content : Content)
        → length (record_bytes 5 terminal (last_bytes version content) last.number) ≡ 16
    by_content (Letter from to car party) = refl
    by_content (Stopped floor dir) = refl
length-spelling_of version (Done count) = refl

pub length-header_bytes : (version : Version) (count number : ℕ)
    → length (header_bytes version count number) ≡ 16
length-header_bytes version count number = refl

number_at : List ℕ → ℕ
number_at bytes = from_be_bytes w32 (take 4 (drop 8 bytes))

-- the number is read back from the bytes
number_unique : (first second : ℕ) → first < 2 ^ 32 → second < 2 ^ 32
    → to_be_bytes w32 first ≡ to_be_bytes w32 second → first ≡ second
number_unique first second one two same =
    sym (from_be_bytes-to_be_bytes_4 first one) ∙ ap
    (from_be_bytes w32) same ∙ from_be_bytes-to_be_bytes_4 second two

party_unique : (version : Version) (first second : ℕ) → IsSayableParty version first
    → IsSayableParty version second
    → party_byte version first ≡ party_byte version second → first ≡ second
party_unique One first second one two same = one ∙ sym two
party_unique Two first second one two same = same

status_unique : (first second : Bool) → status_byte first ≡ status_byte second → first ≡ second
status_unique false false same = refl
status_unique false true same = absurd (cc)
status_unique true false same = absurd (cc)
status_unique true true same = refl

dir_unique : (first second : Dir) → dir_byte first ≡ dir_byte second → first ≡ second
dir_unique Up Up same = refl
dir_unique Up Down same = absurd (cc)
dir_unique Down Up same = absurd (cc)
dir_unique Down Down same = refl

abbrev byte_at : List ℕ → ℕ → ℕ
byte_at bytes i = get_or bytes i 0

abbrev row_of : (kiosk number from to car party : ℕ) → Bool → RowValue
row_of k n f t c p b = record {
  kiosk = k;
  number = n;
  from = f;
  to = t;
  car = c;
  party = p;
  aboard = b;
}

-- records of the logic with equal fields are equal
row_unique : (first second : RowValue) → first.kiosk ≡ second.kiosk → first.number ≡ second.number
    → first.from ≡ second.from
    → first.to ≡ second.to → first.car ≡ second.car → first.party ≡ second.party
    → first.aboard ≡ second.aboard → first ≡ second
row_unique first second a b c d e f g =
    ap (λ (x : ℕ). row_of x first.number first.from first.to first.car first.party first.aboard) a
    ∙ ap (λ (x : ℕ). row_of second.kiosk x first.from first.to first.car first.party first.aboard) b
    ∙ ap (λ (x : ℕ). row_of second.kiosk second.number x first.to first.car first.party
    first.aboard) c
    ∙ ap (λ (x : ℕ). row_of second.kiosk second.number second.from x first.car first.party
    first.aboard) d
    ∙ ap (λ (x : ℕ). row_of second.kiosk second.number second.from second.to x first.party
    first.aboard) e
    ∙ ap (λ (x : ℕ). row_of second.kiosk second.number second.from second.to second.car x
    first.aboard) f
    ∙ ap (λ (x : Bool). row_of second.kiosk second.number second.from second.to second.car
    second.party x) g

abbrev last_with : ℕ → Content → LastValue
last_with n c = record { number = n; content = c }

last_unique : (first second : LastValue) → first.number ≡ second.number
    → first.content ≡ second.content → first ≡ second
last_unique first second a b =
    ap (λ (x : ℕ). last_with x first.content) a ∙ ap (λ (x : Content). last_with second.number x) b

abbrev header_of : Version → (count number : ℕ) → Header
header_of v c n = record { version = v; count = c; number = n }

content_unique : (version : Version) (terminal number other : ℕ) (first second : Content)
    → IsLawfulLast terminal number first → IsLawfulLast terminal other second
    → IsSayableContent version first → IsSayableContent version second
    → last_bytes version first ≡ last_bytes version second → first ≡ second
content_unique version terminal number other (Letter from to car party)
    (Letter from2 to2 car2 party2) a b c d same =
    let parties : party ≡ party2 =
    party_unique version party party2 c d (ap (λ l. byte_at l 3) same) in
    let froms : from ≡ from2 = ap (λ l. byte_at l 0) same in
    let tos : to ≡ to2 = ap (λ l. byte_at l 1) same in
    let cars : car ≡ car2 = ap (λ l. byte_at l 2) same in
    cc
content_unique version terminal number other (Letter from to car party)
    (Stopped floor dir) a b c d same = absurd (omega (arith, a.of_kiosk, b.of_car))
content_unique version terminal number other (Stopped floor dir)
    (Letter from to car party) a b c d same = absurd (omega (arith, a.of_car, b.of_kiosk))
content_unique version terminal number other (Stopped floor dir)
    (Stopped floor2 dir2) a b c d same =
    let floors : floor ≡ floor2 = ap (λ l. byte_at l 0) same in
    let dirs : dir ≡ dir2 = dir_unique dir dir2 (ap (λ l. byte_at l 1) same) in
    cc

pub spelling_of_unique : (version : Version) (first second : Record) → IsRecord first
    → IsRecord second
    → IsSayable version first → IsSayable version second
    → spelling_of version first ≡ spelling_of version second → first ≡ second
spelling_of_unique version (Entry (Allot kiosk number from to car party))
    (Entry (Allot kiosk2 number2 from2 to2 car2 party2)) a b c d same =
    let kiosks : kiosk ≡ kiosk2 = ap (λ l. byte_at l 1) same in
    let froms : from ≡ from2 = ap (λ l. byte_at l 2) same in
    let tos : to ≡ to2 = ap (λ l. byte_at l 3) same in
    let cars : car ≡ car2 = ap (λ l. byte_at l 4) same in
    let parties : party ≡ party2 =
    party_unique version party party2 c d (ap (λ l. byte_at l 5) same) in
    let numbers : number ≡ number2 =
    number_unique number number2 (omega (arith, a.0.0.number_range))
    (omega (arith, b.0.0.number_range)) (ap (λ l. take 4 (drop 8 l)) same) in
    cc
spelling_of_unique version (Entry (Stop car number floor dir))
    (Entry (Stop car2 number2 floor2 dir2)) a b c d same =
    let cars : car ≡ car2 = ap (λ l. byte_at l 1) same in
    let floors : floor ≡ floor2 = ap (λ l. byte_at l 2) same in
    let dirs : dir ≡ dir2 = dir_unique dir dir2 (ap (λ l. byte_at l 3) same) in
    let numbers : number ≡ number2 =
    number_unique number number2 (omega (arith, a.0.0.number_range))
    (omega (arith, b.0.0.number_range)) (ap (λ l. take 4 (drop 8 l)) same) in
    cc
spelling_of_unique version (Row row) (Row row2) a b c d same =
    let kiosks : row.kiosk ≡ row2.kiosk = ap (λ l. byte_at l 1) same in
    let froms : row.from ≡ row2.from = ap (λ l. byte_at l 2) same in
    let tos : row.to ≡ row2.to = ap (λ l. byte_at l 3) same in
    let cars : row.car ≡ row2.car = ap (λ l. byte_at l 4) same in
    let parties : row.party ≡ row2.party =
    party_unique version row.party row2.party c d (ap (λ l. byte_at l 5) same) in
    let aboards : row.aboard ≡ row2.aboard =
    status_unique row.aboard row2.aboard (ap (λ l. byte_at l 6) same) in
    let numbers : row.number ≡ row2.number =
    number_unique row.number row2.number (omega (arith, a.0.0.number_range))
    (omega (arith, b.0.0.number_range)) (ap (λ l. take 4 (drop 8 l)) same) in
    let rows : row ≡ row2 = row_unique row row2 kiosks numbers froms tos cars parties aboards in
    ap (λ (r : RowValue). Row r) rows
spelling_of_unique version (Last terminal last) (Last terminal2 last2) a b c d same =
    let terminals : terminal ≡ terminal2 = ap (λ l. byte_at l 1) same in
    let texts : last_bytes version last.content ≡ last_bytes version last2.content =
    sym (text_is terminal last) ∙ ap (λ l. take 5 (drop 2 l)) same ∙ text_is terminal2 last2 in
    let numbers : last.number ≡ last2.number =
    number_unique last.number last2.number (omega (arith, a.0.0.number_range))
    (omega (arith, b.0.0.number_range))
    (sym (number_is terminal last) ∙ ap (λ l.
    take 4 (drop 8 l)) same ∙ number_is terminal2 last2) in
    let lawful : IsLawfulLast terminal last2.number last2.content =
    subst (λ t. IsLawfulLast t last2.number last2.content) (sym terminals) b.1 in
    let contents : last.content ≡ last2.content =
    content_unique version terminal last.number last2.number last.content last2.content a.1
    lawful c d texts in
    ap (λ (t : ℕ). Last t last) terminals ∙ ap (λ (l : LastValue).
    Last terminal2 l) (last_unique last last2 numbers contents)
  where
    text_is : (t : ℕ) (l : LastValue)
        → take 5 (drop 2 (record_bytes 5 t (last_bytes version l.content) l.number))
        ≡ last_bytes version l.content
    text_is t l = of_content l.content
      where
        of_content : (content : Content)
            → take 5 (drop 2 (record_bytes 5 t (last_bytes version content) l.number))
            ≡ last_bytes version content
        of_content (Letter from to car party) = refl
        of_content (Stopped floor dir) = refl

    number_is : (t : ℕ) (l : LastValue)
        → take 4 (drop 8 (record_bytes 5 t (last_bytes version l.content) l.number))
        ≡ to_be_bytes w32 l.number
    number_is t l = of_content l.content
      where
        of_content : (content : Content)
            → take 4 (drop 8 (record_bytes 5 t (last_bytes version content) l.number))
            ≡ to_be_bytes w32 l.number
        of_content (Letter from to car party) = refl
        of_content (Stopped floor dir) = refl
spelling_of_unique version (Done count) (Done count2) a b c d same =
    let counts : count ≡ count2 =
    number_unique count count2 a.0 b.0 (ap (λ l. take 4 (drop 8 l)) same) in
    cc
spelling_of_unique version first (Entry (Allot kiosk number from to car party)) a b c d same =
    absurd (cc same)
spelling_of_unique version first (Entry (Stop car number floor dir)) a b c d same = absurd (cc same)
spelling_of_unique version first second a b c d same = absurd (cc same)

pub spelling_unique : (version : Version) (bytes : List ℕ) (first second : Record)
    → IsSpellingOf version bytes first → IsSpellingOf version bytes second → first ≡ second
spelling_unique version bytes first second one two =
    spelling_of_unique version first second (one.typed, one.lawful)
    (two.typed, two.lawful) one.sayable two.sayable (sym one.spelled ∙ two.spelled)

pub version_unique : (first second : Version) → version_number first ≡ version_number second
    → first ≡ second
version_unique One One same = refl
version_unique One Two same = absurd (cc)
version_unique Two One same = absurd (cc)
version_unique Two Two same = refl

pub header_versions : (version other : Version) (count counted number numbered : ℕ)
    → header_bytes version count number ≡ header_bytes other counted numbered
    → version ≡ other
header_versions version other count counted number numbered same =
    version_unique version other (ap (λ l. byte_at l 2) same)

pub header_counts : (version other : Version) (count counted number numbered : ℕ) → count < 2 ^ 16
    → counted < 2 ^ 16
    → header_bytes version count number ≡ header_bytes other counted numbered → count ≡ counted
header_counts version other count counted number numbered a b same =
    sym (from_be_bytes-to_be_bytes_2 count a) ∙ ap (λ l.
    from_be_bytes w16 (take 2 (drop 4 l))) same ∙ from_be_bytes-to_be_bytes_2 counted b
