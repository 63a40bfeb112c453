-- What the parts of a record spell, by its kind.
use Rattle.std.proofs.Common.{◌≡◌, ◌≢◌, ◌+◌, ◌*◌, ◌/◌, ◌%◌, ◌<◌, ◌≤◌, ◌^◌, ℕ, zero, suc, false}
use Rattle.std.proofs.Common.{List, [], ◌∷◌, ◌++◌, length, take, drop, get_or, Option, Some, None}
use Rattle.std.proofs.Common.{refl, sym, ◌∙◌, ap, subst, arith, append_assoc, length-append}
use Rattle.std.proofs.Math.Seq.{take-append_seam, drop-append-add, drop-cons}
use Rattle.std.proofs.lemmas.List.{drop_all}
use Rattle.std.proofs.lemmas.Nat.{from_be_bytes-to_be_bytes_4}
use Rattle.std.specs.Int.{w32, to_be_bytes, from_be_bytes}
use Rattle.std.specs.Option.{IfSome, IfNone}
use Rattle.lift_base.specs.declared.limits.TheConstants.{FIRST_KIOSK, TOP_FLOOR}
use Rattle.lift_base.specs.declared.travel.Dir.{Dir}
use Rattle.lift_base.specs.declared.history.Content.{Content}
use Rattle.lift_base.specs.declared.history.Content.TheVariants.{Letter, Stopped}
use Rattle.lift_base.specs.declared.history.Row.{Row as RowValue}
use Rattle.lift_base.specs.declared.history.Entry.TheVariants.{Allot, Stop}
use Rattle.lift_base.specs.declared.history.Record.{Record}
use Rattle.lift_base.specs.declared.history.Record.TheVariants.{Entry, Row, Last}
use Rattle.lift_record.specs.declared.version.Version.{Version}
use Rattle.lift_record.specs.Record.{record_bytes, stop_bytes, IsSpellingOf}
use Rattle.lift_record.specs.lemmas.Spellings.{spelling_unique}

pub if_none : {T : Type 0} {P : Type 0} (answer : Option T) → P → IfNone answer P
if_none None holds = holds
if_none (Some x) holds = tt

-- no waiting call is spelled by these parts
abbrev pub NoWaiting : Version → (terminal : ℕ) (content : List ℕ) (number : ℕ) → Type 0
NoWaiting version terminal content number = (row : RowValue) → row.aboard ≡ false
    → ¬ IsSpellingOf version (record_bytes 4 terminal content number) (Row row)

-- no stop is spelled by these parts
abbrev pub NoStop : (content : List ℕ) (number : ℕ) → Type 0
NoStop content number = (floor : ℕ) → (dir : Dir) → 1 ≤ number → number ≤ 16777215
    → floor ≤ TOP_FLOOR → content ≢ stop_bytes floor dir

-- no record is spelled by these bytes
abbrev pub NoRecord : Version → List ℕ → Type 0
NoRecord version bytes = (value : Record) → ¬ IsSpellingOf version bytes value

pub no_allot : (version : Version) (terminal : ℕ) (content : List ℕ) (number : ℕ)
    → NoWaiting version terminal content number
    → NoRecord version (record_bytes 1 terminal content number)
no_allot version terminal content number absent (Entry (Allot kiosk n from to car party)) spelling =
    absent (record {
      kiosk = kiosk;
      number = n;
      from = from;
      to = to;
      car = car;
      party = party;
      aboard = false;
    }) refl (record {
      typed = spelling.typed;
      lawful = spelling.lawful;
      sayable = spelling.sayable;
      spelled = ap (λ l. 4 ∷ drop 1 l) spelling.spelled;
    })
no_allot version terminal content number absent value spelling = cc (spelling.spelled)

content_at : List ℕ → List ℕ
content_at bytes = take 5 (drop 2 bytes)

content_back : (kind terminal : ℕ) (content : List ℕ) (number : ℕ) → length content ≡ 5
    → content_at (record_bytes kind terminal content number) ≡ content
unfolding content_at
content_back kind terminal content number long =
    let rest : List ℕ = 0 ∷ to_be_bytes w32 number in
    let zeros : List ℕ = 0 ∷ 0 ∷ 0 ∷ 0 ∷ [] in
    ap (take 5) (append_assoc content rest zeros)
    ∙ ap (λ n. take n (content ++ (rest ++ zeros))) (sym long)
    ∙ take-append_seam content (rest ++ zeros)

number_at : List ℕ → ℕ
number_at bytes = from_be_bytes w32 (take 4 (drop 8 bytes))

number_back : (kind terminal : ℕ) (content : List ℕ) (number : ℕ) → length content ≡ 5
    → number < 2 ^ 32 → number_at (record_bytes kind terminal content number) ≡ number
unfolding number_at
number_back kind terminal content number long small =
    let rest : List ℕ = 0 ∷ to_be_bytes w32 number in
    let zeros : List ℕ = 0 ∷ 0 ∷ 0 ∷ 0 ∷ [] in
    let digits : List ℕ → ℕ = λ l. from_be_bytes w32 (take 4 l) in
    ap (λ l. digits (drop 6 l)) (append_assoc content rest zeros)
    ∙ ap (λ n. digits (drop (n + 1) (content ++ (rest ++ zeros)))) (sym long)
    ∙ ap digits (drop-append-add content (rest ++ zeros) 1)
    ∙ from_be_bytes-to_be_bytes_4 number small

-- equal records have contents of one length
length_told : (kind terminal number other car n : ℕ) (content said : List ℕ)
    → record_bytes kind terminal content number ≡ record_bytes other car said n
    → length content ≡ length said
length_told kind terminal number other car n content said same =
    omega (arith, simp length-append at (ap length same))

-- a stop's record has a stop's parts
stop_told : (kind terminal number other car n floor : ℕ) (dir : Dir) (content : List ℕ)
    → number < 2 ^ 32 → NoStop content number
    → 1 ≤ n → n ≤ 16777215 → floor ≤ TOP_FLOOR
    → record_bytes kind terminal content number ≢ record_bytes other car (stop_bytes floor dir) n
stop_told kind terminal number other car n floor dir content small absent one most high same =
    let long : length content ≡ 5 =
    length_told kind terminal number other car n content (stop_bytes floor dir) same in
    let contents : content ≡ stop_bytes floor dir =
    sym (content_back kind terminal content number long) ∙ ap content_at same
    ∙ content_back other car (stop_bytes floor dir) n refl in
    let numbers : number ≡ n =
    sym (number_back kind terminal content number long small) ∙ ap number_at same
    ∙ number_back other car (stop_bytes floor dir) n refl (omega arith) in
    absent floor dir (omega arith) (omega arith) high contents

pub no_stop : (version : Version) (terminal : ℕ) (content : List ℕ) (number : ℕ)
    → number < 2 ^ 32 → NoStop content number
    → NoRecord version (record_bytes 2 terminal content number)
no_stop version terminal content number small absent (Entry (Stop car n floor dir)) spelling =
    stop_told 2 terminal number 2 car n floor dir content small absent spelling.lawful
    spelling.typed.0.number_range spelling.typed.2 spelling.spelled
no_stop version terminal content number small absent value spelling = cc (spelling.spelled)

last_call_told : (version : Version) (terminal : ℕ) (content : List ℕ) (number : ℕ)
    → FIRST_KIOSK ≤ terminal → NoWaiting version terminal content number
    → (t n : ℕ) (said : Content)
    → ¬ IsSpellingOf version (record_bytes 5 terminal content number) (Last t (record {
      number = n;
      content = said;
    }))
last_call_told version terminal content number kiosk absent t n (Letter from to car party)
    spelling =
    absent (record {
      kiosk = t;
      number = n;
      from = from;
      to = to;
      car = car;
      party = party;
      aboard = false;
    }) refl (record {
      typed = spelling.typed;
      lawful = spelling.lawful;
      sayable = spelling.sayable;
      spelled = ap (λ l. 4 ∷ drop 1 l) spelling.spelled;
    })
last_call_told version terminal content number kiosk absent t n (Stopped floor dir) spelling =
    let terminals : terminal ≡ t = ap (λ l. get_or l 1 0) spelling.spelled in
    omega (arith, spelling.lawful.of_car)

last_stop_told : (version : Version) (terminal : ℕ) (content : List ℕ) (number : ℕ)
    → terminal < FIRST_KIOSK → number < 2 ^ 32 → NoStop content number
    → (t n : ℕ) (said : Content)
    → ¬ IsSpellingOf version (record_bytes 5 terminal content number) (Last t (record {
      number = n;
      content = said;
    }))
last_stop_told version terminal content number car small absent t n (Letter from to c party)
    spelling =
    let terminals : terminal ≡ t = ap (λ l. get_or l 1 0) spelling.spelled in
    omega (arith, spelling.lawful.of_kiosk)
last_stop_told version terminal content number car small absent t n (Stopped floor dir)
    spelling =
    stop_told 5 terminal number 5 t n floor dir content small absent spelling.lawful.numbered
    spelling.typed.0.number_range spelling.typed.1 spelling.spelled

pub no_last_call : (version : Version) (terminal : ℕ) (content : List ℕ) (number : ℕ)
    → FIRST_KIOSK ≤ terminal → NoWaiting version terminal content number
    → NoRecord version (record_bytes 5 terminal content number)
no_last_call version terminal content number kiosk absent (Last t last) spelling =
    last_call_told version terminal content number kiosk absent t last.number last.content spelling
no_last_call version terminal content number kiosk absent (Entry (Allot k n from to car party))
    spelling = cc (spelling.spelled)
no_last_call version terminal content number kiosk absent (Entry (Stop car n floor dir))
    spelling = cc (spelling.spelled)
no_last_call version terminal content number kiosk absent value spelling =
    cc (spelling.spelled)

pub no_last_stop : (version : Version) (terminal : ℕ) (content : List ℕ) (number : ℕ)
    → terminal < FIRST_KIOSK → number < 2 ^ 32 → NoStop content number
    → NoRecord version (record_bytes 5 terminal content number)
no_last_stop version terminal content number car small absent (Last t last) spelling =
    last_stop_told version terminal content number car small absent t last.number
    last.content spelling
no_last_stop version terminal content number car small absent (Entry (Allot kiosk n from to c party))
    spelling = cc (spelling.spelled)
no_last_stop version terminal content number car small absent (Entry (Stop c n floor dir))
    spelling = cc (spelling.spelled)
no_last_stop version terminal content number car small absent value spelling =
    cc (spelling.spelled)

-- so many bytes from a place on
spread : (count place : ℕ) → List ℕ → List ℕ
spread zero place bytes = []
spread (suc count) place bytes = get_or bytes place 0 ∷ spread count (suc place) bytes

drop_spread : (count place : ℕ) (bytes : List ℕ) → length bytes ≡ place + count
    → drop place bytes ≡ spread count place bytes
unfolding spread
drop_spread zero place bytes long = drop_all place bytes (omega arith)
drop_spread (suc count) place bytes long =
    drop-cons bytes place 0 (omega arith)
    ∙ ap (λ l. get_or bytes place 0 ∷ l) (drop_spread count (suc place) bytes (omega arith))

digits : (a b c d number : ℕ) → a < 256 → b < 256 → c < 256 → d < 256
    → number ≡ a * 16777216 + b * 65536 + c * 256 + d
    → to_be_bytes w32 number ≡ a ∷ b ∷ c ∷ d ∷ []
digits a b c d number one two three four is =
    let first : number / 16777216 % 256 ≡ a = omega arith in
    let second : number / 65536 % 256 ≡ b = omega arith in
    let third : number / 256 % 256 ≡ c = omega arith in
    let fourth : number % 256 ≡ d = omega arith in
    cc

pub bytes_of_parts : (bytes : List ℕ) (number : ℕ) → length bytes ≡ 16
    → ((i : ℕ) → get_or bytes i 0 < 256)
    → number ≡ get_or bytes 8 0 * 16777216 + get_or bytes 9 0 * 65536 + get_or bytes 10 0 * 256
    + get_or bytes 11 0
    → get_or bytes 7 0 ≡ 0 → get_or bytes 12 0 ≡ 0 → get_or bytes 13 0 ≡ 0
    → get_or bytes 14 0 ≡ 0 → get_or bytes 15 0 ≡ 0
    → bytes ≡ record_bytes (get_or bytes 0 0) (get_or bytes 1 0) (get_or bytes 2 0
    ∷ get_or bytes 3 0 ∷ get_or bytes 4 0 ∷ get_or bytes 5 0 ∷ get_or bytes 6 0 ∷ []) number
unfolding spread
bytes_of_parts bytes number long fits is seven twelve thirteen fourteen fifteen =
    let spelled = digits (get_or bytes 8 0) (get_or bytes 9 0) (get_or bytes 10 0)
    (get_or bytes 11 0) number (fits 8) (fits 9) (fits 10) (fits 11) is in
    drop_spread 16 0 bytes long ∙ cc

-- what was read of the parts is what the bytes spell
pub read_is_exact : (version : Version) (bytes parts : List ℕ) (answer : Option Record)
    → bytes ≡ parts → IfSome answer (λ value. IsSpellingOf version parts value)
    → IfNone answer (NoRecord version parts) → (content : Record)
    → (answer ≡ Some content → IsSpellingOf version bytes content)
    × (IsSpellingOf version bytes content → answer ≡ Some content)
read_is_exact version bytes parts None same some none content = (
  λ is. absurd (cc is),
  λ spelling.
      absurd (none content (subst (λ l. IsSpellingOf version l content) same spelling)),
)
read_is_exact version bytes parts (Some value) same some none content = (
  λ is. let same_value : value ≡ content = cc is in
      subst (λ l. IsSpellingOf version l content) (sym same)
      (subst (λ v. IsSpellingOf version parts v) same_value some),
  λ spelling.
      ap Some (spelling_unique version parts value content some
      (subst (λ l. IsSpellingOf version l content) same spelling)),
)
