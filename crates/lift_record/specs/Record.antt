-- How a record is spelled in sixteen bytes: in each version, each record that it can say has one
-- spelling.
use Rattle.std.specs.Prelude.{ℕ, ◌≡◌, Bool, true, false, List, [], ◌∷◌, ◌++◌}
use Rattle.std.specs.Int.{w32, to_be_bytes}
use Rattle.lift_base.specs.declared.travel.Dir.{Dir}
use Rattle.lift_base.specs.declared.travel.Dir.TheVariants.{Up, Down}
use Rattle.lift_base.specs.declared.history.Content.{Content}
use Rattle.lift_base.specs.declared.history.Content.TheVariants.{Letter, Stopped}
use Rattle.lift_base.specs.declared.history.Entry.TheVariants.{Allot, Stop}
use Rattle.lift_base.specs.declared.history.Record.{Record}
use Rattle.lift_base.specs.declared.history.Record.TheVariants.{Entry, Row, Last, Done}
use Rattle.lift_base.specs.Records.{IsTyped, IsLawful}
use Rattle.lift_record.specs.declared.version.Version.{Version}
use Rattle.lift_record.specs.Version.{party_byte, IsSayableParty}

abbrev pub IsSayableContent : Version → Content → Type 0
IsSayableContent version (Letter from to car party) = IsSayableParty version party
IsSayableContent version (Stopped floor dir) = Unit {0}

-- a record that the version can say
abbrev pub IsSayable : Version → Record → Type 0
IsSayable version (Entry (Allot kiosk number from to car party)) = IsSayableParty version party
IsSayable version (Entry (Stop car number floor dir)) = Unit {0}
IsSayable version (Row row) = IsSayableParty version row.party
IsSayable version (Last terminal last) = IsSayableContent version last.content
IsSayable version (Done count) = Unit {0}

-- the sixteen bytes of a record: its kind, its terminal, five bytes of content, and its number
abbrev pub record_bytes : (kind terminal : ℕ) (content : List ℕ) (number : ℕ) → List ℕ
record_bytes kind terminal content number =
    kind ∷ terminal ∷ content ++ 0 ∷ to_be_bytes w32 number ++ 0 ∷ 0 ∷ 0 ∷ 0 ∷ []

abbrev pub dir_byte : Dir → ℕ
dir_byte Up = 0
dir_byte Down = 1

abbrev pub status_byte : Bool → ℕ
status_byte false = 0
status_byte true = 1

-- what a call's record says; it ends with whether the passengers are aboard
abbrev pub call_bytes : Version → (from to car party : ℕ) → Bool → List ℕ
call_bytes version from to car party aboard =
    from ∷ to ∷ car ∷ party_byte version party ∷ status_byte aboard ∷ []

-- what a stop's record says
abbrev pub stop_bytes : (floor : ℕ) → Dir → List ℕ
stop_bytes floor dir = floor ∷ dir_byte dir ∷ 0 ∷ 0 ∷ 0 ∷ []

abbrev pub last_bytes : Version → Content → List ℕ
last_bytes version (Letter from to car party) = call_bytes version from to car party false
last_bytes version (Stopped floor dir) = stop_bytes floor dir

-- how each kind of record is spelled
abbrev pub spelling_of : Version → Record → List ℕ
spelling_of version (Entry (Allot kiosk number from to car party)) =
    record_bytes 1 kiosk (call_bytes version from to car party false) number
spelling_of version (Entry (Stop car number floor dir)) =
    record_bytes 2 car (stop_bytes floor dir) number
spelling_of version (Row row) =
    record_bytes 4 row.kiosk (call_bytes version row.from row.to row.car row.party row.aboard)
    row.number
spelling_of version (Last terminal last) =
    record_bytes 5 terminal (last_bytes version last.content) last.number
spelling_of version (Done count) = record_bytes 6 0 (0 ∷ 0 ∷ 0 ∷ 0 ∷ 0 ∷ []) count

-- the grammar: in this version these bytes are the one spelling of this record, which the journal
-- may hold
pub record IsSpellingOf (version : Version) (bytes : List ℕ) (content : Record) : Type 0 where
  pub typed : IsTyped content
  pub lawful : IsLawful content
  pub sayable : IsSayable version content
  pub spelled : bytes ≡ spelling_of version content
