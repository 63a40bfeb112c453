use Rattle.std.specs.Prelude.{ℕ, ◌≡◌, ◌<◌, ◌≤◌, ◌^◌, List, [], ◌∷◌, ◌++◌}
use Rattle.std.specs.Int.{w16, w32, to_be_bytes}
use Rattle.lift_base.specs.declared.limits.TheConstants.{MOST_ENTRIES}
use Rattle.lift_record.specs.declared.headers.Header.{Header}
use Rattle.lift_record.specs.declared.version.Version.{Version}
use Rattle.lift_record.specs.Version.{version_number}

-- the sixteen bytes of a header: a mark, the version, the count of records, and the batch's number
abbrev pub header_bytes : Version → (count number : ℕ) → List ℕ
header_bytes version count number =
    0x4C ∷ 0x42 ∷ version_number version ∷ 0
    ∷ to_be_bytes w16 count ++ 0 ∷ 0 ∷ to_be_bytes w32 number ++ 0 ∷ 0 ∷ 0 ∷ 0 ∷ []

-- the grammar of headers: these bytes are the one spelling of this header
pub record IsHeaderSpelling (bytes : List ℕ) (header : Header) : Type 0 where
  pub count_range : (1 ≤ header.count) × (header.count ≤ MOST_ENTRIES)
  pub number_range : (1 ≤ header.number) × (header.number < 2 ^ 32)
  pub spelled : bytes ≡ header_bytes header.version header.count header.number
