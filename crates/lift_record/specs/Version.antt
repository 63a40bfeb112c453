-- The two versions of the format: the first knows no parties, each of its calls is for one person.
use Rattle.std.specs.Prelude.{ℕ, ◌≡◌}
use Rattle.lift_record.specs.declared.version.Version.{Version}
use Rattle.lift_record.specs.declared.version.Version.TheVariants.{One, Two}

abbrev pub version_number : Version → ℕ
version_number One = 1
version_number Two = 2

-- the byte that spells a party; the first version leaves it zero
abbrev pub party_byte : Version → ℕ → ℕ
party_byte One party = 0
party_byte Two party = party

-- a party that the version can say
abbrev pub IsSayableParty : Version → ℕ → Type 0
IsSayableParty One party = party ≡ 1
IsSayableParty Two party = Unit {0}
