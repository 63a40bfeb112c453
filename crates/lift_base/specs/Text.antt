-- The texts that scripts, reports and sessions share.
use Rattle.std.specs.Prelude.{ℕ, ◌≡◌, ◌≢◌, ◌<◌, ◌+◌, ◌-◌, ◌⊎◌, List, [], ◌∷◌, ◌++◌, codes, length}
use Rattle.std.specs.Prelude.{slice_index, Option, Some, None, nat_lt, if◌then◌else◌}
use Rattle.std.specs.Fmt.{decimal}
use Rattle.std.specs.List.{AllByRecursion}
use Rattle.lift_base.specs.Command.{reason_number}
use Rattle.lift_base.specs.declared.command.Reply.{Reply}
use Rattle.lift_base.specs.declared.command.Reply.TheVariants.{Car, Stopped, Placed, Refused}
use Rattle.lift_base.specs.declared.command.Reply.TheVariants.{Unknown}
use Rattle.lift_base.specs.declared.limits.TheConstants.{FIRST_KIOSK}
use Rattle.lift_base.specs.declared.travel.Stop.{Stop}
use Rattle.lift_base.specs.declared.travel.Dir.{Dir}
use Rattle.lift_base.specs.declared.travel.Dir.TheVariants.{Up, Down}

-- no sign, and no 0 in front of other digits
pub record IsPlain (word : List ℕ) : Type 0 where
  pub some : 0 < length word
  pub unsigned : slice_index word 0 ≢ 43
  pub shortest : slice_index word 0 ≡ 48 → length word ≡ 1

abbrev pub HasNoSpace : List ℕ → Type 0
HasNoSpace word = AllByRecursion (λ byte. byte ≢ 32) word

-- words with one space between each two
abbrev pub spaced : List (List ℕ) → List ℕ
spaced [] = []
spaced (word ∷ []) = word
spaced (word ∷ other ∷ words) = word ++ (32 ∷ spaced (other ∷ words))

-- the words of a line: it has at least one, which may be empty
pub record AreWords (line : List ℕ) (words : List (List ℕ)) : Type 0 where
  pub some : 0 < length words
  pub apart : AllByRecursion HasNoSpace words
  pub joined : line ≡ spaced words

-- cars are written A to P
abbrev pub letter_text : ℕ → List ℕ
letter_text car = (65 + car) ∷ []

abbrev pub dir_text : Dir → List ℕ
dir_text Up = codes "up"
dir_text Down = codes "down"

-- the last words of a call's line, its party: absent means 1
abbrev pub ArePartyWords : List (List ℕ) → ℕ → Type 0
ArePartyWords words party = (words ≡ decimal party ∷ []) ⊎ ((words ≡ []) × (party ≡ 1))

-- and kiosks K0 to K46
abbrev pub terminal_text : ℕ → List ℕ
terminal_text terminal =
    if nat_lt terminal FIRST_KIOSK then letter_text terminal
    else codes "K" ++ decimal (terminal - FIRST_KIOSK)

-- a car's next stop, as it is answered
abbrev pub next_text : Option Stop → List ℕ
next_text None = codes "IDLE"
next_text (Some stop) = codes "NEXT " ++ decimal stop.floor ++ 32 ∷ dir_text stop.dir

-- an answer, as reports and sessions write it
abbrev pub reply_text : Reply → List ℕ
reply_text (Car car) = codes "CAR " ++ letter_text car
reply_text (Stopped next) = next_text next
reply_text (Placed next) = next_text next
reply_text (Refused reason) = codes "NO " ++ decimal (reason_number reason)
reply_text Unknown = codes "UNKNOWN"
