-- The calls of a device in memory by which its sectors were changed or made safe.
use Rattle.std.specs.Prelude.{◌≡◌, ◌⊎◌, ◌+◌, ℕ, Bool, List, [], ◌∷◌, refl}
use Rattle.std.specs.Coded.{Coded, code_by, coded×, coded⊎, coded_ℕ, coded_bool, coded_list}
use mathlib.Core.Logic.{inl, inr}
use Rattle.lift_disk.specs.Disk.{Image}

-- a call that has succeeded
pub data Call : Type 0 where
  -- the sector, and what was written to it
  Write : ℕ → List ℕ → Call
  -- whether each sector was loose until then
  Sync : List Bool → Call

-- how the logic stores a call
abbrev pub to_parts : Call → (ℕ × List ℕ) ⊎ List Bool
to_parts (Write sector bytes) = inl (sector, bytes)
to_parts (Sync loose) = inr loose

abbrev pub of_parts : (ℕ × List ℕ) ⊎ List Bool → Call
of_parts (inl written) = Write written.0 written.1
of_parts (inr loose) = Sync loose

abbrev pub there_and_back : (call : Call) → of_parts (to_parts call) ≡ call
there_and_back (Write sector bytes) = refl
there_and_back (Sync loose) = refl

abbrev pub calls_code : Coded (List Call)
calls_code = coded_list (code_by ((ℕ × List ℕ)
    ⊎ List Bool) (coded⊎ (coded× coded_ℕ (coded_list coded_ℕ)) (coded_list coded_bool)) to_parts
    of_parts there_and_back)

abbrev pub image_code : Coded Image
image_code = coded_list (coded_list coded_ℕ)

-- the writes of these sectors, from that one on
abbrev pub writes_of : ℕ → List (List ℕ) → List Call
writes_of from [] = []
writes_of from (bytes ∷ run) = Write from bytes ∷ writes_of (from + 1) run
