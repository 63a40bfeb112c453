-- The calls of a device that have succeeded, in their order.
use Rattle.std.specs.Prelude.{◌≡◌, ◌++◌, ◌==◌, [], ◌∷◌, ℕ, List, Result, OnOk, OnErr, refl, cond}
use Rattle.std.specs.Coded.{Coded, code_by, coded×, coded_ℕ, coded_list}

-- a call, by its sector; a write of several has their bytes one after the other
pub data Access : Type 0 where
  Read : ℕ → Access
  Write : ℕ → List ℕ → Access
  Sync : Access

-- how the logic stores a call
abbrev pub to_parts : Access → ℕ × (ℕ × List ℕ)
to_parts (Read place) = (0, (place, []))
to_parts (Write place bytes) = (1, (place, bytes))
to_parts Sync = (2, (0, []))

abbrev pub of_parts : ℕ × (ℕ × List ℕ) → Access
of_parts p = cond (p.0 == 0) (Read p.1.0) (cond (p.0 == 1) (Write p.1.0 p.1.1) Sync)

pub there_and_back : (a : Access) → of_parts (to_parts a) ≡ a
there_and_back (Read place) = refl
there_and_back (Write place bytes) = refl
there_and_back Sync = refl

abbrev pub access_code : Coded Access
access_code = code_by (ℕ
    × (ℕ × List ℕ)) (coded× coded_ℕ (coded× coded_ℕ (coded_list coded_ℕ))) to_parts of_parts
    there_and_back

abbrev pub trace_code : Coded (List Access)
trace_code = coded_list access_code

-- one call more if it succeeded, else none
pub record Records {T E : Type 0} (result : Result T E) (call : Access)
    (old new : List Access) : Type 0 where
  pub ok : OnOk result (new ≡ old ++ call ∷ [])
  pub err : OnErr result (new ≡ old)
