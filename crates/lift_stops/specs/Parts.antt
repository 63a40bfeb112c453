-- How lists of halts compare.
use Rattle.std.specs.Prelude.{◌≡◌, ◌||◌, Bool, true, false, List, [], ◌∷◌}
use Rattle.lift_base.specs.declared.travel.Halt.{Halt}
use Rattle.lift_stops.specs.StopList.{same_halt}

-- the halt stands in the list
abbrev pub has_halt : Halt → List Halt → Bool
has_halt halt [] = false
has_halt halt (other ∷ others) = same_halt other halt || has_halt halt others

-- no halt stands twice
abbrev pub AllDiffer : List Halt → Type 0
AllDiffer [] = Unit {0}
AllDiffer (halt ∷ halts) =
    ((other : Halt) → same_halt halt other ≡ true → has_halt other halts ≡ false) × AllDiffer halts
