-- A policy by which cars that are absent come last.
use Rattle.std.specs.Prelude.{ℕ, ◌==◌, Bool, true, false, List, [], ◌∷◌, filter}
use Rattle.std.specs.Int.{bit_at}
use Rattle.lift_policy.specs.Eligible.{Choice}
use Rattle.lift_policy.specs.declared.dispatching.Dispatching.{Dispatching}
use Rattle.lift_policy.specs.declared.presence.CarSet.{CarSet}

-- whether a car is one of these
abbrev pub is_in : CarSet → ℕ → Bool
is_in cars car = bit_at cars.bits car == 1

-- some cars, or where there are none of these, all
abbrev pub or_all : (some all : List ℕ) → List ℕ
or_all [] all = all
or_all (car ∷ some) all = car ∷ some

-- those of the cars that are present; where none of them is, all
abbrev pub present_first : CarSet → List ℕ → List ℕ
present_first present letters = or_all (filter (is_in present) letters) letters

-- whatever cars are told, as where nobody knows what is told
abbrev pub any_cars : CarSet → Type 0
any_cars cars = Unit {0}

-- what a policy may name of the eligible cars that are present, as that was told; where none of them
-- is present, of all
abbrev pub NamesPresent : (CarSet → Type 0) → Choice → Choice
NamesPresent tells choice plan view call eligible car = (present : CarSet) × tells present
    × choice plan view call (present_first present eligible) car

-- a policy's own choice; or, where absent cars come last, that of the present ones
abbrev pub AbsentLastWhere : (absent_last : Bool) → (CarSet → Type 0) → Choice → Choice
AbsentLastWhere false tells choice = choice
AbsentLastWhere true tells choice = NamesPresent tells choice

-- the choice of a group that dispatches so
abbrev pub IsDispatched : {P : Type 0} → (CarSet → Type 0) → (P → Choice) → Dispatching P → Choice
IsDispatched tells chooses dispatching =
    AbsentLastWhere dispatching.absent_last tells (chooses dispatching.policy)
