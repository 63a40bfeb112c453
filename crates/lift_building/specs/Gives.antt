-- What a function returned, seen by view, beside what reading gives.
use Rattle.std.specs.Prelude.{◌≡◌, ℕ, List, Result, Ok, Err, MatchResult}
use Rattle.lift_building.specs.Plan.{Plan, IsFirstDetour}
use Rattle.lift_building.specs.Reading.{plan_of}
use Rattle.lift_building.specs.declared.fault.BuildingFault.{BuildingFault}
use Rattle.lift_building.specs.declared.fault.BuildingFault.TheVariants.{Detour, Memory}

abbrev pub Gives : {X Y : Type 0} → (X → Y) → Result X BuildingFault → Result Y BuildingFault
    → Type 0
Gives view (Ok x) read = read ≡ Ok (view x)
Gives view (Err fault) read = read ≡ Err fault

-- nothing is said of a want of memory
abbrev pub Fails : {Y : Type 0} → BuildingFault → Result Y BuildingFault → Type 0
Fails (Memory no_memory) read = Unit {0}
Fails fault read = read ≡ Err fault

-- the same, where memory did not run out
abbrev pub GivesIfRoom : {X Y : Type 0} → (X → Y) → Result X BuildingFault → Result Y BuildingFault
    → Type 0
GivesIfRoom view (Ok x) read = read ≡ Ok (view x)
GivesIfRoom view (Err fault) read = Fails fault read

-- the fault names the first detour of a plan
abbrev pub NamesDetour : Plan → BuildingFault → Type 0
NamesDetour plan (Detour i j k) = IsFirstDetour plan i j k
NamesDetour plan _ = ⊥

-- The fault is the first one of the keys that were read. Where these have none, it is the first
-- detour of what they describe.
abbrev pub IsFaultOf : Result Plan BuildingFault → BuildingFault → Type 0
IsFaultOf read fault = MatchResult read (λ plan. NamesDetour plan fault) (λ first. fault ≡ first)

-- the same of a text
abbrev pub IsFirstFault : List ℕ → BuildingFault → Type 0
IsFirstFault text fault = IsFaultOf (plan_of text) fault
