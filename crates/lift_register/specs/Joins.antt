-- How registers of lists of entries go together.
use Rattle.std.specs.Prelude.{◌≡◌, ◌↔◌, List, [], ◌++◌}
use Rattle.lift_base.specs.declared.history.Entry.{Entry}
use Rattle.lift_building.specs.Plan.{Plan}
use Rattle.lift_register.specs.Register.{RegisterState, register_of}
use Rattle.lift_register.specs.WellFormed.{IsWellFormed}
use Rattle.lift_register.specs.Fits.{FitFrom}

-- the register of a first list, as the base of a later one, is that of both
abbrev pub RegistersJoin : Type 0
RegistersJoin = (base : RegisterState) (first later : List Entry)
    → register_of (register_of base first) later ≡ register_of base (first ++ later)

-- no entries change nothing
abbrev pub NothingChangesNothing : Type 0
NothingChangesNothing = (register : RegisterState) → IsWellFormed register
    → register_of register [] ≡ register

-- two lists fit one after the other exactly where the first fits, and the later one after it
abbrev pub FittingJoins : Type 0
FittingJoins = (plan : Plan) (register : RegisterState) (first later : List Entry)
    → IsWellFormed register
    → FitFrom plan register (first ++ later)
    ↔ (FitFrom plan register first × FitFrom plan (register_of register first) later)
