-- The records of a checkpoint, and the register that they spell.
use Rattle.std.specs.Prelude.{ℕ, ◌≡◌, ◌+◌, List, [], ◌∷◌, ◌++◌, map, slice_set, Option, Some, None}
use Rattle.std.specs.List.{flat_map}
use Rattle.lift_building.specs.Plan.{Plan}
use Rattle.lift_base.specs.Records.{IsLawful}
use Rattle.lift_base.specs.declared.history.Last.{Last as LastCommand}
use Rattle.lift_base.specs.declared.history.Record.{Record}
use Rattle.lift_base.specs.declared.history.Record.TheVariants.{Entry, Row, Last, Done}
use Rattle.lift_register.specs.Register.{RegisterState, rows_of, last_of, cars, terminals}
use Rattle.lift_register.specs.Fits.{IsPossibleCall, IsPossibleLast, HasPlace}
use Rattle.lift_register.specs.Balanced.{open_count, numbered_calls}

-- the record of a terminal's last command, if it has one
abbrev pub record_of_last : ℕ → Option LastCommand → List Record
record_of_last terminal None = []
record_of_last terminal (Some last) = Last terminal last ∷ []

abbrev pub last_records : RegisterState → ℕ → List Record
last_records register terminal = record_of_last terminal (last_of register terminal)

-- a register as records: the open calls by car, then the last commands by terminal, then the count
-- of done calls
abbrev pub base_records : RegisterState → List Record
base_records register =
    map Row (flat_map (rows_of register) cars)
    ++ flat_map (last_records register) terminals
    ++ Done register.done ∷ []

-- what a checkpoint's record must meet beside being lawful; the entries of a journal are none
abbrev pub IsPossibleBase : Plan → RegisterState → Record → Type 0
IsPossibleBase plan register (Row row) =
    IsPossibleCall plan row.kiosk row.from row.to row.car × HasPlace plan register row.car row.party
IsPossibleBase plan register (Last terminal last) = IsPossibleLast plan terminal last.content
IsPossibleBase plan register (Done count) = count + open_count register ≡ numbered_calls register
IsPossibleBase plan register (Entry entry) = ⊥

-- a record of a checkpoint that the register can take now in a building
abbrev pub BaseFits : Plan → RegisterState → Record → Type 0
BaseFits plan register content = IsLawful content × IsPossibleBase plan register content

-- the register with one record of a checkpoint taken in
abbrev pub with_record : RegisterState → Record → RegisterState
with_record register (Row row) =
    record register {
      rows = slice_set register.rows row.car (rows_of register row.car ++ row
          ∷ []);
    }
with_record register (Last terminal last) =
    record register { lasts = slice_set register.lasts terminal (Some last) }
with_record register (Done count) = record register { done = count }
with_record register (Entry entry) = register

-- the register with these records taken in, one after another
abbrev pub with_records : RegisterState → List Record → RegisterState
with_records register [] = register
with_records register (content ∷ later) = with_records (with_record register content) later

-- each record fits where it comes
abbrev pub BaseFitFrom : Plan → RegisterState → List Record → Type 0
BaseFitFrom plan register [] = Unit {0}
BaseFitFrom plan register (content ∷ later) =
    BaseFits plan register content × BaseFitFrom plan (with_record register content) later
