-- What records make of a register, taken in one after another.
use Rattle.std.specs.Prelude.{ℕ, ◌≡◌, ◌+◌, Bool, true, false, List, [], ◌∷◌, Some}
use Rattle.std.specs.Prelude.{take, slice_get}
use Rattle.lift_base.specs.declared.history.Entry.{Entry}
use Rattle.lift_base.specs.declared.history.Record.{Record}
use Rattle.lift_base.specs.declared.history.Record.TheVariants.{Entry as EntryRecord, Row, Last}
use Rattle.lift_building.specs.Plan.{Plan}
use Rattle.lift_register.specs.Prelude.{RegisterState, empty, register_of, Fits, FitFrom, BelongsTo}
use Rattle.lift_register.specs.Prelude.{IsBalanced, IsWellFormed}
use Rattle.lift_register.specs.Base.{BaseFits, BaseFitFrom, with_record, with_records}

-- the record can be taken in now, as an entry or as a part of a checkpoint
abbrev pub RecordFits : Plan → RegisterState → Record → Type 0
RecordFits plan register (EntryRecord entry) = Fits plan register entry
RecordFits plan register base = BaseFits plan register base

-- the register with the record taken in
abbrev pub with_next : RegisterState → Record → RegisterState
with_next register (EntryRecord entry) = register_of register (entry ∷ [])
with_next register base = with_record register base

-- the register with these records taken in, one after another
abbrev pub with_all : RegisterState → List Record → RegisterState
with_all register [] = register
with_all register (content ∷ later) = with_all (with_next register content) later

-- each record fits where it comes
abbrev pub AllFit : Plan → RegisterState → List Record → Type 0
AllFit plan register [] = Unit {0}
AllFit plan register (content ∷ later) = RecordFits plan register content
    × AllFit plan (with_next register content) later

-- the first of the records that doesn't fit, counted from 0
pub record IsFirstMisfit (plan : Plan) (records : List Record) (place : ℕ) : Type 0 where
  pub fit : AllFit plan empty (take place records)
  pub misfit : Record
  pub there : slice_get records place ≡ Some misfit
  pub fails : ¬ RecordFits plan (with_all empty (take place records)) misfit

-- the accepted commands among these records
abbrev pub entries_of : List Record → List Entry
entries_of [] = []
entries_of (EntryRecord entry ∷ later) = entry ∷ entries_of later
entries_of (_ ∷ later) = entries_of later

-- the checkpoint fits, and the entries after it; this is the register of the two
pub record IsRegisterOf (plan : Plan) (base entries : List Record)
    (register : RegisterState) : Type 0 where
  pub base_fits : BaseFitFrom plan empty base
  pub entries_fit : FitFrom plan (with_records empty base) (entries_of entries)
  pub is : register ≡ register_of (with_records empty base) (entries_of entries)

-- after the record a checkpoint has begun and not ended
abbrev pub leaves_open : Record → Bool
leaves_open (Row row) = true
leaves_open (Last terminal last) = true
leaves_open _ = false

-- what a recovery has made so far
pub record RecoveryState : Type 0 where
  pub plan : Plan
  pub register : RegisterState
  -- a checkpoint has begun and not ended
  pub is_open : Bool
  -- how many records were taken
  pub taken : ℕ

-- before the first record
abbrev pub beginning : Plan → RecoveryState
beginning plan = record { plan = plan; register = empty; is_open = false; taken = 0 }

-- the record can be taken in now: it fits, and no entry stands within a checkpoint
abbrev pub Passes : RecoveryState → Record → Type 0
Passes state (EntryRecord entry) =
    (state.is_open ≡ false) × Fits state.plan state.register entry
Passes state base = BaseFits state.plan state.register base

abbrev pub passed : RecoveryState → Record → RecoveryState
passed state content = record {
  plan = state.plan;
  register = with_next state.register content;
  is_open = leaves_open content;
  taken = state.taken + 1;
}

abbrev pub AllPass : RecoveryState → List Record → Type 0
AllPass state [] = Unit {0}
AllPass state (content ∷ later) = Passes state content × AllPass (passed state content) later

abbrev pub all_passed : RecoveryState → List Record → RecoveryState
all_passed state [] = state
all_passed state (content ∷ later) = all_passed (passed state content) later

-- all of the records before this place have been taken, and the one there can't be
pub record EndsAtMisfit (old new : RecoveryState) (records : List Record) : Type 0 where
  pub place : ℕ
  pub misfit : Record
  pub there : slice_get records place ≡ Some misfit
  pub pass : AllPass old (take place records)
  pub same : new ≡ all_passed old (take place records)
  pub fails : ¬ Passes new misfit

-- what is true of every recovery
pub record IsRecovery (plan : Plan) (register : RegisterState) (is_open : Bool) : Type 0 where
  pub lawful : IsWellFormed register
  pub belongs : BelongsTo plan register
  pub balanced : is_open ≡ false → IsBalanced register
