-- Records taken in, one after another.
use Rattle.std.proofs.Common.{◌≡◌, ◌<◌, ◌+◌, ℕ, zero, suc, Bool, true, false, List, [], ◌∷◌, ◌++◌, Option, Some, None, length, take, get_or, refl, sym, arith}
use Rattle.lift_base.specs.declared.history.Record.{Record}
use Rattle.lift_base.specs.declared.history.Record.TheVariants.{Entry, Row, Last, Done}
use Rattle.lift_building.specs.Plan.{Plan}
use Rattle.lift_register.specs.Register.{RegisterState, empty}
use Rattle.lift_register.specs.Base.{BaseFitFrom, with_record, with_records}
use Rattle.lift_journal.specs.Layout.{Batch, records_of}
use Rattle.lift_journal.specs.Order.{MayFollow, last_record_after, MayEnd}
use Rattle.lift_keeper.specs.Recovery.{RecordFits, with_next, with_all, AllFit, RecoveryState, Passes, passed, AllPass, all_passed, leaves_open}

-- the records of these batches fit one after another from nothing, and make this register
pub record MakesRegister (plan : Plan) (batches : List Batch)
    (register : RegisterState) : Type 0 where
  pub fit : AllFit plan empty (records_of batches)
  pub is : register ≡ with_all empty (records_of batches)

-- the last of them leaves a checkpoint open, where there is one
abbrev pub is_unended : Option Record → Bool
is_unended None = false
is_unended (Some last) = leaves_open last

-- one record more of a list
pub pass_more : (state : RecoveryState) (records : List Record) (k : ℕ) (blank : Record) → k < length records → AllPass state (take k records)
    → Passes (all_passed state (take k records)) (get_or records k blank) → AllPass state (take (suc k) records)
pass_more state [] k blank lt pass here = absurd (omega arith)
pass_more state (next ∷ records) zero blank lt pass here = (here, tt)
pass_more state (next ∷ records) (suc k) blank lt pass here = (pass.0, pass_more (passed state next) records k blank (omega arith) pass.1 here)

pub passed_more : (state : RecoveryState) (records : List Record) (k : ℕ) (blank : Record) → k < length records
    → all_passed state (take (suc k) records) ≡ passed (all_passed state (take k records)) (get_or records k blank)
passed_more state [] k blank lt = absurd (omega arith)
passed_more state (next ∷ records) zero blank lt = refl
passed_more state (next ∷ records) (suc k) blank lt = passed_more (passed state next) records k blank (omega arith)

-- one list after another
pub pass_then : (state : RecoveryState) (first later : List Record) → AllPass state first → AllPass (all_passed state first) later → AllPass state (first ++ later)
pass_then state [] later pass more = more
pass_then state (next ∷ first) later pass more = (pass.0, pass_then (passed state next) first later pass.1 more)

pub passed_then : (state : RecoveryState) (first later : List Record) → all_passed state (first ++ later) ≡ all_passed (all_passed state first) later
passed_then state [] later = refl
passed_then state (next ∷ first) later = passed_then (passed state next) first later

pub fit_then : (plan : Plan) (register : RegisterState) (first later : List Record) → AllFit plan register first → AllFit plan (with_all register first) later → AllFit plan register (first ++ later)
fit_then plan register [] later fit more = more
fit_then plan register (next ∷ first) later fit more = (fit.0, fit_then plan (with_next register next) first later fit.1 more)

-- what a recovery has made
pub plan_passed : (state : RecoveryState) (records : List Record) → (all_passed state records).plan ≡ state.plan
plan_passed state [] = refl
plan_passed state (next ∷ records) = plan_passed (passed state next) records

pub register_passed : (state : RecoveryState) (records : List Record) → (all_passed state records).register ≡ with_all state.register records
register_passed state [] = refl
register_passed state (next ∷ records) = register_passed (passed state next) records

pub taken_passed : (state : RecoveryState) (records : List Record) → (all_passed state records).taken ≡ state.taken + length records
taken_passed state [] = omega arith
taken_passed state (next ∷ records) = omega (arith, taken_passed (passed state next) records)

-- what passes fits
fits_here : (state : RecoveryState) (next : Record) → Passes state next → RecordFits state.plan state.register next
fits_here state (Entry entry) here = here.1
fits_here state (Row row) here = here
fits_here state (Last terminal last) here = here
fits_here state (Done count) here = here

pub fits_passed : (state : RecoveryState) (records : List Record) → AllPass state records → AllFit state.plan state.register records
fits_passed state [] pass = tt
fits_passed state (next ∷ records) pass = (fits_here state next pass.0, fits_passed (passed state next) records pass.1)

-- the records of a checkpoint are taken in as such
pub base_fits_all : (plan : Plan) (register : RegisterState) (records : List Record) → BaseFitFrom plan register records → AllFit plan register records
base_fits_all plan register [] fit = tt
base_fits_all plan register ((Entry entry) ∷ records) fit = absurd fit.0.1
base_fits_all plan register ((Row row) ∷ records) fit = (fit.0, base_fits_all plan (with_record register (Row row)) records fit.1)
base_fits_all plan register ((Last terminal content) ∷ records) fit = (fit.0, base_fits_all plan (with_record register (Last terminal content)) records fit.1)
base_fits_all plan register ((Done count) ∷ records) fit = (fit.0, base_fits_all plan (with_record register (Done count)) records fit.1)

pub base_makes_all : (plan : Plan) (register : RegisterState) (records : List Record) → BaseFitFrom plan register records → with_all register records ≡ with_records register records
base_makes_all plan register [] fit = refl
base_makes_all plan register ((Entry entry) ∷ records) fit = absurd fit.0.1
base_makes_all plan register ((Row row) ∷ records) fit = base_makes_all plan (with_record register (Row row)) records fit.1
base_makes_all plan register ((Last terminal content) ∷ records) fit = base_makes_all plan (with_record register (Last terminal content)) records fit.1
base_makes_all plan register ((Done count) ∷ records) fit = base_makes_all plan (with_record register (Done count)) records fit.1

pub open_passed : (state : RecoveryState) (last : Option Record) (records : List Record) → state.is_open ≡ is_unended last
    → (all_passed state records).is_open ≡ is_unended (last_record_after last records)
open_passed state last [] is = is
open_passed state last (next ∷ records) is = open_passed (passed state next) (Some next) records refl

-- no entry stands within a checkpoint
no_entry : (last next : Record) → leaves_open last ≡ true → MayFollow (Some last) next → leaves_open next ≡ false → (count : ℕ) × (next ≡ Done count)
no_entry (Entry entry) next is may closed = cc
no_entry (Done n) next is may closed = cc
no_entry (Row row) (Entry entry) is may closed = absurd may
no_entry (Row row) (Row other) is may closed = cc
no_entry (Row row) (Last terminal content) is may closed = cc
no_entry (Row row) (Done count) is may closed = (count, refl)
no_entry (Last terminal last) (Entry entry) is may closed = absurd may
no_entry (Last terminal last) (Row other) is may closed = cc
no_entry (Last terminal last) (Last other content) is may closed = cc
no_entry (Last terminal last) (Done count) is may closed = (count, refl)

closed_before : (b : Bool) (last : Option Record) (next : Record) → b ≡ is_unended last → MayFollow last next → leaves_open next ≡ false → ((count : ℕ) → next ≡ Done count → ⊥) → b ≡ false
closed_before b None next is may entry not_done = is
closed_before false (Some last) next is may entry not_done = refl
closed_before true (Some last) next is may entry not_done =
    let found = no_entry last next (sym is) may entry in
    absurd (not_done found.0 found.1)

-- so what may stand there and fits passes
pub passes_here : (state : RecoveryState) (last : Option Record) (next : Record) → state.is_open ≡ is_unended last → MayFollow last next
    → RecordFits state.plan state.register next → Passes state next
passes_here state last (Entry entry) is may fits =
    (closed_before state.is_open last (Entry entry) is may refl (λ count same. cc same), fits)
passes_here state last (Row row) is may fits = fits
passes_here state last (Last terminal content) is may fits = fits
passes_here state last (Done count) is may fits = fits

-- where a chain may end no checkpoint is open
pub ended_closed : (last : Option Record) → MayEnd last → is_unended last ≡ false
ended_closed None may = refl
ended_closed (Some (Entry entry)) may = refl
ended_closed (Some (Row row)) may = absurd may
ended_closed (Some (Last terminal content)) may = absurd may
ended_closed (Some (Done count)) may = refl
