-- Records and entries taken into a register, one after another.
use Rattle.std.proofs.Common.{◌≡◌, ℕ, zero, suc, List, [], ◌∷◌, Some, take, drop, map, All, ap, subst, arith}
use Rattle.std.specs.Prelude.{slice_get}
use Rattle.std.proofs.lemmas.List.Elements.{All-nil, All-cons, All-head, All-tail}
use Rattle.lift_base.specs.declared.history.Record.TheVariants.{Entry as EntryRecord}
use Rattle.lift_base.specs.Records.{IsLawful}
use Rattle.lift_base.specs.declared.history.Entry.{Entry}
use Rattle.lift_base.specs.declared.history.Entry.TheVariants.{Allot, Stop}
use Rattle.lift_base.specs.declared.history.Record.{Record}
use Rattle.lift_building.specs.Plan.{Plan}
use Rattle.lift_register.specs.Register.{RegisterState, register_of}
use Rattle.lift_register.specs.Fits.{Fits, FitFrom}
use Rattle.lift_register.specs.Base.{BaseFits, BaseFitFrom, with_record, with_records}
use Rattle.lift_journal.specs.Order.{IsEntry}

-- the record at one place of a checkpoint fits, and those after it
pub base_here : (plan : Plan) (register : RegisterState) (records : List Record) (k : ℕ) (next : Record) → slice_get records k ≡ Some next
    → BaseFitFrom plan register (drop k records) → BaseFits plan register next × BaseFitFrom plan (with_record register next) (drop (suc k) records)
base_here plan register [] k next is fit = absurd (cc is)
base_here plan register (first ∷ records) zero next is fit =
    let same : first ≡ next = cc is in
    subst (λ (r : Record). BaseFits plan register r × BaseFitFrom plan (with_record register r) records) same fit
base_here plan register (first ∷ records) (suc k) next is fit = base_here plan register records k next is fit

pub base_next : (register : RegisterState) (records : List Record) (k : ℕ) (next : Record) → slice_get records k ≡ Some next
    → with_records register (take (suc k) records) ≡ with_record (with_records register (take k records)) next
base_next register [] k next is = absurd (cc is)
base_next register (first ∷ records) zero next is = let same : first ≡ next = cc is in ap (with_record register) same
base_next register (first ∷ records) (suc k) next is = base_next (with_record register first) records k next is

-- what fits is lawful
fits_lawful : (plan : Plan) (register : RegisterState) (entry : Entry) → Fits plan register entry → IsLawful (EntryRecord entry)
fits_lawful plan register (Allot kiosk number from to car party) fits = record { of_kiosk = fits.0.of_kiosk.0; numbered = omega (arith, fits.1); apart = fits.0.apart }
fits_lawful plan register (Stop car number floor dir) fits = omega (arith, fits.1)

pub all_lawful : (plan : Plan) (register : RegisterState) (entries : List Entry) → FitFrom plan register entries → All (λ (e : Entry). IsLawful (EntryRecord e)) entries
all_lawful plan register [] fit = All-nil (λ (e : Entry). IsLawful (EntryRecord e))
all_lawful plan register (entry ∷ entries) fit =
    All-cons (λ (e : Entry). IsLawful (EntryRecord e)) entry entries (fits_lawful plan register entry fit.0) (all_lawful plan (register_of register (entry ∷ [])) entries fit.1)

-- the records of entries
pub are_entries : (entries : List Entry) → All IsEntry (map EntryRecord entries)
are_entries [] = All-nil IsEntry
are_entries (e ∷ es) = All-cons IsEntry (EntryRecord e) (map EntryRecord es) tt (are_entries es)

pub are_lawful : (entries : List Entry) → All (λ (e : Entry). IsLawful (EntryRecord e)) entries → All IsLawful (map EntryRecord entries)
are_lawful [] all = All-nil IsLawful
are_lawful (e ∷ es) all =
    All-cons IsLawful (EntryRecord e) (map EntryRecord es) (All-head (λ (x : Entry). IsLawful (EntryRecord x)) e es all) (are_lawful es (All-tail (λ (x : Entry). IsLawful (EntryRecord x)) e es all))
