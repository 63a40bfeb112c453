-- The register of a checkpoint and the entries after it.
use Rattle.std.proofs.Common.{◌≡◌, List, [], ◌∷◌, ◌++◌, refl, sym, ◌∙◌, ap, subst, append_assoc}
use Rattle.std.specs.Prelude.{All}
use Rattle.std.proofs.lemmas.List.{append-nil}
use Rattle.std.proofs.lemmas.List.Elements.{All-head, All-tail}
use Rattle.lift_base.specs.declared.history.Entry.{Entry}
use Rattle.lift_base.specs.declared.history.Record.{Record}
use Rattle.lift_base.specs.declared.history.Record.TheVariants.{Entry as EntryRecord, Row, Last, Done}
use Rattle.lift_building.specs.Plan.{Plan}
use Rattle.lift_register.specs.Register.{RegisterState, register_of, empty}
use Rattle.lift_register.specs.WellFormed.{IsWellFormed}
use Rattle.lift_register.specs.Fits.{FitFrom}
use Rattle.lift_register.specs.Base.{BaseFitFrom, with_record, with_records}
use Rattle.lift_register.specs.lemmas.HistoryLemmas.{register_of-append}
use Rattle.lift_register.specs.lemmas.EntryLemmas.{register_of-nothing}
use Rattle.lift_journal.specs.Order.{IsEntry, IsOfBase}
use Rattle.lift_journal.specs.Layout.{Batch, records_of}
use Rattle.lift_keeper.specs.Recovery.{AllFit, with_all, entries_of, IsRegisterOf}
use Rattle.lift_keeper.proofs.Recoveries.{MakesRegister}

-- a checkpoint, and records after it
base_with : (register : RegisterState) (base later : List Record) → All IsOfBase base → with_all register (base ++ later) ≡ with_all (with_records register base) later
base_with register [] later is = refl
base_with register (EntryRecord entry ∷ base) later is = absurd (All-head IsOfBase (EntryRecord entry) base is)
base_with register (Row row ∷ base) later is = base_with (with_record register (Row row)) base later (All-tail IsOfBase (Row row) base is)
base_with register (Last terminal last ∷ base) later is = base_with (with_record register (Last terminal last)) base later (All-tail IsOfBase (Last terminal last) base is)
base_with register (Done count ∷ base) later is = base_with (with_record register (Done count)) base later (All-tail IsOfBase (Done count) base is)

base_fit : (plan : Plan) (register : RegisterState) (base later : List Record) → All IsOfBase base → AllFit plan register (base ++ later)
    → BaseFitFrom plan register base × AllFit plan (with_records register base) later
base_fit plan register [] later is fit = (tt, fit)
base_fit plan register (EntryRecord entry ∷ base) later is fit = absurd (All-head IsOfBase (EntryRecord entry) base is)
base_fit plan register (Row row ∷ base) later is fit =
    let rest = base_fit plan (with_record register (Row row)) base later (All-tail IsOfBase (Row row) base is) fit.1 in ((fit.0, rest.0), rest.1)
base_fit plan register (Last terminal last ∷ base) later is fit =
    let rest = base_fit plan (with_record register (Last terminal last)) base later (All-tail IsOfBase (Last terminal last) base is) fit.1 in ((fit.0, rest.0), rest.1)
base_fit plan register (Done count ∷ base) later is fit =
    let rest = base_fit plan (with_record register (Done count)) base later (All-tail IsOfBase (Done count) base is) fit.1 in ((fit.0, rest.0), rest.1)

-- entries alone
entries_fit : (plan : Plan) (register : RegisterState) (entries : List Record) → All IsEntry entries → AllFit plan register entries → FitFrom plan register (entries_of entries)
entries_fit plan register [] is fit = tt
entries_fit plan register (EntryRecord entry ∷ entries) is fit =
    (fit.0, entries_fit plan (register_of register (entry ∷ [])) entries (All-tail IsEntry (EntryRecord entry) entries is) fit.1)
entries_fit plan register (Row row ∷ entries) is fit = absurd (All-head IsEntry (Row row) entries is)
entries_fit plan register (Last terminal last ∷ entries) is fit = absurd (All-head IsEntry (Last terminal last) entries is)
entries_fit plan register (Done count ∷ entries) is fit = absurd (All-head IsEntry (Done count) entries is)

entry_then : (register : RegisterState) (first : List Entry) (entry : Entry) (entries : List Record)
    → with_all (register_of register (first ++ entry ∷ [])) entries ≡ register_of register ((first ++ entry ∷ []) ++ entries_of entries)
    → with_all (register_of (register_of register first) (entry ∷ [])) entries ≡ register_of register (first ++ entry ∷ entries_of entries)
entry_then register first entry entries then =
    ap (λ (r : RegisterState). with_all r entries) (register_of-append register first (entry ∷ [])) ∙ then
    ∙ ap (register_of register) (append_assoc first (entry ∷ []) (entries_of entries))

entries_with : (register : RegisterState) (first : List Entry) (entries : List Record) → All IsEntry entries
    → with_all (register_of register first) entries ≡ register_of register (first ++ entries_of entries)
entries_with register first [] is = ap (register_of register) (sym (append-nil first))
entries_with register first (EntryRecord entry ∷ entries) is =
    entry_then register first entry entries (entries_with register (first ++ entry ∷ []) entries (All-tail IsEntry (EntryRecord entry) entries is))
entries_with register first (Row row ∷ entries) is = absurd (All-head IsEntry (Row row) entries is)
entries_with register first (Last terminal last ∷ entries) is = absurd (All-head IsEntry (Last terminal last) entries is)
entries_with register first (Done count ∷ entries) is = absurd (All-head IsEntry (Done count) entries is)

entries_from : (register : RegisterState) (entries : List Record) → All IsEntry entries → IsWellFormed (with_all register entries)
    → with_all register entries ≡ register_of register (entries_of entries)
entries_from register [] is well = sym (register_of-nothing register well)
entries_from register (EntryRecord entry ∷ entries) is well = entries_with register (entry ∷ []) entries (All-tail IsEntry (EntryRecord entry) entries is)
entries_from register (Row row ∷ entries) is well = absurd (All-head IsEntry (Row row) entries is)
entries_from register (Last terminal last ∷ entries) is well = absurd (All-head IsEntry (Last terminal last) entries is)
entries_from register (Done count ∷ entries) is well = absurd (All-head IsEntry (Done count) entries is)

-- the register that the batches make is that of the checkpoint and the entries which they hold
pub register_then : (plan : Plan) (batches : List Batch) (base entries : List Record) (register : RegisterState) → MakesRegister plan batches register
    → records_of batches ≡ base ++ entries → All IsOfBase base → All IsEntry entries → IsWellFormed register → IsRegisterOf plan base entries register
register_then plan batches base entries register makes joined is_base are_entries well =
    let fit : AllFit plan empty (base ++ entries) = subst (AllFit plan empty) joined makes.fit in
    let fits = base_fit plan empty base entries is_base fit in
    let same : register ≡ with_all (with_records empty base) entries = makes.is ∙ ap (with_all empty) joined ∙ base_with empty base entries is_base in
    record {
      base_fits = fits.0;
      entries_fit = entries_fit plan (with_records empty base) entries are_entries fits.1;
      is = same ∙ entries_from (with_records empty base) entries are_entries (subst IsWellFormed same well);
    }
