use Rattle.std.proofs.Common.{All, take, List, sym, subst}
use Rattle.std.proofs.lemmas.List.Elements.{All-take}
use Rattle.lift_base.specs.declared.history.Entry.{Entry}
use Rattle.lift_base.specs.declared.history.Record.{Record}
use Rattle.lift_base.specs.declared.history.Record.TheVariants.{Entry as EntryRecord}
use Rattle.lift_base.specs.Records.{IsLawful}
use Rattle.lift_journal.specs.Order.{IsEntry}
use Rattle.lift_keeper.proofs.Applying.{are_entries, are_lawful}
use Rattle.lift_keeper.proofs.copies.put_records.Goals as goal

pub returns-clause-lawful : goal.returns-clause-lawful
returns-clause-lawful c =
    let taken : List Entry = take c.loop-place.place c.args.batch.now.items in
    subst (λ (records : List Record). All IsLawful records) (sym c.loop-place.invariant)
    (are_lawful taken (All-take (λ (e : Entry). IsLawful (EntryRecord e)) c.loop-place.place c.args.batch.now.items c.requires.lawful))

pub returns-clause-entries : goal.returns-clause-entries
returns-clause-entries c =
    subst (λ (records : List Record). All IsEntry records) (sym c.loop-place.invariant) (are_entries (take c.loop-place.place c.args.batch.now.items))
