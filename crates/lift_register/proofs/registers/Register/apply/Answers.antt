use Rattle.std.proofs.Common.{arith, subst, sym, ◌∙◌}
use Rattle.lift_base.specs.declared.history.Record.TheVariants.{Entry as EntryRecord}
use Rattle.lift_base.specs.Records.{IsTyped}
use Rattle.lift_base.specs.declared.history.Entry.{Entry}
use Rattle.lift_base.specs.declared.history.Entry.TheVariants.{Allot, Stop}
use Rattle.lift_register.specs.Register.{waiting_row}
use Rattle.lift_register.specs.Balanced.{IsBalanced}
use Rattle.lift_register.specs.Belongs.{BelongsTo}
use Rattle.lift_register.specs.Fits.{Fits}
use Rattle.lift_register.specs.lemmas.EntryLemmas.{register_of-allot, register_of-stop}
use Rattle.lift_register.specs.lemmas.KeptLemmas.{has_room, countable}
use Rattle.lift_register.specs.lemmas.Laws.{history-step, IsRecord-fitting, IsBalanced-entry, BelongsTo-entry}
use Rattle.lift_register.proofs.registers.Register.apply.Goals as goal

pub allot-requires-clause-room : goal.allot-requires-clause-room
allot-requires-clause-room c =
    let entry : Entry = Allot c.in-Allot.kiosk c.in-Allot.number c.in-Allot.from c.in-Allot.to c.in-Allot.car c.in-Allot.party in
    let typed : IsTyped (EntryRecord entry) = subst (λ (e : Entry). IsTyped (EntryRecord e)) c.in-Allot.is c.note_ranges.ensures in
    let fits : Fits c.args.building.now c.args.self.now entry = subst (Fits c.args.building.now c.args.self.now) c.in-Allot.is c.requires.fits in
    has_room c.args.building.now c.args.self.now (waiting_row c.in-Allot.kiosk c.in-Allot.number c.in-Allot.from c.in-Allot.to c.in-Allot.car c.in-Allot.party) c.note_lawful.ensures (IsRecord-fitting c.args.building.now c.args.self.now entry typed fits) fits.2 (omega arith)

pub returns-in-Allot-clause-one : goal.returns-in-Allot-clause-one
returns-in-Allot-clause-one c =
    let entry : Entry = Allot c.in-Allot.kiosk c.in-Allot.number c.in-Allot.from c.in-Allot.to c.in-Allot.car c.in-Allot.party in
    let typed : IsTyped (EntryRecord entry) = subst (λ (e : Entry). IsTyped (EntryRecord e)) c.in-Allot.is c.note_ranges.ensures in
    rw (c.allot.ensures.value, c.in-Allot.is)
    (register_of-allot c.args.self.now c.in-Allot.kiosk c.in-Allot.number c.in-Allot.from c.in-Allot.to c.in-Allot.car c.in-Allot.party c.allot.ensures.was.row_count c.allot.ensures.was.last_count (omega (arith, typed.0.terminal_range)) (omega (arith, typed.1.car_range)))

pub returns-in-Allot-clause-history : goal.returns-in-Allot-clause-history
returns-in-Allot-clause-history c base entries same = returns-in-Allot-clause-one c ∙ history-step _ base entries _ same

pub returns-in-Allot-clause-balanced : goal.returns-in-Allot-clause-balanced
returns-in-Allot-clause-balanced c =
    subst IsBalanced (sym (returns-in-Allot-clause-one c))
    (IsBalanced-entry c.args.building.now c.args.self.now c.args.entry.now c.allot.ensures.was c.requires.balanced c.note_ranges.ensures c.requires.fits)

pub returns-in-Allot-clause-belongs : goal.returns-in-Allot-clause-belongs
returns-in-Allot-clause-belongs c belongs =
    subst (BelongsTo c.args.building.now) (sym (returns-in-Allot-clause-one c))
    (BelongsTo-entry c.args.building.now c.args.self.now c.args.entry.now c.allot.ensures.was belongs c.note_ranges.ensures c.requires.fits)

pub serve-changes-requires : goal.serve-changes-requires
serve-changes-requires c =
    let entry : Entry = Stop c.in-Stop.car c.in-Stop.number c.in-Stop.floor c.in-Stop.dir in
    let typed : IsTyped (EntryRecord entry) = subst (λ (e : Entry). IsTyped (EntryRecord e)) c.in-Stop.is c.note_ranges.ensures in
    record { countable = countable c.args.self.now c.in-Stop.car c.note_lawful.ensures c.requires.balanced (omega (arith, typed.1)) }

pub returns-in-Stop-clause-one : goal.returns-in-Stop-clause-one
returns-in-Stop-clause-one c =
    let entry : Entry = Stop c.in-Stop.car c.in-Stop.number c.in-Stop.floor c.in-Stop.dir in
    let typed : IsTyped (EntryRecord entry) = subst (λ (e : Entry). IsTyped (EntryRecord e)) c.in-Stop.is c.note_ranges.ensures in
    rw (c.keep_last.ensures.value, c.serve-changes.ensures.value, c.of_car.ensures.value, c.in-Stop.is)
    (register_of-stop c.args.self.now c.in-Stop.car c.in-Stop.number c.in-Stop.floor c.in-Stop.dir c.serve-changes.ensures.was.row_count c.serve-changes.ensures.was.last_count (omega (arith, typed.1)) c.serve-changes.ensures.was.own_cars)

pub returns-in-Stop-clause-history : goal.returns-in-Stop-clause-history
returns-in-Stop-clause-history c base entries same = returns-in-Stop-clause-one c ∙ history-step _ base entries _ same

pub returns-in-Stop-clause-balanced : goal.returns-in-Stop-clause-balanced
returns-in-Stop-clause-balanced c =
    subst IsBalanced (sym (returns-in-Stop-clause-one c))
    (IsBalanced-entry c.args.building.now c.args.self.now c.args.entry.now c.serve-changes.ensures.was c.requires.balanced c.note_ranges.ensures c.requires.fits)

pub returns-in-Stop-clause-belongs : goal.returns-in-Stop-clause-belongs
returns-in-Stop-clause-belongs c belongs =
    subst (BelongsTo c.args.building.now) (sym (returns-in-Stop-clause-one c))
    (BelongsTo-entry c.args.building.now c.args.self.now c.args.entry.now c.serve-changes.ensures.was belongs c.note_ranges.ensures c.requires.fits)
