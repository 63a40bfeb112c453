use Rattle.std.proofs.Common.{arith, subst}
use Rattle.lift_base.specs.Records.{IsRecord}
use Rattle.lift_base.specs.declared.history.Record.{Record}
use Rattle.lift_base.specs.declared.history.Record.TheVariants.{Row as RowRecord}
use Rattle.lift_register.specs.Base.{BaseFits}
use Rattle.lift_register.specs.lemmas.KeptLemmas.{has_room, BelongsTo-row}
use Rattle.lift_register.proofs.registers.Register.apply_base.Goals as goal

pub add_row-requires-clause-room : goal.add_row-requires-clause-room
add_row-requires-clause-room c =
    let content : Record = RowRecord c.in-Row.row in
    let fits : BaseFits c.args.building.now c.args.self.now content = subst (BaseFits c.args.building.now c.args.self.now) c.in-Row.is c.requires.fits in
    let written : IsRecord content = subst IsRecord c.in-Row.is (c.note_ranges.ensures, c.requires.fits.0) in
    has_room c.args.building.now c.args.self.now c.in-Row.row c.note_lawful.ensures written fits.1.1 (omega arith)

pub returns-in-Row-clause-belongs : goal.returns-in-Row-clause-belongs
returns-in-Row-clause-belongs c belongs =
    let content : Record = RowRecord c.in-Row.row in
    let fits : BaseFits c.args.building.now c.args.self.now content = subst (BaseFits c.args.building.now c.args.self.now) c.in-Row.is c.requires.fits in
    let written : IsRecord content = subst IsRecord c.in-Row.is (c.note_ranges.ensures, c.requires.fits.0) in
    rw c.add_row.ensures.value (BelongsTo-row c.args.building.now c.args.self.now c.in-Row.row belongs (omega (arith, c.note_lawful.ensures.row_count, written.0.1.car_range)) fits.1.0 fits.1.1)
