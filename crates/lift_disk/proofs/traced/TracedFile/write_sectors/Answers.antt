use Rattle.lift_disk.specs.Traced.{file_of}
use Rattle.lift_disk.proofs.Passed.{writes_told}
use Rattle.lift_disk.proofs.traced.TracedFile.write_sectors.Goals as goal

pub returns-clause-held : goal.returns-clause-held
returns-clause-held g c =
    let t = c.write_sectors_listed-outcome in
    writes_told g.F.ListedFile.holds t.result c.note.result c.args.offset c.args.run.now (g.F.ListedFile.holds (file_of c.args.self.now)) t.new.self (file_of c.note.new.self)
    c.note.ensures.answered c.note.ensures.same t.ensures.held
