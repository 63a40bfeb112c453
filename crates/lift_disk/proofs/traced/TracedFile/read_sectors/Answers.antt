use Rattle.lift_disk.specs.Traced.{file_of}
use Rattle.lift_disk.proofs.Passed.{reads_told}
use Rattle.lift_disk.proofs.traced.TracedFile.read_sectors.Goals as goal

pub returns-clause-held : goal.returns-clause-held
returns-clause-held g c =
    let t = c.read_sectors_listed-outcome in
    reads_told g.F.ListedFile.holds t.result c.note.result c.args.offset t.new.run (g.F.ListedFile.holds (file_of c.args.self.now)) t.new.self (file_of c.note.new.self)
    c.note.ensures.answered c.note.ensures.same t.ensures.held
