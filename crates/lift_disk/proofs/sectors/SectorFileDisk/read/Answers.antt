use Rattle.std.proofs.Common.{◌∙◌}
use Rattle.lift_disk.proofs.OneSector.{read_here}
use Rattle.lift_disk.proofs.Synced.{on_ok}
use Rattle.lift_disk.specs.Traced.{file_of}
use Rattle.lift_disk.proofs.sectors.SectorFileDisk.read.Goals as goal

pub returns-clause-gives : goal.returns-clause-gives
returns-clause-gives g c =
    let r = c.read_run in
    on_ok r.result (λ gives honest. read_here (g.F.ListedFile.holds (file_of r.new.self.file)).image c.args.sector r.new.run c.args.buffer.now (r.auto.run ∙ c.from_mut.ensures.len) (gives honest)) r.ensures.gives
