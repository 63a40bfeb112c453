use Rattle.std.proofs.Common.{ap, ◌∙◌}
use Rattle.lift_disk.specs.FileCalls.{without_bytes}
use Rattle.lift_disk.specs.Traced.{file_of}
use Rattle.lift_disk.proofs.Synced.{stays_known}
use Rattle.lift_disk.proofs.sectors.SectorFileRunDisk.announce.Goals as goal

pub invariant_of-self : goal.invariant_of-self
invariant_of-self g c =
    let d = c.args.self.now in
    let opens = c.announce.ensures.opens in record {
      at_offsets = ap without_bytes c.announce.ensures.calls ∙ d.at_offsets;
      steady = stays_known d.is_steady d.sectors (g.F.ListedFile.holds (file_of d.file)) (g.F.ListedFile.holds (file_of c.announce.new.self)) opens.same (λ _ _ steady. opens.steady steady) d.steady;
    }
