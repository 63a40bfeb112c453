use Rattle.std.proofs.Common.{rules}
use Rattle.lift_disk.specs.Files.{sector_file_state_of}
use Rattle.lift_disk.proofs.OneSector.{announced_one, opened_goes_on, opened_stores, opened_touches}
use Rattle.lift_disk.proofs.Synced.{on_ok}
use Rattle.lift_disk.proofs.sectors.SectorFileDisk.write.Goals as goal

pub write_run-requires-clause-announced : goal.write_run-requires-clause-announced
write_run-requires-clause-announced g c =
    announced_one (sector_file_state_of g.F.ListedFile.holds c.args.self.now) (sector_file_state_of g.F.ListedFile.holds c.announce.new.self) (sector_file_state_of g.F.ListedFile.holds c.announce.new.self) c.args.sector c.announce.ensures.announced _ c.from_ref.ensures.len

pub returns-clause-access : goal.returns-clause-access
returns-clause-access g c =
    let old = sector_file_state_of g.F.ListedFile.holds c.args.self.now in
    let mid = sector_file_state_of g.F.ListedFile.holds c.announce.new.self in
    let new = sector_file_state_of g.F.ListedFile.holds c.write_run.new.self in
    record {
      goes_on = opened_goes_on old mid new c.args.sector c.announce.ensures.announced c.write_run.ensures.leaves c.write_run.ensures.access.goes_on;
      fault = search rules;
      armed = search rules;
      writes = search rules;
      recorded = search rules;
    }

pub returns-clause-touched : goal.returns-clause-touched
returns-clause-touched g c =
    let old = sector_file_state_of g.F.ListedFile.holds c.args.self.now in
    let mid = sector_file_state_of g.F.ListedFile.holds c.announce.new.self in
    let new = sector_file_state_of g.F.ListedFile.holds c.write_run.new.self in
    opened_touches old mid new c.args.sector c.announce.ensures.announced c.write_run.ensures.leaves

pub returns-clause-stores : goal.returns-clause-stores
returns-clause-stores g c =
    let old = sector_file_state_of g.F.ListedFile.holds c.args.self.now in
    let mid = sector_file_state_of g.F.ListedFile.holds c.announce.new.self in
    let new = sector_file_state_of g.F.ListedFile.holds c.write_run.new.self in
    on_ok c.write_run.result (opened_stores old mid new c.args.sector c.announce.ensures.announced c.args.bytes.now (λ _ no. absurd no)) (rw (← c.from_ref.ensures.value) c.write_run.ensures.stores)
