use Rattle.std.proofs.Common.{ℕ, List, rules, ◌∙◌, ap, slice_set}
use Rattle.lift_disk.specs.Disk.{Image}
use Rattle.lift_disk.specs.Outcomes.{state_of}
use Rattle.lift_disk.specs.Runs.{with_run}
use Rattle.lift_disk.proofs.OneSector.{announced_one, opened_goes_on, opened_stores, opened_touches}
use Rattle.lift_disk.proofs.Synced.{on_ok}
use Rattle.lift_disk.proofs.memory.MemDiskDisk.write.Goals as goal

pub write_run-requires-clause-announced : goal.write_run-requires-clause-announced
write_run-requires-clause-announced c = announced_one (state_of c.args.self.now) (state_of c.announce.new.self) (state_of c.announce.new.self) c.args.sector c.announce.ensures.announced _ c.from_ref.ensures.len

pub returns-clause-access : goal.returns-clause-access
returns-clause-access c = record {
  goes_on = opened_goes_on (state_of c.args.self.now) (state_of c.announce.new.self) (state_of c.write_run.new.self) c.args.sector c.announce.ensures.announced c.write_run.ensures.leaves c.write_run.ensures.access.goes_on;
  fault = search rules;
  armed = search rules;
  writes = search rules;
  recorded = search rules;
}

pub returns-clause-touched : goal.returns-clause-touched
returns-clause-touched c = opened_touches (state_of c.args.self.now) (state_of c.announce.new.self) (state_of c.write_run.new.self) c.args.sector c.announce.ensures.announced c.write_run.ensures.leaves

pub returns-clause-stores : goal.returns-clause-stores
returns-clause-stores c =
    on_ok c.write_run.result (opened_stores (state_of c.args.self.now) (state_of c.announce.new.self) (state_of c.write_run.new.self) c.args.sector c.announce.ensures.announced c.args.bytes.now
    (λ _ _. c.write_run.ensures.own ∙ ap (λ (run : List (List ℕ)). with_run c.args.sector run (state_of c.announce.new.self).image) c.from_ref.ensures.value ∙ ap (λ (image : Image). slice_set image c.args.sector c.args.bytes.now) c.announce.ensures.announced.image))
    (rw (← c.from_ref.ensures.value) c.write_run.ensures.stores)
