use Rattle.std.proofs.Common.{◌∙◌, ap, sym, slice_get, refl, rules}
use Rattle.lift_disk.specs.Memory.{IsFlagged}
use Rattle.lift_disk.specs.Places.{all_now, all_safe}
use Rattle.lift_disk.specs.Runs.{run_outside, run_loose}
use Rattle.lift_disk.proofs.MemoryRuns.{run_recorded, run_goes_on, run_written}
use Rattle.lift_disk.proofs.memory.MemDiskRunDisk.write_run.Goals as goal

pub write_run-requires-clause-announced : goal.write_run-requires-clause-announced
write_run-requires-clause-announced c = c.requires.announced tt

pub invariant_of-self : goal.invariant_of-self
invariant_of-self c =
    let m = c.args.self.now in
    record {
      recorded = run_recorded m.history.first c.note_run.new.self.first (all_now m.sectors.places.items) m.history.calls c.note_run.new.self.calls c.args.sector c.args.run.now c.note_run.ensures.0 c.note_run.ensures.1 m.recorded
          ∙ sym c.write_run.ensures.now;
    }

pub returns-clause-access : goal.returns-clause-access
returns-clause-access c =
    let m = c.args.self.now in
    let now = all_now m.sectors.places.items in
    let safe = all_safe m.sectors.places.items in
    record {
      goes_on = rw (c.write_run.ensures.now, c.write_run.ensures.safe, c.write_run.ensures.loose) (run_goes_on m.history.first m.history.calls now safe m.sectors.loose.items m.is_steady m.failures.count m.calls.count m.writes.count m.trace.calls
          c.args.sector c.args.run.now (c.requires.announced tt) c.note_run.new.self.first c.note_run.new.self.calls c.next-self.result.count c.next-self-2.result.count c.then-self.result.calls
          c.note_run.ensures.0 c.note_run.ensures.1 c.next-self.ensures);
      fault = search rules;
      armed = search rules;
      writes = search rules;
      recorded = search rules;
    }

pub returns-clause-leaves : goal.returns-clause-leaves
returns-clause-leaves c =
    let m = c.args.self.now in
    rw (c.write_run.ensures.now, c.write_run.ensures.safe, c.write_run.ensures.loose) (record {
      touched = λ _. record {
        loose = λ i is. is;
        within = run_loose (IsFlagged m.sectors.loose.items) c.args.run.now c.args.sector (all_now m.sectors.places.items) (c.requires.announced tt);
      };
      loose = λ _ i was. was;
      kept = λ _. refl;
    })

pub returns-clause-stores : goal.returns-clause-stores
returns-clause-stores c =
    let m = c.args.self.now in
    let now = all_now m.sectors.places.items in
    record {
      written = λ _. record {
        here = λ i bytes late is. ap (λ l. slice_get l i) c.write_run.ensures.now ∙ run_written now c.args.sector c.args.run.now i bytes c.requires.inside late is;
        others = λ i other not was. ap (λ l. slice_get l i) c.write_run.ensures.now ∙ run_outside c.args.run.now c.args.sector now i not ∙ was;
      };
      steady = λ _ steady. record { steady = steady; same = c.write_run.ensures.now };
    }
