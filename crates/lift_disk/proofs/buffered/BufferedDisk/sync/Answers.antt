use Rattle.std.proofs.Common.{[], ◌∷◌, rules}
use Rattle.std.proofs.lemmas.Result.{err_from_is_err_and}
use Rattle.lift_disk.specs.Runs.{run_calls}
use Rattle.lift_disk.specs.Trace.Access.{Sync}
use Rattle.lift_disk.proofs.Joined.{ends_there}
use Rattle.lift_disk.proofs.Waiting.{sync_written}
use Rattle.lift_disk.proofs.buffered.BufferedDisk.sync.Goals as goal

pub returns-clause-saves : goal.returns-clause-saves
returns-clause-saves g c honest =
    let d = c.args.self.now in
    record {
      as_written = λ i bytes was.
          sync_written (g.R.Disk.state d.device) (g.R.Disk.state c.flush.new.self.device) (g.R.Disk.state c.sync.new.self) d.from c.flush.new.self.from c.flush.new.self.from d.pending.items c.flush.new.self.pending.items
          c.flush.ensures.none c.in_ok-flush.ensures.keeps c.flush.ensures.rests.honest.1 (λ honest2. (c.in_ok-sync.ensures.saves honest2).as_written) honest i bytes was;
      touched = search rules;
      synced = search rules;
      steady = search rules;
      saved = search rules;
    }

pub returns-in_err-flush-clause-own : goal.returns-in_err-flush-clause-own
returns-in_err-flush-clause-own g c =
    let d = c.args.self.now in
    let fault = err_from_is_err_and c.from_residual.result c.from_residual.ensures.1 in
    record {
      made = rw fault.1 (record {
        ok = tt;
        err = ends_there (run_calls d.from d.pending.items) (Sync ∷ []) (g.R.Disk.state d.device) (g.R.Disk.state c.flush.new.self.device) c.in_err-flush.ensures.made.err;
      });
      none_held = c.flush.ensures.none;
    }
