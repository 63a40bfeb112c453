use Rattle.std.proofs.Common.{Ok, Err}
use Rattle.std.proofs.lemmas.Result.{err_from_is_err_and}
use Rattle.lift_disk.specs.Runs.{run_calls}
use Rattle.lift_disk.proofs.Joined.{announced_calls}
use Rattle.lift_disk.proofs.Waiting.{opens_of}
use Rattle.lift_disk.proofs.buffered.Buffered.make_room.Goals as goal

pub returns-then-is_next-clause-opens : goal.returns-then-is_next-clause-opens
returns-then-is_next-clause-opens g c =
    let d = c.args.self.now in
    opens_of (g.R.Disk.state d.device) (g.R.Disk.state c.announce.new.self) d.from c.args.sector d.pending.items c.announce.ensures.announced d.announced

pub returns-in_err-flush-clause-made : goal.returns-in_err-flush-clause-made
returns-in_err-flush-clause-made g c cannot =
    let d = c.args.self.now in
    let fault = err_from_is_err_and c.from_residual.result c.from_residual.ensures.1 in
    rw fault.1 (announced_calls (Err fault.0) c.args.sector (run_calls d.from d.pending.items) (g.R.Disk.state d.device) (g.R.Disk.state c.announce.new.self) (g.R.Disk.state c.flush.new.self.device)
    c.announce.ensures.announced c.in_err-flush.ensures.made)

pub returns-clause-made : goal.returns-clause-made
returns-clause-made g c cannot =
    let d = c.args.self.now in
    announced_calls (Ok tt) c.args.sector (run_calls d.from d.pending.items) (g.R.Disk.state d.device) (g.R.Disk.state c.announce.new.self) (g.R.Disk.state c.flush.new.self.device)
    c.announce.ensures.announced c.in_ok-flush.ensures.made
