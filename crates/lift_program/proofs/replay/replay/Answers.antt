use Rattle.std.proofs.Common.{true, false}
use Rattle.lift_program.proofs.CarriedOut.{called_unflushed, came_front, came_kept, goes_on, gone_kept}
use Rattle.lift_program.proofs.Writing.{kept_report, report_front}
use Rattle.lift_program.proofs.replay.replay.Goals as goal

pub returns-in-Ok-clause-report : goal.returns-in-Ok-clause-report
returns-in-Ok-clause-report g c = kept_report _ _ _ _ _ c.in_ok-verdict.ensures.report c.pass_on.ensures.bytes

pub returns-in-Ok-clause-came : goal.returns-in-Ok-clause-came
returns-in-Ok-clause-came g c =
    let same = gone_kept g.W.Outflow.sent _ _ true (g.met.W.Outflow.counts_flush _ true _ c.in-Ok.ensures.flushed) in
    came_kept _ _ _ _ _ _ same c.in_ok-verdict.ensures.came

pub returns-in-Ok-clause-goes : goal.returns-in-Ok-clause-goes
returns-in-Ok-clause-goes g c =
    let same = gone_kept g.W.Outflow.sent _ _ true (g.met.W.Outflow.counts_flush _ true _ c.in-Ok.ensures.flushed) in
    goes_on g.W.Outflow.sent g.W.Outflow.contents _ _ _ c.in_ok-verdict.ensures.goes same c.pass_on.ensures.bytes

pub returns-in-Err-clause-report : goal.returns-in-Err-clause-report
returns-in-Err-clause-report g c = report_front _ _ _ _ (kept_report _ _ _ _ _ c.in_ok-verdict.ensures.report c.pass_on.ensures.bytes)

pub returns-in-Err-clause-came : goal.returns-in-Err-clause-came
returns-in-Err-clause-came g c =
    let same = gone_kept g.W.Outflow.sent _ _ false (g.met.W.Outflow.counts_flush _ false _ c.in-Err.ensures.failed) in
    came_front _ _ _ _ _ (came_kept _ _ _ _ _ _ same c.in_ok-verdict.ensures.came)

pub returns-in-Err-clause-goes : goal.returns-in-Err-clause-goes
returns-in-Err-clause-goes g c =
    let same = gone_kept g.W.Outflow.sent _ _ false (g.met.W.Outflow.counts_flush _ false _ c.in-Err.ensures.failed) in
    goes_on g.W.Outflow.sent g.W.Outflow.contents _ _ _ c.in_ok-verdict.ensures.goes same c.pass_on.ensures.bytes

pub returns-in-Err-clause-called : goal.returns-in-Err-clause-called
returns-in-Err-clause-called g c = called_unflushed g.W.Outflow.gives g.W.Outflow.flushes _ _ _ _ c.in_ok-verdict.ensures.writes c.in-Err.ensures.failed c.in-Err.ensures.fault
