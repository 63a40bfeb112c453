use Rattle.std.proofs.Common.{subst}
use Rattle.std.specs.Io.KnownBytes.{Appends}
use Rattle.lift_replay.specs.Writing.{gone_in}
use Rattle.lift_replay.proofs.Written.{err_so, written_front}
use Rattle.lift_replay.specs.lemmas.Writes.{called_err, fails_of, gone_part, gone_whole, takes_of}
use Rattle.lift_replay.proofs.script.refuse.Goals as goal

pub returns-clause-bad : goal.returns-clause-bad
returns-clause-bad g c = subst (Appends (gone_in g.W.Outflow.sent c.args.writer.now) (gone_in g.W.Outflow.sent c.put_all.new.writer)) c.as_bytes.ensures.value
    (gone_whole g.W.Outflow.gives g.W.Outflow.sent g.met.W.Outflow.counts c.as_bytes.result.now _ _ c.in_ok-put_all.ensures.each)

pub returns-in_err-put_all-clause-front : goal.returns-in_err-put_all-clause-front
returns-in_err-put_all-clause-front g c = err_so c.from_residual.result (written_front _ _ _ c.args.report.now c.as_bytes.result.now
    (gone_part g.W.Outflow.gives g.W.Outflow.sent g.met.W.Outflow.counts c.as_bytes.result.now _ _ _ c.in_err-put_all.ensures.each_so_far) c.as_bytes.ensures.value)

pub returns-clause-calls : goal.returns-clause-calls
returns-clause-calls g c = takes_of g.W.Outflow.gives c.as_bytes.result.now _ _ c.in_ok-put_all.ensures.each

pub returns-in_err-put_all-clause-calls : goal.returns-in_err-put_all-clause-calls
returns-in_err-put_all-clause-calls g c = called_err g.W.Outflow.gives _ _ c.from_residual.result _ c.from_residual.ensures.1
    (fails_of g.W.Outflow.gives c.as_bytes.result.now _ _ _ c.in_err-put_all.ensures.within c.in_err-put_all.ensures.each_so_far)
