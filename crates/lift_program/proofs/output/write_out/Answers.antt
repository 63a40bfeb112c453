use Rattle.std.proofs.Common.{◌∙◌, inr, length, rules, subst, sym}
use Rattle.std.proofs.Math.Seq.{take-length}
use Rattle.std.specs.Io.KnownBytes.{Appends}
use Rattle.lift_program.proofs.Flushing.{put_failed, takes_put}
use Rattle.lift_program.proofs.output.write_out.Goals as goal

pub returns-in-Ok-clause-flushed : goal.returns-in-Ok-clause-flushed
returns-in-Ok-clause-flushed g c = (
  c.put_all.new.writer,
  takes_put g.W.Outflow.gives c.args.bytes.now _ _ c.put_all.result (sym c.is_err.ensures.value ∙ c.if-is_err.false) c.put_all.ensures.each,
  c.in-Ok.ensures.flushed,
)

pub returns-in-Err-clause-out_of_memory : goal.returns-in-Err-clause-out_of_memory
returns-in-Err-clause-out_of_memory g c =
    let taken = takes_put g.W.Outflow.gives c.args.bytes.now _ _ c.put_all.result (sym c.is_err.ensures.value ∙ c.if-is_err.false) c.put_all.ensures.each in
    λ same. (c.put_all.new.writer, taken, inr c.in-Err.ensures.failed)

pub returns-in-Err-clause-front : goal.returns-in-Err-clause-front
returns-in-Err-clause-front g c = (
  length c.args.bytes.now,
  subst (Appends (g.W.Outflow.contents c.args.writer.now) (g.W.Outflow.contents c.pass_on.new.writer)) (sym (take-length c.args.bytes.now)) (search rules),
)

pub returns-then-is_err-clause-failed : goal.returns-then-is_err-clause-failed
returns-then-is_err-clause-failed g c =
    put_failed g.W.Outflow.gives g.W.Outflow.flushes c.args.bytes.now _ _ c.put_all.result (sym c.is_err.ensures.value ∙ c.if-is_err.true) c.put_all.ensures.within c.put_all.ensures.each_so_far

pub returns-in-Err-clause-failed : goal.returns-in-Err-clause-failed
returns-in-Err-clause-failed g c =
    let taken = takes_put g.W.Outflow.gives c.args.bytes.now _ _ c.put_all.result (sym c.is_err.ensures.value ∙ c.if-is_err.false) c.put_all.ensures.each in
    inr (c.put_all.new.writer, taken, c.in-Err.ensures.failed)
