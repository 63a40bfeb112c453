use Rattle.std.proofs.Common.{inl, inr, subst, take}
use Rattle.std.specs.Io.KnownBytes.{Appends}
use Rattle.lift_program.proofs.help.write_text.Goals as goal

pub returns-in-Ok : goal.returns-in-Ok
returns-in-Ok g c =
    let written = Appends (g.W.Outflow.contents c.args.writer.now) (g.W.Outflow.contents c.write_out.new.writer) in
    inl (c.in-Ok.ensures.flushed, subst written c.as_bytes.ensures.value c.in-Ok.ensures.written)

pub returns-in-Err : goal.returns-in-Err
returns-in-Err g c =
    let written = Appends (g.W.Outflow.contents c.args.writer.now) (g.W.Outflow.contents c.write_out.new.writer) in
    let front = c.in-Err.ensures.front in
    inr (c.in-Err.ensures.failed, (front.0, subst (λ bytes. written (take front.0 bytes)) c.as_bytes.ensures.value front.1))
