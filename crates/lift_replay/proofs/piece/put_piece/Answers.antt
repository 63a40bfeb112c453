use Rattle.std.proofs.Common.{◌∙◌, subst, take}
use Rattle.std.specs.Prelude.{IfErr, OnOk}
use Rattle.std.specs.Io.KnownBytes.{Appends}
use Rattle.lift_replay.specs.Writing.{gone_in}
use Rattle.lift_replay.specs.lemmas.Writes.{takes_all, fails_at_last, gone_all, gone_some, none_taken}
use Rattle.lift_replay.proofs.piece.put_piece.Goals as goal

pub returns-clause-each_call : goal.returns-clause-each_call
returns-clause-each_call g c = takes_all g.W.Outflow.gives c.as_bytes.result.now _ _ c.put_all-end.result c.put_all-end.ensures.each

pub returns-clause-failed : goal.returns-clause-failed
returns-clause-failed g c = fails_at_last g.W.Outflow.gives c.as_bytes.result.now _ _ c.put_all-end.result c.put_all-end.ensures.within c.put_all-end.ensures.each_so_far

pub returns-clause-idle : goal.returns-clause-idle
returns-clause-idle g c = λ none. none_taken g.W.Outflow.gives c.as_bytes.result.now _ _ c.put_all-end.result (c.as_bytes.ensures.value ∙ none) c.put_all-end.ensures.within c.put_all-end.ensures.each

pub returns-clause-ok : goal.returns-clause-ok
returns-clause-ok g c =
    subst (λ bytes. OnOk c.put_all-end.result (Appends (gone_in g.W.Outflow.sent c.args.writer.now) (gone_in g.W.Outflow.sent c.put_all-end.new.writer) bytes)) c.as_bytes.ensures.value
    (gone_all g.W.Outflow.gives g.W.Outflow.sent g.met.W.Outflow.counts c.as_bytes.result.now _ _ c.put_all-end.result c.put_all-end.ensures.each)

pub returns-clause-front : goal.returns-clause-front
returns-clause-front g c =
    subst (λ bytes. IfErr c.put_all-end.result (λ fault. Appends (gone_in g.W.Outflow.sent c.args.writer.now) (gone_in g.W.Outflow.sent c.put_all-end.new.writer) (take fault.written bytes))) c.as_bytes.ensures.value
    (gone_some g.W.Outflow.gives g.W.Outflow.sent g.met.W.Outflow.counts c.as_bytes.result.now _ _ c.put_all-end.result c.put_all-end.ensures.each_so_far)
