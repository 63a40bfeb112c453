use Rattle.std.proofs.Common.{rules, sym, subst}
use Rattle.lift_disk.specs.FileCalls.{FailsIn}
use Rattle.lift_disk.specs.Traced.{file_of, making_calls}
use Rattle.lift_disk.proofs.traced.TracedFile.zeroed.Goals as goal

pub returns-in-Err-clause-failed : goal.returns-in-Err-clause-failed
returns-in-Err-clause-failed g c =
    let gives = g.F.ListedFile.gives in
    let fails = g.F.ListedFile.fails in
    let calls = making_calls c.args.sectors in
    let failed : FailsIn gives fails calls (file_of c.over-traced.result) (file_of c.make.new.self) = search rules in
    subst (λ (f : g.row.F.Denot). FailsIn gives fails calls f c.failed.result.file) c.over-traced.ensures.same
    (subst (λ (f : g.row.F.Denot). FailsIn gives fails calls (file_of c.over-traced.result) f) (sym c.failed.ensures) failed)
