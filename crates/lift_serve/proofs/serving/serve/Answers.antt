use Rattle.std.proofs.Common.{subst}
use Rattle.lift_parts.specs.Flusher.{FlusherState}
use Rattle.lift_relay.specs.Notified.{FailureNotified}
use Rattle.lift_policy.specs.Present.{IsDispatched, any_cars}
use Rattle.lift_serve.proofs.Relayings.{have_served, report_of, serving_keeps}
use Rattle.lift_serve.proofs.serving.serve.Goals as goal

pub returns-clause-keeps : goal.returns-clause-keeps
returns-clause-keeps g c =
    let ran = c.run_beside-ran in
    let begun = c.begun-parts in
    serving_keeps _ g.D.Disk.state c.turns_keep_what_was_given.ensures begun.result.0.allocator ran.result.0.allocator c.args.group.flusher begun.result.0.flusher ran.result.0.flusher ran.ensures.ran.0
    begun.ensures.flusher ran.ensures.ran.1

pub returns-clause-ran : goal.returns-clause-ran
returns-clause-ran g c =
    let ran = c.run_beside-ran in
    let begun = c.begun-parts in
    have_served (IsDispatched any_cars g.P.Policy.chooses) g.D.Disk.state c.args.group.allocator begun.result.0.allocator ran.result.0.allocator c.args.group.flusher begun.result.0.flusher ran.result.0.flusher
    ran.ensures.ran.0 ran.result.1 _ _ begun.ensures.allocator begun.ensures.flusher ran.ensures.ran.1 ran.ensures.ran.2 c.into_end.ensures.fault.1

pub returns-clause-notified : goal.returns-clause-notified
returns-clause-notified g c =
    let ran = c.run_beside-ran in
    let begun = c.begun-parts in
    subst (λ (heard : FlusherState g.row.D.Denot × g.row.V.Denot). FailureNotified g.V.Witness.is_notified heard.0.writer.is_broken ran.result.0.flusher.writer.is_broken heard.1 ran.result.0.witness)
    (λ i. (begun.ensures.flusher i, begun.ensures.witness i)) ran.ensures.notified

pub returns-clause-reports : goal.returns-clause-reports
returns-clause-reports g c =
    let begun = c.begun-parts in
    report_of c.run_beside-ran.result.1 _ c.args.group.bound begun.result.1.bound c.into_end.result begun.ensures.bound c.run_beside-ran.ensures.over c.into_end.ensures.fault.1 c.into_end.ensures.ended
