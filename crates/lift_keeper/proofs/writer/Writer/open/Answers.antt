use Rattle.std.proofs.Common.{false, refl, sym, ◌∙◌, ap, subst, arith}
use Rattle.lift_journal.specs.Journal.{JournalView}
use Rattle.lift_journal.specs.Visits.{TakesAll}
use Rattle.lift_keeper.specs.Calls.{RefusedCalls}
use Rattle.lift_keeper.specs.Reading.{ReadingState, ReadsBatch}
use Rattle.lift_keeper.specs.Reopening.{RefusesReopening}
use Rattle.lift_keeper.proofs.Recovering.{plan_read}
use Rattle.lift_keeper.proofs.Reopenings.{reopens, guards, opening_calls, refused_calls, journal_calls, refused_journal, refused_reading}
use Rattle.lift_keeper.proofs.Writers.{whole_writer}
use Rattle.lift_keeper.proofs.writer.Writer.open.Goals as goal

pub returns-in-Err-clause-refused : goal.returns-in-Err-clause-refused
returns-in-Err-clause-refused g c = refused_journal c.args.building.now (g.D.Disk.state c.args.disk) (g.D.Disk.state c.in-Err.disk) c.in-Err.fault c.in-Err.ensures.refused.refused

pub returns-in-Err-clause-calls_before : goal.returns-in-Err-clause-calls_before
returns-in-Err-clause-calls_before g c =
    journal_calls (g.D.Disk.state c.args.disk) (g.D.Disk.state c.in-Err.disk) c.in-Err.fault c.in-Err.ensures.refused.refused c.in-Err.ensures.refused.behind

pub returns-in-Ok-recovered-clause-calls : goal.returns-in-Ok-recovered-clause-calls
returns-in-Ok-recovered-clause-calls g c =
    let journal = c.in-Ok.journal in
    opening_calls c.args.building.now (g.D.Disk.state c.args.disk) (g.D.Disk.state journal.device) journal.shape journal.used c.in-Ok.ensures.opens.opens journal.is_in_second_half c.in-Ok.ensures.opens.half c.in-Ok.ensures.opens.calls

pub returns-in-Ok-recovered-clause-opens : goal.returns-in-Ok-recovered-clause-opens
returns-in-Ok-recovered-clause-opens g c =
    let journal = c.in-Ok.journal in
    let reading = c.open_with.new.visitor in
    let found = c.in-Ok-recovered.ensures in
    let opened = reopens c.args.building.now (g.D.Disk.state c.args.disk) (g.D.Disk.state journal.device) journal.shape journal.used c.in-Ok.ensures.opens.opens reading
    (λ honest batches holds. subst (λ (s : ReadingState). TakesAll ReadsBatch s batches reading) c.new-reading.ensures (c.in-Ok.ensures.shown honest batches holds))
    c.in-Ok-recovered.register found.shape found.gives journal.is_in_second_half c.in-Ok.ensures.opens.half in
    let counted = ap (λ (j : JournalView g.row.D.Denot). (g.D.Disk.state j.device).failures) c.of-at_opening.ensures in
    record { reopens = opened; plan = refl; whole = (refl, cc (c.of.ensures, c.new.ensures)); failures_at_opening = counted }

pub returns-in-Err-recovered-clause-refused : goal.returns-in-Err-recovered-clause-refused
returns-in-Err-recovered-clause-refused g c =
    let journal = c.in-Ok.journal in
    let reading = c.open_with.new.visitor in
    subst (λ (d : g.row.D.Denot). RefusesReopening c.args.building.now (g.D.Disk.state c.args.disk) (g.D.Disk.state d) c.in-Err-recovered.fault) (sym c.into_disk.ensures)
    (refused_reading c.args.building.now (g.D.Disk.state c.args.disk) (g.D.Disk.state journal.device) journal.shape journal.used c.in-Ok.ensures.opens.opens reading
    (λ honest batches holds. subst (λ (s : ReadingState). TakesAll ReadsBatch s batches reading) c.new-reading.ensures (c.in-Ok.ensures.shown honest batches holds))
    c.in-Err-recovered.fault c.in-Err-recovered.ensures.refused)

pub invariant_of-result : goal.invariant_of-result
invariant_of-result g c =
    let journal = c.in-Ok.journal in
    let reading = c.open_with.new.visitor in
    let found = c.in-Ok-recovered.ensures in
    let some = c.open_with.ensures.shown_some in
    let made = guards c.args.building.now (g.D.Disk.state c.args.disk) (g.D.Disk.state journal.device) journal.shape journal.used c.in-Ok.ensures.opens.opens reading
    (λ honest batches holds. subst (λ (s : ReadingState). TakesAll ReadsBatch s batches reading) c.new-reading.ensures (c.in-Ok.ensures.shown honest batches holds))
    c.in-Ok-recovered.register found.shape found.gives journal.is_in_second_half c.in-Ok.ensures.opens.half
    (plan_read c.new-reading.result some.batches reading some.taken ∙ ap (λ (s : ReadingState). s.recovery.plan) c.new-reading.ensures) in
    let counted = ap (λ (j : JournalView g.row.D.Denot). (g.D.Disk.state j.device).failures) c.of-at_opening.ensures in
    whole_writer c.args.building.now journal c.in-Ok-recovered.register c.of.result.value.items (g.D.Disk.state c.of-at_opening.result.value.device).failures false
    (g.D.Disk.state journal.device) refl made c.in-Ok.ensures.opens.whole (cc (c.of.ensures, c.new.ensures)) (omega (arith, counted))

pub returns-in-Err-recovered-clause-calls_before : goal.returns-in-Err-recovered-clause-calls_before
returns-in-Err-recovered-clause-calls_before g c =
    let journal = c.in-Ok.journal in
    let old = g.D.Disk.state c.args.disk in
    subst (λ (d : g.row.D.Denot). RefusedCalls old (g.D.Disk.state d) c.in-Err-recovered.fault) (sym c.into_disk.ensures)
    (refused_calls c.args.building.now old (g.D.Disk.state journal.device) journal.shape journal.used c.in-Ok.ensures.opens.opens journal.is_in_second_half c.in-Ok.ensures.opens.half c.in-Ok.ensures.opens.calls
    c.open_with.new.visitor c.in-Err-recovered.fault c.in-Err-recovered.ensures.refused)
