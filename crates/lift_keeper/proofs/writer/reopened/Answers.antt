use Rattle.std.proofs.Common.{sym, ◌∙◌, ap, subst}
use Rattle.lift_journal.specs.Journal.{JournalView}
use Rattle.lift_journal.specs.Steps.{ReadsOnly}
use Rattle.lift_journal.specs.Visits.{TakesAll}
use Rattle.lift_keeper.specs.Calls.{RefusedCalls}
use Rattle.lift_keeper.specs.Reading.{ReadingState, ReadsBatch}
use Rattle.lift_keeper.specs.Reopening.{RefusesReopening}
use Rattle.lift_keeper.proofs.Recovering.{plan_read}
use Rattle.lift_keeper.proofs.Reopenings.{reopens, guards, opening_calls, refused_calls, journal_calls, refused_journal, refused_reading}
use Rattle.lift_keeper.proofs.writer.reopened.Goals as goal

pub returns-in-Err-clause-refused : goal.returns-in-Err-clause-refused
returns-in-Err-clause-refused g c =
    refused_journal c.args.building.now (g.D.Disk.state c.args.journal.now.device) (g.D.Disk.state c.reopen_from.new.self.device) c.in-Err.fault c.in-Err.ensures.reopens.refused.refused

pub return_to-requires-clause-reads : goal.return_to-requires-clause-reads
return_to-requires-clause-reads g c =
    subst (λ (v : JournalView g.row.D.Denot). ReadsOnly (g.D.Disk.state v.device) (g.D.Disk.state c.reopen_from.new.self.device)) (sym c.in-Ok.ensures.former) c.in-Ok.ensures.reads

pub returns-in-Err-recovered-clause-refused : goal.returns-in-Err-recovered-clause-refused
returns-in-Err-recovered-clause-refused g c =
    let journal = c.reopen_from.new.self in
    let reading = c.reopen_from.new.visitor in
    subst (λ (d : g.row.D.Denot). RefusesReopening c.args.building.now (g.D.Disk.state c.args.journal.now.device) (g.D.Disk.state d) c.in-Err-recovered.fault) (sym c.return_to.ensures.device)
    (refused_reading c.args.building.now (g.D.Disk.state c.args.journal.now.device) (g.D.Disk.state journal.device) journal.shape journal.used c.in-Ok.ensures.reopens.opens.opens reading
    (λ honest batches holds. subst (λ (s : ReadingState). TakesAll ReadsBatch s batches reading) c.new-reading.ensures (c.in-Ok.ensures.shown honest batches holds))
    c.in-Err-recovered.fault c.in-Err-recovered.ensures.refused)

pub returns-in-Ok-recovered-clause-opens : goal.returns-in-Ok-recovered-clause-opens
returns-in-Ok-recovered-clause-opens g c =
    let journal = c.reopen_from.new.self in
    let reading = c.reopen_from.new.visitor in
    let found = c.in-Ok-recovered.ensures in
    reopens c.args.building.now (g.D.Disk.state c.args.journal.now.device) (g.D.Disk.state journal.device) journal.shape journal.used c.in-Ok.ensures.reopens.opens.opens reading
    (λ honest batches holds. subst (λ (s : ReadingState). TakesAll ReadsBatch s batches reading) c.new-reading.ensures (c.in-Ok.ensures.shown honest batches holds))
    c.in-Ok-recovered.register found.shape found.gives journal.is_in_second_half c.in-Ok.ensures.reopens.opens.half

pub returns-in-Ok-recovered-clause-guards : goal.returns-in-Ok-recovered-clause-guards
returns-in-Ok-recovered-clause-guards g c =
    let journal = c.reopen_from.new.self in
    let reading = c.reopen_from.new.visitor in
    let found = c.in-Ok-recovered.ensures in
    let some = c.reopen_from.ensures.shown_some in
    guards c.args.building.now (g.D.Disk.state c.args.journal.now.device) (g.D.Disk.state journal.device) journal.shape journal.used c.in-Ok.ensures.reopens.opens.opens reading
    (λ honest batches holds. subst (λ (s : ReadingState). TakesAll ReadsBatch s batches reading) c.new-reading.ensures (c.in-Ok.ensures.shown honest batches holds))
    c.in-Ok-recovered.register found.shape found.gives journal.is_in_second_half c.in-Ok.ensures.reopens.opens.half
    (plan_read c.new-reading.result some.batches reading some.taken ∙ ap (λ (s : ReadingState). s.recovery.plan) c.new-reading.ensures)

pub returns-in-Err-clause-calls_before : goal.returns-in-Err-clause-calls_before
returns-in-Err-clause-calls_before g c =
    let refused = c.in-Err.ensures.reopens.refused in
    journal_calls (g.D.Disk.state c.args.journal.now.device) (g.D.Disk.state c.reopen_from.new.self.device) c.in-Err.fault refused.refused refused.behind

pub returns-in-Ok-recovered-clause-calls : goal.returns-in-Ok-recovered-clause-calls
returns-in-Ok-recovered-clause-calls g c =
    let journal = c.reopen_from.new.self in
    let is = c.in-Ok.ensures.reopens.opens in
    opening_calls c.args.building.now (g.D.Disk.state c.args.journal.now.device) (g.D.Disk.state journal.device) journal.shape journal.used is.opens journal.is_in_second_half is.half is.calls

pub returns-in-Err-recovered-clause-calls_before : goal.returns-in-Err-recovered-clause-calls_before
returns-in-Err-recovered-clause-calls_before g c =
    let journal = c.reopen_from.new.self in
    let old = g.D.Disk.state c.args.journal.now.device in
    let is = c.in-Ok.ensures.reopens.opens in
    subst (λ (d : g.row.D.Denot). RefusedCalls old (g.D.Disk.state d) c.in-Err-recovered.fault) (sym c.return_to.ensures.device)
    (refused_calls c.args.building.now old (g.D.Disk.state journal.device) journal.shape journal.used is.opens journal.is_in_second_half is.half is.calls
    c.reopen_from.new.visitor c.in-Err-recovered.fault c.in-Err-recovered.ensures.refused)
