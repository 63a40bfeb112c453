use Rattle.std.proofs.Common.{◌≡◌, rules, ap, subst}
use Rattle.lift_base.specs.Input.{InputState}
use Rattle.lift_program.specs.Ends.{ReportsAll}
use Rattle.lift_program.specs.declared.words.Request.TheVariants.{Replay, Format, Show}
use Rattle.lift_program.proofs.invocation.Invocation.prepare.Goals as goal

pub returns-in-Replay-clause-end : goal.returns-in-Replay-clause-end
returns-in-Replay-clause-end g c = (Replay, search rules, (c.replay-outcome.ensures.fault, search rules))

pub returns-in-Replay-clause-output : goal.returns-in-Replay-clause-output
returns-in-Replay-clause-output g c =
    let before = g.W.Outflow.contents c.args.writer.now in
    let after = g.W.Outflow.contents c.replay-outcome.new.writer in
    let same : c.new-input.result.reader ≡ c.args.self.reader = ap (λ (input : InputState g.row.R.Denot). input.reader) c.new-input.ensures in
    subst (λ (r : g.row.R.Denot). ReportsAll (g.R.Read.remaining r) before after c.replay-outcome.result) same c.replay-outcome.ensures.report

pub returns-in-Format-clause-end : goal.returns-in-Format-clause-end
returns-in-Format-clause-end g c =
    let asked = c.in-Format in
    (Format asked.image asked.building asked.half, search rules, (c.format-outcome.ensures.made, c.format-outcome.ensures.failure))

pub returns-in-Show-clause-end : goal.returns-in-Show-clause-end
returns-in-Show-clause-end g c =
    let asked = c.in-Show in
    let shown = c.show-outcome.ensures in
    (Show asked.image asked.building, search rules, (shown.shown, shown.failure, shown.portless, shown.front))
