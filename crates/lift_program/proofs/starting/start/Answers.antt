use Rattle.std.proofs.Common.{refl, subst, sym}
use Rattle.lift_program.specs.Ends.{TellsLine, line_at_once, line_of, was_reported}
use Rattle.lift_program.specs.declared.words.Request.TheVariants.{Serve}
use Rattle.lift_program.proofs.Asked.{end_keeps}
use Rattle.lift_program.proofs.Telling.{served_reported, reported_once}
use Rattle.lift_program.proofs.starting.start.Goals.{in-Ok, in-Err}
use Rattle.lift_program.proofs.starting.start.Goals as goal

pub returns-clause-end : goal.returns-clause-end
returns-clause-end g c =
    elim c.match-outcome.branch [
      | in-Ok w ↦ let openers = rw w.in-Ok.is at c.prepare-input.ensures.openers in
          let unsaid = rw w.in-Ok.is at c.prepare-input.ensures.unsaid in
          let a = w.in-Ok.asked in
          rw w.writer-is (rw w.end-is (rw (← openers, ← unsaid) (Serve a.image a.building a.port a.sessions a.policy, rw w.in-Ok.is at c.prepare-input.ensures.to_serve, w.serve-outcome.ensures.end)))
      | in-Err w ↦ rw w.end-is (rw w.writer-is (rw w.in-Err.is at c.prepare-input.ensures.end))
    ]

pub returns-clause-keeps : goal.returns-clause-keeps
returns-clause-keeps g c = end_keeps _ _ _ _ c.match-outcome.end.0 (returns-clause-end g c)

pub returns-clause-output : goal.returns-clause-output
returns-clause-output g c =
    elim c.match-outcome.branch [
      | in-Ok w ↦ let unsaid = rw w.in-Ok.is at c.prepare-input.ensures.unsaid in
          let said = w.serve-outcome.ensures in
          rw w.writer-is (rw w.end-is (rw (← unsaid) (said.said, said.report)))
      | in-Err w ↦ rw w.end-is (rw w.writer-is (rw w.in-Err.is at c.prepare-input.ensures.output))
    ]

pub returns-clause-script : goal.returns-clause-script
returns-clause-script g c =
    elim c.match-outcome.branch [
      | in-Ok w ↦ rw w.end-is tt
      | in-Err w ↦ rw w.end-is (rw w.writer-is (rw w.in-Err.is at c.prepare-input.ensures.script))
    ]

pub returns-clause-input : goal.returns-clause-input
returns-clause-input g c =
    elim c.match-outcome.branch [
      | in-Ok w ↦ rw w.end-is (rw w.in-Ok.is at c.prepare-input.ensures.unread)
      | in-Err w ↦ rw w.end-is (rw w.in-Err.is at c.prepare-input.ensures.left)
    ]

pub returns-clause-line : goal.returns-clause-line
returns-clause-line g c =
    let contents = g.E.Write.contents in
    let a = c.args.errors in
    let b = c.match-outcome.end.1 in
    let first : TellsLine contents (line_at_once c.match-outcome.end.0) a b =
    elim c.match-outcome.branch [
      | in-Ok w ↦ rw w.end-is (served_reported contents a w.serve-outcome.result.1 (Unit {0}) (Unit {0}) w.serve-outcome.result.0 w.serve-outcome.ensures.at_once w.serve-outcome.ensures.quiet)
      | in-Err w ↦ rw w.end-is (subst (λ line. TellsLine contents line a a) (sym (rw w.in-Err.is at c.prepare-input.ensures.quiet)) refl)
    ] in
    reported_once contents a b c.tell.new.errors (was_reported c.match-outcome.end.0) (line_of c.match-outcome.end.0) first c.tell.ensures.line c.tell.ensures.quiet
