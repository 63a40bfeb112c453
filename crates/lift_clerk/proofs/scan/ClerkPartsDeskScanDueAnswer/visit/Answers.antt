use Rattle.std.proofs.Common.{suc, [], ◌∷◌, ◌++◌, Option, Some, None, refl, sym, subst, arith}
use Rattle.std.specs.Option.{option_to_list}
use Rattle.lift_policy.specs.Laws.{RunsJoin}
use Rattle.lift_clerk.specs.declared.answering.DueAnswer.{DueAnswer}
use Rattle.lift_clerk.specs.Visits.{command_at}
use Rattle.lift_clerk.specs.Scanning.{ClerkScans, Decides}
use Rattle.lift_clerk.specs.lemmas.Scanned.{decides-nothing, scans-more}
use Rattle.lift_clerk.proofs.scan.ClerkPartsDeskScanDueAnswer.visit.Goals as goal

pub returns-in_err-ask : goal.returns-in_err-ask
returns-in_err-ask g c = λ start found old.
    let self = c.args.self.now in
    let choice = g.P.Policy.chooses start.policy in
    let look = c.in_err-ask.ensures in
    let runs = subst (λ p. RunsJoin (g.P.Policy.chooses p)) old.0 c.decisions_preserve.ensures.runs in (
      old.0,
      subst (λ (r : Option DueAnswer). ClerkScans choice c.args.desk.now start.seat c.look.new.self start.keeper self.keeper (found ++ option_to_list r) (suc c.args.terminal)) (sym c.from_residual.ensures)
          (scans-more choice c.args.desk.now start.seat self.seat c.look.new.self start.keeper self.keeper self.keeper found [] c.args.terminal None runs c.requires.terminal old.1 look.looked look.tells look.stays refl
          (decides-nothing self.keeper.writer.is_broken self.keeper.writer.plan choice self.keeper.state) (λ whole. omega arith) refl),
    )

pub returns : goal.returns
returns g c = λ start found old.
    let self = c.args.self.now in
    let choice = g.P.Policy.chooses start.policy in
    let look = c.in_ok-ask.ensures in
    let decide = c.decide-reply in
    let runs = subst (λ p. RunsJoin (g.P.Policy.chooses p)) old.0 c.decisions_preserve.ensures.runs in
    let decides = subst (λ p. Decides self.keeper.writer.is_broken self.keeper.writer.plan (g.P.Policy.chooses p) self.keeper.state (command_at c.args.terminal (Some c.in_ok-ask.ask)) (decide.result ∷ []) decide.new.keeper.state) old.0 decide.ensures.decides in (
      old.0,
      scans-more choice c.args.desk.now start.seat self.seat c.look.new.self start.keeper self.keeper decide.new.keeper found (record { terminal = c.args.terminal; reply = decide.result } ∷ []) c.args.terminal (Some c.in_ok-ask.ask) runs
          c.requires.terminal old.1 look.looked look.tells look.stays refl decides decide.ensures.grows decide.ensures.writer,
    )
