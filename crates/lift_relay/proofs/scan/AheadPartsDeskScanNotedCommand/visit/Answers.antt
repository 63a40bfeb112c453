use Rattle.std.proofs.Common.{suc, List, [], ◌∷◌, ◌++◌, Option, Some, None, refl, sym, subst, arith}
use Rattle.std.specs.Option.{option_to_list}
use Rattle.lift_desk.specs.Seats.{ClerkPlace}
use Rattle.lift_policy.specs.declared.command.Command.{Command}
use Rattle.lift_policy.specs.Laws.{RunsJoin}
use Rattle.lift_policy.specs.Run.{Run}
use Rattle.lift_parts.specs.declared.taken.NotedCommand.{NotedCommand}
use Rattle.lift_relay.specs.Scanner.{TakesAhead}
use Rattle.lift_relay.proofs.Scanned.{takes-more}
use Rattle.lift_relay.proofs.scan.AheadPartsDeskScanNotedCommand.visit.Goals as goal

pub returns-in_err-ask : goal.returns-in_err-ask
returns-in_err-ask g c = λ start found old.
    let self = c.args.self.now in
    let choice = g.P.Policy.chooses start.policy in
    let look = c.in_err-ask.ensures in
    let runs = subst (λ p. RunsJoin (g.P.Policy.chooses p)) old.0 c.decisions_preserve.ensures.runs in (
      old.0,
      subst (λ (r : Option NotedCommand). TakesAhead choice c.args.desk.now start.seat c.take.new.ahead start.decider self.decider (found ++ option_to_list r) (suc c.args.terminal)) (sym c.from_residual.ensures)
          (takes-more choice c.args.desk.now start.seat self.seat c.take.new.ahead start.decider self.decider self.decider found None c.args.terminal None runs c.requires.terminal old.1
          look.looked look.in_range look.turn look.known look.finds look.last look.stays tt refl refl (omega arith) refl),
    )

pub returns : goal.returns
returns g c = λ start found old.
    let self = c.args.self.now in
    let choice = g.P.Policy.chooses start.policy in
    let ask = c.in_ok-ask.ask in
    let look = c.in_ok-ask.ensures in
    let note = c.note-note in
    let decide = c.decide-reply in
    let command : Command = record { terminal = c.args.terminal; number = ask.number; body = ask.body } in
    let k : NotedCommand = record { command = command; reply = decide.result; note = note.result } in
    let runs = subst (λ p. RunsJoin (g.P.Policy.chooses p)) old.0 c.decisions_preserve.ensures.runs in
    let run = subst (λ p. Run self.decider.plan (g.P.Policy.chooses p) self.decider.state (command ∷ []) (decide.result ∷ []) decide.new.self.state) old.0 (decide.new.self.state, decide.ensures.step, refl) in (
      old.0,
      subst (λ (s : List ClerkPlace). TakesAhead choice c.args.desk.now start.seat s start.decider decide.new.self (found ++ k ∷ []) (suc c.args.terminal)) (sym note.ensures.same)
          (takes-more choice c.args.desk.now start.seat self.seat c.take.new.ahead start.decider self.decider decide.new.self found (Some k) c.args.terminal (Some ask) runs c.requires.terminal old.1
          look.looked look.in_range look.turn look.known look.finds look.last look.stays (note.ensures.of, note.ensures.word) refl run decide.ensures.grows decide.ensures.plan),
    )
