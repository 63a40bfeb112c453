use Rattle.std.proofs.Common.{rules, [], sym, inr, refl, string_bytes}
use Rattle.std.proofs.lemmas.List.{append-nil}
use Rattle.lift_desk.specs.Seats.{Waits}
use Rattle.lift_replay.specs.Terminals.{seat_at}
use Rattle.lift_replay.proofs.Told.{has_asked}
use Rattle.lift_replay.proofs.lines.push_ask.Goals as goal

pub returns-in-Ok-clause-asks : goal.returns-in-Ok-clause-asks
returns-in-Ok-clause-asks c =
    let free : ¬ Waits (seat_at c.args.station.now.terminals.seats.items c.args.terminal).view = λ waits. let err = c.ask.ensures.waiting.1 waits in let ok = c.in-Ok.is in cc in (
      [],
      inr (inr (
        free,
        (λ spent. let err = c.ask.ensures.spent.1 (free, spent) in let ok = c.in-Ok.is in cc),
        has_asked c.args.station.now.terminals.seats.items c.ask.new.self.seats.items c.tell.new.self.seats.items c.args.station.now.clerk c.tell.new.clerk c.args.terminal c.from-index.result c.args.number c.args.body
            (search rules) c.in-Ok.ensures.asked c.in-Ok.ensures.in_range c.tell.ensures.seats c.tell.ensures.told,
        refl,
      )),
      sym (append-nil (string_bytes c.args.report.now)),
    )
