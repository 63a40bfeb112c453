use Rattle.std.proofs.Common.{rules, sym, ◌∙◌}
use Rattle.lift_base.specs.Output.{sink_of}
use Rattle.lift_kiosk.specs.Lines.{source_of}
use Rattle.lift_serve.specs.HeldInside.{seen}
use Rattle.lift_serve.proofs.Sessions.{visited}
use Rattle.lift_serve.proofs.prepared.seating.held.HeldSeat.visit.Goals as goal

pub invariant_of-result : goal.invariant_of-result
invariant_of-result g c =
    let after = visited (seen c.self.inside) c.session_of-end.new.last c.into_seat-seat.result c.session_of-end.result
    (source_of g.I.Read.remaining c.args.reader.now) (source_of g.I.Read.remaining c.session_of-end.new.reader)
    (sink_of g.O.Write.contents c.args.writer.now) (sink_of g.O.Write.contents c.session_of-end.new.writer) c.new-port.result c.session_of-end.new.port _
    c.new-port.ensures c.session_of-end.ensures.stays c.into_seat-seat.ensures.seat c.terminal-terminal.ensures c.session_of-end.ensures.visit
    c.into_seat-seat.ensures.stays c.self.invariant.0 in
    (after.1, c.self.invariant.1 ∙ sym after.0.terminal)

pub returns : goal.returns
returns g c =
    let after = visited (seen c.self.inside) c.session_of-end.new.last c.into_seat-seat.result c.session_of-end.result
    (source_of g.I.Read.remaining c.args.reader.now) (source_of g.I.Read.remaining c.session_of-end.new.reader)
    (sink_of g.O.Write.contents c.args.writer.now) (sink_of g.O.Write.contents c.session_of-end.new.writer) c.new-port.result c.session_of-end.new.port _
    c.new-port.ensures c.session_of-end.ensures.stays c.into_seat-seat.ensures.seat c.terminal-terminal.ensures c.session_of-end.ensures.visit
    c.into_seat-seat.ensures.stays c.self.invariant.0 in
    let made = after.0 in
    search rules
