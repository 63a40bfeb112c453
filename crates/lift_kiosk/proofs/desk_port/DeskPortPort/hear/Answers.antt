use Rattle.std.proofs.Common.{ap, refl, ◌∙◌}
use Rattle.lift_desk.specs.Seats.{TerminalSeat}
use Rattle.lift_kiosk.specs.Desk.{DeskPortState, port_view}
use Rattle.lift_kiosk.specs.Hearing.{heard}
use Rattle.lift_kiosk.proofs.Desk.{hears_reply}
use Rattle.lift_kiosk.proofs.desk_port.DeskPortPort.hear.Goals as goal

pub returns-clause-some : goal.returns-clause-some
returns-clause-some g c =
    let looked = c.in_ok-reply.ensures.looked in
    hears_reply c.self.inside.seat.view c.hear.new.seat.view c.self.inside.rests.count looked.0 c.in_ok-reply.reply (ap (λ (s : TerminalSeat). s.view) looked.1) looked.2 c.in_ok-reply.ensures.in_range (c.in_ok-reply.ensures.rests refl)
    ∙ ap (λ (p : DeskPortState). heard (port_view p.seat.view p.rests) c.in_ok-reply.reply) c.self.view_is
