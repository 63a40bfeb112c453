use Rattle.std.proofs.Common.{ap, ◌∙◌}
use Rattle.lift_parts.specs.Batch.{turns_of}
use Rattle.lift_parts.specs.Scan.{turns_in}
use Rattle.lift_relay.specs.Scanner.{ScannerState}
use Rattle.lift_relay.proofs.Told.{turns_told, uses_told}
use Rattle.lift_relay.proofs.deciding.Scanner.tell_terminal.Goals as goal

pub returns-clause-turns : goal.returns-clause-turns
returns-clause-turns g c =
    ap turns_of c.tell_ahead.ensures.ahead ∙ turns_told c.self.inside.parts.seat c.args.seat.now.terminal c.args.seat.now.view.asked
    ∙ ap (λ (v : ScannerState g.row.P.Denot). turns_of v.seat) c.self.view_is

pub returns-clause-uses : goal.returns-clause-uses
returns-clause-uses g c =
    ap turns_in c.tell_ahead.ensures.ahead ∙ uses_told c.self.inside.parts.seat c.args.seat.now.terminal c.args.seat.now.view.asked
    ∙ ap (λ (v : ScannerState g.row.P.Denot). turns_in v.seat) c.self.view_is
