use Rattle.std.proofs.Common.{refl}
use Rattle.lift_clerk.proofs.Begun.{first, begins_over}
use Rattle.lift_clerk.proofs.history.begin_over.Goals as goal

pub returns-clause-first : goal.returns-clause-first
returns-clause-first g c =
    let k = c.args.keeper in
    let shown = c.register-shown.ensures.possible in
    first c.args.desk.now c.args.seat k c.args.policy c.new.result c.new.ensures c.requires.unused c.requires.opened c.requires.whole.0 c.requires.whole.1
    shown.building shown.inside.possible.register shown.inside.possible.belongs

pub returns-clause-again : goal.returns-clause-again
returns-clause-again g c left reads only =
    let k = c.args.keeper in
    begins_over c.args.desk.now c.args.seat k c.args.policy c.new.result c.new.ensures c.requires.unused c.requires.opened c.requires.whole.0 c.requires.whole.1
    k.writer.plan left refl reads only
