use Rattle.lift_kiosk.proofs.Calls.{wants_a_call}
use Rattle.lift_kiosk.proofs.kiosk.KioskDialect.read.Goals as goal

pub returns-in-None-clause-none : goal.returns-in-None-clause-none
returns-in-None-clause-none c = wants_a_call c.args.line.now c.in-None.ensures.none
