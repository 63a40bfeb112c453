use Rattle.std.proofs.Common.{◌≡◌, ◌↔◌, false, subst}
use Rattle.lift_desk.specs.Seats.{OwesNothing}
use Rattle.lift_parts.specs.Flusher.{FlusherState}
use Rattle.lift_relay.proofs.Owing.{nothing_owed}
use Rattle.lift_relay.proofs.flusher.Flusher.owes.Goals as goal

pub returns-clause-value : goal.returns-clause-value
returns-clause-value g c = subst (λ (v : FlusherState g.row.D.Denot). (c.owes.result ≡ false) ↔ OwesNothing v.seat) c.self.view_is c.owes.ensures

pub returns-clause-none : goal.returns-clause-none
returns-clause-none g c = c.owes.ensures.1 (nothing_owed c.self.inside.settler.seat c.self.inside.end.turns c.self.invariant.all_answered)
