use Rattle.std.proofs.Common.{rules, sym, subst}
use Rattle.lift_desk.specs.Seats.{OwesNothing}
use Rattle.lift_desk.specs.lemmas.Places.{none_owed_with_looks}
use Rattle.lift_relay.proofs.settling.Settler.join.Goals as goal

pub new-requires-clause-answered : goal.new-requires-clause-answered
new-requires-clause-answered g c =
    let answered : OwesNothing c.into_seat.result = search rules in
    subst OwesNothing (sym c.join-seat.ensures.joined) (none_owed_with_looks c.args.ahead c.into_seat.result answered)
