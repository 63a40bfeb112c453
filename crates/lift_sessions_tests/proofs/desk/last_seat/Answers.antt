use Rattle.std.proofs.Common.{◌≡◌, ◌-◌, ◌<◌, get_or, Some, sym, ap, ◌∙◌, subst, arith}
use Rattle.std.specs.Prelude.{vec_len}
use Rattle.std.proofs.lemmas.List.Elements.{All-take}
use Rattle.lift_desk.specs.Seats.{TerminalSeat, AreSeatsOf, IsSeatOf}
use Rattle.lift_sessions_tests.proofs.desk.last_seat.Goals as goal

pub returns-clause-seat : goal.returns-clause-seat
returns-clause-seat c =
    let s : TerminalSeat = c.unwrap.result in
    let some_left = c.requires.some_left in
    let is : Some s ≡ Some (get_or c.args.seats.now.items (vec_len c.args.seats.now - 1) s) = sym c.unwrap.ensures ∙ c.pop.ensures.value s some_left in
    let same : s ≡ get_or c.args.seats.now.items (vec_len c.args.seats.now - 1) s = cc in
    subst (IsSeatOf c.args._desk.now) (sym same) (c.requires.at (vec_len c.args.seats.now - 1) s (omega arith))

pub returns-clause-rest : goal.returns-clause-rest
returns-clause-rest c = subst (AreSeatsOf c.args._desk.now) (sym c.pop.ensures.rest) (All-take (IsSeatOf c.args._desk.now) (vec_len c.args.seats.now - 1) c.args.seats.now.items c.requires.at)
