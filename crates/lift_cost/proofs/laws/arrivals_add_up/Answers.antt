use Rattle.lift_cost.proofs.Times.{add_up, at_places, none_elsewhere}
use Rattle.lift_cost.proofs.laws.arrivals_add_up.Goals as goal

pub returns : goal.returns
returns c = record { sums = add_up; places = at_places; others = none_elsewhere }
