use Rattle.lift_cost.proofs.Sooner.{others_no_sooner, costs_add_up, degradations_add_up}
use Rattle.lift_cost.proofs.Taken.{times_stay, totals_stay}
use Rattle.lift_cost.proofs.laws.nobody_arrives_sooner.Goals as goal

pub returns : goal.returns
returns c = record { others = others_no_sooner; costs = costs_add_up; degradations = degradations_add_up; times = times_stay; totals = totals_stay }
