use Rattle.std.proofs.Common.{◌≡◌, ◌++◌, take, string_bytes}
use Rattle.std.specs.List.{flat_map}
use Rattle.lift_policy.specs.Choices.{total_cost_at}
use Rattle.lift_replay.specs.Report.{cost_text}
use Rattle.lift_replay.proofs.query.Offer.push_costs.Given as goal

abbrev pub invariant-loop-car : goal.invariant-loop-car
invariant-loop-car l =
    string_bytes l.report
    ≡ string_bytes l.fn.report ++ flat_map (λ car. cost_text car (total_cost_at l.self.building.now l.self.view.now l.self.call.now car)) (take l.car-index l.car-items)
