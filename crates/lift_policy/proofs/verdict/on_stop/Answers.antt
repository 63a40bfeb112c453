use Rattle.std.proofs.Common.{sym, refl, [], true, false}
use Rattle.lift_policy.specs.Step.{state_seen}
use Rattle.lift_policy.proofs.Verdicts.{stop_clear, stop_of_car, new_as}
use Rattle.lift_policy.proofs.verdict.on_stop.Goals as goal

pub car_at-car-requires : goal.car_at-car-requires
car_at-car-requires c = stop_of_car c.args.building.now (state_seen c.args.view.now []) c.args.command.now.terminal c.args.command.now.number c.args.stop.floor c.args.stop.dir (c.requires [])

pub returns-then-is_next : goal.returns-then-is_next
returns-then-is_next c batch = record {
  cause = sym (stop_clear c.args.building.now (state_seen c.args.view.now batch) c.args.command.now.terminal c.args.command.now.number c.args.stop.floor c.args.stop.dir (c.requires batch));
  case = (refl, new_as c.register.result.now (state_seen c.args.view.now batch) c.args.command.now.terminal c.args.command.now.number c.is_next.result true c.is_next.ensures c.register.ensures c.if-is_next.true, c.car_at-car.ensures);
}

pub returns-else-is_next : goal.returns-else-is_next
returns-else-is_next c batch = record {
  cause = sym (stop_clear c.args.building.now (state_seen c.args.view.now batch) c.args.command.now.terminal c.args.command.now.number c.args.stop.floor c.args.stop.dir (c.requires batch));
  case = (refl, new_as c.register.result.now (state_seen c.args.view.now batch) c.args.command.now.terminal c.args.command.now.number c.is_next.result false c.is_next.ensures c.register.ensures c.if-is_next.false, c.car_at-car.ensures);
}
