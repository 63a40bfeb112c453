use Rattle.std.proofs.Common.{sym, subst}
use Rattle.lift_policy.specs.Laws.{IsStateIn}
use Rattle.lift_policy.specs.lemmas.Verdicts.{repeat_inside, place_inside}
use Rattle.lift_decider.proofs.Inside.{standing_inside}
use Rattle.lift_decider.proofs.decider.Decider.carry_out.Goals as goal

pub invariant_of-self-in-RepeatedStop : goal.invariant_of-self-in-RepeatedStop
invariant_of-self-in-RepeatedStop g c = record {
  building = c.self.invariant.building;
  inside = subst (IsStateIn c.self.inside.building.now) (sym c.stand.ensures.state)
      (standing_inside c.self.inside.building.now c.self.inside.group c.in-RepeatedStop.car c.in-RepeatedStop.position.floor c.in-RepeatedStop.position.dir
      (repeat_inside c.self.inside.building.now c.self.inside.group c.args.command.now.terminal c.args.command.now.number c.args.command.now.body c.in-RepeatedStop.car c.in-RepeatedStop.position c.in-RepeatedStop.ensures)
      c.self.invariant.inside);
}

pub invariant_of-self-in-Place : goal.invariant_of-self-in-Place
invariant_of-self-in-Place g c = record {
  building = c.self.invariant.building;
  inside = subst (IsStateIn c.self.inside.building.now) (sym c.stand-in-Place.ensures.state)
      (standing_inside c.self.inside.building.now c.self.inside.group c.in-Place.car c.in-Place.position.floor c.in-Place.position.dir
      (place_inside c.self.inside.building.now c.self.inside.group c.args.command.now.terminal c.args.command.now.number c.args.command.now.body c.in-Place.car c.in-Place.position c.in-Place.ensures)
      c.self.invariant.inside);
}
