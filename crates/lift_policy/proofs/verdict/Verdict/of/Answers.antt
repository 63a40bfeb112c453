use Rattle.std.proofs.Common.{◌∙◌, ap, sym, subst, refl, []}
use Rattle.lift_base.specs.declared.command.Body.{Body}
use Rattle.lift_policy.specs.Step.{state_seen}
use Rattle.lift_policy.specs.Verdict.{cause_before_cars, IsVerdict}
use Rattle.lift_policy.specs.declared.verdict.Verdict.TheVariants.{Place}
use Rattle.lift_policy.proofs.Verdicts.{caused_before, place_clear, place_of_car}
use Rattle.lift_policy.proofs.verdict.Verdict.of.Goals as goal

pub returns-in-Some : goal.returns-in-Some
returns-in-Some c batch = record {
  cause = caused_before c.args.building.now (state_seen c.args.view.now batch) c.args.command.now.terminal c.args.command.now.number c.args.command.now.body c.in-Some.reason (c.in-Some.ensures batch);
  case = tt;
}

pub on_call-requires : goal.on_call-requires
on_call-requires c batch =
    ap (λ (b : Body). cause_before_cars c.args.building.now (state_seen c.args.view.now batch) c.args.command.now.terminal c.args.command.now.number b) (sym c.in-Call.is) ∙ sym (c.in-None.ensures batch)

pub returns-in-Call : goal.returns-in-Call
returns-in-Call c batch =
    subst (λ (b : Body). IsVerdict c.args.building.now (state_seen c.args.view.now batch) c.args.command.now.terminal c.args.command.now.number b c.on_call.result) (sym c.in-Call.is) (c.on_call.ensures batch)

pub on_stop-requires : goal.on_stop-requires
on_stop-requires c batch =
    ap (λ (b : Body). cause_before_cars c.args.building.now (state_seen c.args.view.now batch) c.args.command.now.terminal c.args.command.now.number b) (sym c.in-Stop.is) ∙ sym (c.in-None.ensures batch)

pub returns-in-Stop : goal.returns-in-Stop
returns-in-Stop c batch =
    subst (λ (b : Body). IsVerdict c.args.building.now (state_seen c.args.view.now batch) c.args.command.now.terminal c.args.command.now.number b c.on_stop.result) (sym c.in-Stop.is) (c.on_stop.ensures batch)

pub car_at-car-requires : goal.car_at-car-requires
car_at-car-requires c =
    place_of_car c.args.building.now (state_seen c.args.view.now []) c.args.command.now.terminal c.args.command.now.number c.in-Place.floor c.in-Place.dir
    (ap (λ (b : Body). cause_before_cars c.args.building.now (state_seen c.args.view.now []) c.args.command.now.terminal c.args.command.now.number b) (sym c.in-Place.is) ∙ sym (c.in-None.ensures []))

pub returns-in-Place : goal.returns-in-Place
returns-in-Place c batch =
    subst (λ (b : Body). IsVerdict c.args.building.now (state_seen c.args.view.now batch) c.args.command.now.terminal c.args.command.now.number b (Place c.car_at-car.result (record { floor = c.in-Place.floor; dir = c.in-Place.dir }))) (sym c.in-Place.is)
    (record {
      cause = sym (place_clear c.args.building.now (state_seen c.args.view.now batch) c.args.command.now.terminal c.args.command.now.number c.in-Place.floor c.in-Place.dir
          (ap (λ (b : Body). cause_before_cars c.args.building.now (state_seen c.args.view.now batch) c.args.command.now.terminal c.args.command.now.number b) (sym c.in-Place.is) ∙ sym (c.in-None.ensures batch)));
      case = (refl, c.car_at-car.ensures);
    })
