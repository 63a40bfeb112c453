use Rattle.std.proofs.Common.{◌≡◌, ◌==◌, ◌∙◌, ap, sym, refl, [], length, true, false, ℕ, List, Some}
use Rattle.std.proofs.lemmas.Bool.{false≢true}
use Rattle.lift_base.specs.declared.command.Body.TheVariants.{Call}
use Rattle.lift_base.specs.declared.history.Content.TheVariants.{Letter}
use Rattle.lift_cost.specs.declared.call.NewCall.{NewCall}
use Rattle.lift_register.specs.Register.{RegisterState, last_of}
use Rattle.lift_policy.specs.Eligible.{eligible_cars}
use Rattle.lift_policy.specs.Step.{state_seen, call_at}
use Rattle.lift_policy.proofs.Verdicts.{call_of_kiosk, new_call_cause, repeat_clear, repeat_kept, new_as, some_cars}
use Rattle.lift_policy.proofs.verdict.on_call.Goals as goal

pub call_at-requires : goal.call_at-requires
call_at-requires c = call_of_kiosk c.args.building.now (state_seen c.args.view.now []) c.args.command.now.terminal c.args.command.now.number c.args.to c.args.party (c.requires [])

pub returns-in-Some : goal.returns-in-Some
returns-in-Some c batch =
    let plan = c.args.building.now in
    let state = state_seen c.args.view.now batch in
    let terminal = c.args.command.now.terminal in
    let number = c.args.command.now.number in
    let new = new_as c.register-register.result.now state terminal number c.is_next.result true c.is_next.ensures c.register-register.ensures c.if-is_next.true in
    let is = c.call_at.ensures.value in
    let again = is ∙ ap (λ (k : NewCall). call_at plan terminal k.to k.party) (sym is) in
    record {
      cause = sym (new_call_cause plan state terminal number c.args.to c.args.party false (c.requires batch) new
          (some_cars (eligible_cars plan c.args.view.now (call_at plan terminal c.args.to c.args.party)) (λ e. false≢true (sym (c.in-Some.ensures.none.1 (ap (λ (k : NewCall). eligible_cars plan c.args.view.now k) is ∙ e))))));
      case = (ap (λ (k : NewCall). Call k.to k.party) (sym is), new, again, c.in-Some.ensures.some ∙ ap (λ (k : NewCall). eligible_cars plan c.args.view.now k) again);
    }

pub returns-in-None : goal.returns-in-None
returns-in-None c batch =
    let plan = c.args.building.now in
    let state = state_seen c.args.view.now batch in
    let terminal = c.args.command.now.terminal in
    let number = c.args.command.now.number in
    let new = new_as c.register-register.result.now state terminal number c.is_next.result true c.is_next.ensures c.register-register.ensures c.if-is_next.true in
    record {
      cause = sym (new_call_cause plan state terminal number c.args.to c.args.party true (c.requires batch) new
          (ap (λ (k : NewCall). length (eligible_cars plan c.args.view.now k) == 0) (sym c.call_at.ensures.value) ∙ ap (λ (xs : List ℕ). length xs == 0) (c.in-None.ensures.none.0 refl)));
      case = tt;
    }

pub returns-in-Some-kept_car : goal.returns-in-Some-kept_car
returns-in-Some-kept_car c batch =
    let plan = c.args.building.now in
    let state = state_seen c.args.view.now batch in
    let terminal = c.args.command.now.terminal in
    let number = c.args.command.now.number in
    let old = new_as c.register-register.result.now state terminal number c.is_next.result false c.is_next.ensures c.register-register.ensures c.if-is_next.false in
    let kept = repeat_kept plan state terminal number c.args.to c.args.party (c.requires batch) old in
    let named = c.kept_car.ensures number kept.from c.args.to kept.car c.args.party (ap (λ (r : RegisterState). last_of r terminal) c.register-register.ensures ∙ kept.last) in
    let same : Some kept.car ≡ Some c.in-Some-kept_car.car = sym named ∙ c.in-Some-kept_car.is in
    let car_is : kept.car ≡ c.in-Some-kept_car.car = cc in
    record {
      cause = sym (repeat_clear plan state terminal number c.args.to c.args.party (c.requires batch) old);
      case = (kept.from, c.args.to, c.args.party, refl, old, kept.last ∙ ap (λ (car : ℕ). Some (record { number = number; content = Letter kept.from c.args.to car c.args.party })) car_is);
    }

pub unreachable-requires : goal.unreachable-requires
unreachable-requires c =
    let plan = c.args.building.now in
    let state = state_seen c.args.view.now [] in
    let terminal = c.args.command.now.terminal in
    let number = c.args.command.now.number in
    let old = new_as c.register-register.result.now state terminal number c.is_next.result false c.is_next.ensures c.register-register.ensures c.if-is_next.false in
    let kept = repeat_kept plan state terminal number c.args.to c.args.party (c.requires []) old in
    let named = c.kept_car.ensures number kept.from c.args.to kept.car c.args.party (ap (λ (r : RegisterState). last_of r terminal) c.register-register.ensures ∙ kept.last) in
    let none = c.in-None-kept_car.is in
    cc
