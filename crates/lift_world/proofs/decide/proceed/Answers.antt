use Rattle.std.proofs.Common.{sym, subst, [], Option, None}
use Rattle.lift_policy.specs.Verdict.{IsVerdict}
use Rattle.lift_policy.specs.declared.verdict.Verdict.{Verdict}
use Rattle.lift_policy.specs.lemmas.Verdicts.{new_stop_fits}
use Rattle.lift_world.specs.declared.decide.Decided.{Decided}
use Rattle.lift_world.specs.Carries.{state_with, IsVerdictOf, CarriesOut}
use Rattle.lift_world.proofs.Carried.{carries_stand, carries_place}
use Rattle.lift_world.proofs.decide.proceed.Goals as goal

pub serve-requires-clause-fits : goal.serve-requires-clause-fits
serve-requires-clause-fits c =
    let state = state_with c.args.register.now c.args.positions.now [] in
    new_stop_fits c.args.building.now state c.args.command.now.terminal c.args.command.now.number c.args.command.now.body c.in-Stop.car c.in-Stop.stop
    (subst (λ (v : Verdict). IsVerdict c.args.building.now state c.args.command.now.terminal c.args.command.now.number c.args.command.now.body v) c.in-Stop.is (c.requires.verdict []))

pub returns-in-RepeatedStop-clause-carries : goal.returns-in-RepeatedStop-clause-carries
returns-in-RepeatedStop-clause-carries c =
    subst (λ (o : Option Decided). CarriesOut c.args.building.now c.args.register.now c.args.positions.now c.args.command.now None o c.args.register.now c.stand.new.positions) (sym c.reply_alone-in-RepeatedStop.ensures)
    (carries_stand c.args.building.now c.args.register.now c.args.positions.now c.args.command.now c.in-RepeatedStop.car c.in-RepeatedStop.at c.stand.result c.stand.new.positions
    (subst (λ (v : Verdict). IsVerdictOf c.args.building.now c.args.register.now c.args.positions.now c.args.command.now v) c.in-RepeatedStop.is c.requires.verdict) c.stand.ensures.positions c.stand.ensures.next)

pub returns-in-Place-clause-carries : goal.returns-in-Place-clause-carries
returns-in-Place-clause-carries c =
    subst (λ (o : Option Decided). CarriesOut c.args.building.now c.args.register.now c.args.positions.now c.args.command.now None o c.args.register.now c.stand-in-Place.new.positions) (sym c.reply_alone-in-Place.ensures)
    (carries_place c.args.building.now c.args.register.now c.args.positions.now c.args.command.now c.in-Place.car c.in-Place.at c.stand-in-Place.result c.stand-in-Place.new.positions
    (subst (λ (v : Verdict). IsVerdictOf c.args.building.now c.args.register.now c.args.positions.now c.args.command.now v) c.in-Place.is c.requires.verdict) c.stand-in-Place.ensures.positions c.stand-in-Place.ensures.next)
