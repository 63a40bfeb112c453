use Rattle.std.proofs.Common.{sym, subst}
use Rattle.lift_base.specs.declared.history.Entry.TheVariants.{Allot}
use Rattle.lift_register.specs.Prelude.{Fits}
use Rattle.lift_policy.specs.Eligible.{AreEligible}
use Rattle.lift_policy.specs.Step.{State, view_of}
use Rattle.lift_policy.specs.Verdict.{IsVerdict}
use Rattle.lift_policy.specs.declared.verdict.Verdict.TheVariants.{Call}
use Rattle.lift_policy.specs.lemmas.Verdicts.{new_call_fits, new_call_eligible}
use Rattle.lift_decider.specs.Decider.{DeciderState}
use Rattle.lift_decider.proofs.decider.Decider.allot.Goals as goal

pub allot-requires-clause-fits : goal.allot-requires-clause-fits
allot-requires-clause-fits g c =
    subst (λ (s : State). Fits c.self.inside.building.now s.register
    (Allot c.args.command.now.terminal c.args.command.now.number c.args.call.now.from c.args.call.now.to c.chosen-car.result c.args.call.now.party))
    (sym c.list_halts.ensures)
    (new_call_fits c.self.inside.building.now c.self.inside.group c.args.command.now.terminal c.args.command.now.number c.args.command.now.body c.args.call.now c.args.eligible c.chosen-car.result
    (subst (λ (d : DeciderState). IsVerdict d.plan d.state c.args.command.now.terminal c.args.command.now.number c.args.command.now.body (Call c.args.call.now c.args.eligible)) (sym c.self.view_is) c.requires.verdict)
    c.chosen-car.ensures.member)

pub chosen-car-requires-clause-eligible : goal.chosen-car-requires-clause-eligible
chosen-car-requires-clause-eligible g c =
    subst (λ (s : State). AreEligible c.self.inside.building.now (view_of s) c.args.call.now c.args.eligible) (sym c.list_halts.ensures)
    (new_call_eligible c.self.inside.building.now c.self.inside.group c.args.command.now.terminal c.args.command.now.number c.args.command.now.body c.args.call.now c.args.eligible
    (subst (λ (d : DeciderState). IsVerdict d.plan d.state c.args.command.now.terminal c.args.command.now.number c.args.command.now.body (Call c.args.call.now c.args.eligible)) (sym c.self.view_is) c.requires.verdict))
