use Rattle.std.proofs.Common.{◌∙◌, ap, sym, subst, [], ℕ, List}
use Rattle.lift_policy.specs.Verdict.{IsVerdict}
use Rattle.lift_policy.specs.declared.verdict.Verdict.{Verdict}
use Rattle.lift_policy.specs.lemmas.Verdicts.{new_call_fits}
use Rattle.lift_world.specs.Carries.{state_with}
use Rattle.lift_world.specs.Decided.{is_among}
use Rattle.lift_world.specs.lemmas.Decisions.{among_held}
use Rattle.lift_world.proofs.decide.allot.Goals as goal

pub apply-requires-clause-fits : goal.apply-requires-clause-fits
apply-requires-clause-fits c =
    let state = state_with c.args.register.now c.args.positions.now [] in
    new_call_fits c.args.building.now state c.args.command.now.terminal c.args.command.now.number c.args.command.now.body c.in-Call.call c.in-Call.eligible c.args.car
    (subst (λ (v : Verdict). IsVerdict c.args.building.now state c.args.command.now.terminal c.args.command.now.number c.args.command.now.body v) c.in-Call.is (c.requires.verdict []))
    (among_held c.args.car c.in-Call.eligible
    (ap (λ (xs : List ℕ). is_among c.args.car xs) (sym c.letters.ensures.value) ∙ sym c.contains.ensures.value ∙ c.if-not-contains.false))
