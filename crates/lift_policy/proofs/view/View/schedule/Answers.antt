use Rattle.std.proofs.Common.{◌∙◌, None, arith}
use Rattle.lift_policy.specs.lemmas.Views.{seen_at}
use Rattle.lift_policy.proofs.view.View.schedule.Goals as goal

pub returns-in-None : goal.returns-in-None
returns-in-None c =
    seen_at c.self.inside.register.now c.self.inside.schedules.now c.from.result c.args.car _ c.args.self.now c.self.invariant c.self.view_is
    (c.in-None.ensures.lookup.4 (omega arith) None) (c.from.ensures ∙ c.get.ensures.value)

pub returns-in-Some : goal.returns-in-Some
returns-in-Some c =
    seen_at c.self.inside.register.now c.self.inside.schedules.now c.from.result c.args.car _ c.args.self.now c.self.invariant c.self.view_is
    (c.as_ref.ensures.value ∙ c.in-Some.ensures.lookup.4 (omega arith) None) (c.from.ensures ∙ c.get.ensures.value)
