use Rattle.lift_keeper.specs.lemmas.Keepers.{decided_keeper, nothing_more}
use Rattle.lift_keeper.proofs.keeper.Keeper.decide.Goals as goal

pub invariant_of-self : goal.invariant_of-self
invariant_of-self g c =
    let decider = c.self.inside.decider in
    let writer = c.self.inside.writer in
    decided_keeper writer.plan decider.state c.decide.new.self.state decider.plan c.decide.new.self.plan writer.register writer.is_broken c.args.terminal c.args.number c.args.body.now
    c.self.invariant (nothing_more writer.register c.register-safe.result.now c.register-safe.ensures.value c.register-safe.ensures.lawful) c.decide.ensures.plan
    (c.decisions_preserve.ensures.joins decider.plan decider.state c.args.terminal c.args.number c.args.body.now c.decide.result c.decide.new.self.state c.decide.ensures.step)
