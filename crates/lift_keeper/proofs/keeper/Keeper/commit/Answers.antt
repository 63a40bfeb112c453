use Rattle.std.proofs.Common.{◌≡◌, ◌∙◌, [], sym, ap, subst}
use Rattle.lift_register.specs.Register.{RegisterState, register_of}
use Rattle.lift_decider.specs.Decider.{DeciderState}
use Rattle.lift_keeper.proofs.Recovering.{not_true}
use Rattle.lift_keeper.specs.lemmas.Keepers.{keeper_without_batch, nothing_after}
use Rattle.lift_keeper.proofs.keeper.Keeper.commit.Goals as goal

pub invariant_of-self-2 : goal.invariant_of-self-2
invariant_of-self-2 g c =
    let decider = c.self.inside.decider in
    let writer = c.self.inside.writer in
    let after = c.commit.new.self in
    let sealed = c.clear_batch.new.self in
    let kept = c.clear_batch.ensures in
    let whole = not_true writer.is_broken (λ was. cc (c.commit.ensures.commits.broken.1 was, c.in_ok-safe.was)) in
    let batch = c.batch.ensures.value in
    let is : after.register ≡ register_of writer.register decider.state.batch = c.in_ok-safe.ensures.commits.safe.register ∙ ap (register_of writer.register) batch in
    keeper_without_batch after.plan sealed.state sealed.plan after.register after.is_broken
    (ap (λ (d : DeciderState). d.plan) kept ∙ c.self.invariant.of_building ∙ sym c.commit.ensures.commits.same.0)
    (ap (λ (d : DeciderState). d.state.batch) kept)
    (subst (λ (r : RegisterState). register_of r [] ≡ r) (sym is) (nothing_after writer.register decider.state.batch))
    (λ _. ap (λ (d : DeciderState). d.state.register) kept ∙ c.self.invariant.shows whole ∙ sym is)
