use Rattle.std.proofs.Common.{◌∙◌, sym, ap}
use Rattle.lift_decider.specs.Decider.{DeciderState}
use Rattle.lift_keeper.specs.lemmas.Keepers.{keeper_without_batch, nothing_more}
use Rattle.lift_keeper.proofs.keeper.Keeper.open.Goals as goal

pub invariant_of-result : goal.invariant_of-result
invariant_of-result g c =
    let writer = c.in-Ok.writer in
    let made = c.of-decider.result in
    keeper_without_batch writer.plan made.state made.plan writer.register writer.is_broken
    (ap (λ (d : DeciderState). d.plan) c.of-decider.ensures ∙ sym c.in-Ok.ensures.opens.plan)
    (ap (λ (d : DeciderState). d.state.batch) c.of-decider.ensures)
    (nothing_more writer.register c.register.result.now c.register.ensures.value c.register.ensures.lawful)
    (λ _. ap (λ (d : DeciderState). d.state.register) c.of-decider.ensures ∙ c.copy_of-register.ensures.value ∙ c.register.ensures.value)
