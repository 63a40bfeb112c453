use Rattle.std.proofs.Common.{◌∙◌, sym, ap}
use Rattle.lift_decider.specs.Decider.{DeciderState}
use Rattle.lift_keeper.specs.lemmas.Keepers.{keeper_without_batch, nothing_more}
use Rattle.lift_keeper.proofs.keeper.Keeper.reopen.Goals as goal

pub invariant_of-self-2 : goal.invariant_of-self-2
invariant_of-self-2 g c =
    let writer = c.reopen.new.self in
    let made = c.of-self-inside.result in
    keeper_without_batch writer.plan made.state made.plan writer.register writer.is_broken
    (ap (λ (d : DeciderState). d.plan) c.of-self-inside.ensures ∙ c.building-building.ensures ∙ c.self.invariant.of_building ∙ sym c.reopen.ensures.recovers.plan)
    (ap (λ (d : DeciderState). d.state.batch) c.of-self-inside.ensures)
    (nothing_more writer.register c.register.result.now c.register.ensures.value c.register.ensures.lawful)
    (λ _. ap (λ (d : DeciderState). d.state.register) c.of-self-inside.ensures ∙ c.copy_of.ensures.value ∙ c.register.ensures.value)
