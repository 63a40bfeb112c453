use Rattle.std.proofs.Common.{⊎_elim}
use Rattle.lift_keeper.proofs.Writers.{not_both}
use Rattle.lift_keeper.specs.lemmas.Keepers.{keeper_without_batch, nothing_more}
use Rattle.lift_keeper.proofs.keeper.Keeper.whole.Goals as goal

pub invariant_of-result : goal.invariant_of-result
invariant_of-result g c =
    let writer = c.args.writer in
    keeper_without_batch writer.plan c.args.decider.state c.args.decider.plan writer.register writer.is_broken c.requires.plan c.requires.sealed
    (nothing_more writer.register c.register-safe.result.now c.register-safe.ensures.value c.register-safe.ensures.lawful)
    (λ whole. ⊎_elim (λ broken. absurd (not_both writer.is_broken broken whole)) (λ same. same) c.requires.equal)
