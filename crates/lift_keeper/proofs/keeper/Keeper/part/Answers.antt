use Rattle.std.proofs.Common.{◌≡◌, ⊎_elim, [], false, ◌∙◌, ap}
use Rattle.lift_register.specs.Register.{register_of}
use Rattle.lift_decider.specs.Decider.{DeciderState}
use Rattle.lift_keeper.specs.Keeper.{KeeperView}
use Rattle.lift_keeper.proofs.Writers.{not_both}
use Rattle.lift_keeper.specs.lemmas.Keepers.{nothing_more}
use Rattle.lift_keeper.proofs.keeper.Keeper.part.Goals as goal

pub returns-clause-equal : goal.returns-clause-equal
returns-clause-equal g c = λ was.
    let decider = c.self.inside.decider in
    let writer = c.self.inside.writer in
    let whole : writer.is_broken ≡ false = ap (λ (k : KeeperView g.row.D.Denot). k.writer.is_broken) c.self.view_is ∙ was in
    let batch : c.args.self.state.batch ≡ [] = ⊎_elim (λ empty. empty) (λ broken. absurd (not_both c.args.self.writer.is_broken broken was)) c.requires in
    let none : decider.state.batch ≡ [] = ap (λ (k : KeeperView g.row.D.Denot). k.state.batch) c.self.view_is ∙ batch in
    ap (λ (d : DeciderState). d.state.register) c.clear_batch.ensures ∙ c.self.invariant.shows whole ∙ ap (register_of writer.register) none
    ∙ nothing_more writer.register c.register-safe.result.now c.register-safe.ensures.value c.register-safe.ensures.lawful
