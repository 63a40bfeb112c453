use Rattle.std.proofs.Common.{◌≡◌, ap, ap₂, ◌∙◌}
use Rattle.clap.specs.Words.{App, app_of, with_rule, with_subcommand}
use Rattle.std.proofs.lemmas.Result.{IfOk-weaker}
use Rattle.lift_program.specs.Words.{show_app}
use Rattle.lift_program.proofs.Commands.{still_local}
use Rattle.lift_program.proofs.grammar.show_command.Goals as goal

pub returns : goal.returns
returns c = IfOk-weaker c.arg-2.result _ _ (λ command adds.
    let show_is : app_of command ≡ show_app = adds.shape c.word-2.ensures.local
    ∙ ap₂ with_rule (c.in_ok-arg.ensures.shape c.word.ensures.local ∙ ap₂ with_rule c.new.ensures.app c.word.ensures.rule) c.word-2.ensures.rule in
    let local = still_local _ _ _ adds.globals
    (still_local _ _ _ c.in_ok-arg.ensures.globals c.new.ensures.local c.word.ensures.local) c.word-2.ensures.local in
    λ old new added. added.shape local ∙ ap (λ (a : App). with_subcommand (app_of old) a.top) show_is) c.arg-2.ensures
