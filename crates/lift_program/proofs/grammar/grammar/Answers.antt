use Rattle.std.proofs.Common.{ap, codes, ◌∙◌}
use Rattle.clap.specs.Words.{App, app_of, new_app, with_subcommand}
use Rattle.std.proofs.lemmas.Result.{IfOk-weaker}
use Rattle.lift_program.specs.Words.{format_app, show_app, serve_app}
use Rattle.lift_program.proofs.grammar.grammar.Goals as goal

pub returns : goal.returns
returns c = IfOk-weaker c.with_command-4.result _ _ (λ command adds. adds serve_app c.serve_command.ensures
    ∙ ap (λ (a : App). with_subcommand a serve_app.top) (c.in_ok-program-3.ensures show_app c.show_command.ensures
    ∙ ap (λ (a : App). with_subcommand a show_app.top) (c.in_ok-program-2.ensures format_app c.format_command.ensures
    ∙ ap (λ (a : App). with_subcommand a format_app.top) (c.in_ok-program.ensures (new_app (codes "replay")) (λ old new added. added.shape c.new.ensures.local ∙ ap (λ (a : App). with_subcommand (app_of old) a.top) c.new.ensures.app)
    ∙ ap (λ (a : App). with_subcommand a (new_app (codes "replay")).top) c.bare.ensures)))) c.with_command-4.ensures
