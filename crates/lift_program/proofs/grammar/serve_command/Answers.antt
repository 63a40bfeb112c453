use Rattle.std.proofs.Common.{◌≡◌, ap, ap₂, codes, ◌∙◌}
use Rattle.clap.specs.Words.{App, app_of, with_rule, with_subcommand}
use Rattle.std.proofs.lemmas.Result.{IfOk-weaker}
use Rattle.lift_program.specs.Words.{app_on, option_rule, serve_app}
use Rattle.lift_program.proofs.Commands.{still_local}
use Rattle.lift_program.proofs.grammar.serve_command.Goals as goal

pub returns : goal.returns
returns c = IfOk-weaker c.arg-6.result _ _ (λ command adds.
    let on_serve : app_of c.in_ok-arg-2.field-0 ≡ app_on (codes "serve") = c.in_ok-arg-2.ensures.shape c.word-2.ensures.local
    ∙ ap₂ with_rule (c.in_ok-arg.ensures.shape c.word.ensures.local ∙ ap₂ with_rule c.new.ensures.app c.word.ensures.rule) c.word-2.ensures.rule in
    let on_port : app_of c.in_ok-arg-3.field-0 ≡ with_rule (app_on (codes "serve")) (option_rule (codes "port")) = c.in_ok-arg-3.ensures.shape c.option.ensures.local ∙ ap₂ with_rule on_serve c.option.ensures.rule in
    let on_sessions : app_of c.in_ok-arg-4.field-0 ≡ with_rule (with_rule (app_on (codes "serve")) (option_rule (codes "port"))) (option_rule (codes "sessions")) =
    c.in_ok-arg-4.ensures.shape c.option-2.ensures.local ∙ ap₂ with_rule on_port c.option-2.ensures.rule in
    let on_policy : app_of c.in_ok-arg-5.field-0 ≡ with_rule (with_rule (with_rule (app_on (codes "serve")) (option_rule (codes "port"))) (option_rule (codes "sessions"))) (option_rule (codes "policy")) =
    c.in_ok-arg-5.ensures.shape c.option-3.ensures.local ∙ ap₂ with_rule on_sessions c.option-3.ensures.rule in
    let serve_is : app_of command ≡ serve_app = adds.shape c.flag.ensures.local ∙ ap₂ with_rule on_policy c.flag.ensures.rule in
    let local = still_local _ _ _ adds.globals
    (still_local _ _ _ c.in_ok-arg-5.ensures.globals (still_local _ _ _ c.in_ok-arg-4.ensures.globals (still_local _ _ _ c.in_ok-arg-3.ensures.globals
    (still_local _ _ _ c.in_ok-arg-2.ensures.globals
    (still_local _ _ _ c.in_ok-arg.ensures.globals c.new.ensures.local c.word.ensures.local) c.word-2.ensures.local)
    c.option.ensures.local) c.option-2.ensures.local) c.option-3.ensures.local) c.flag.ensures.local in
    λ old new added. added.shape local ∙ ap (λ (a : App). with_subcommand (app_of old) a.top) serve_is) c.arg-6.ensures
