-- As many answers as commands.
use Rattle.std.proofs.Common.{◌≡◌, List, [], ◌∷◌, length, sym, refl, ap, ◌∙◌, false, arith}
use Rattle.std.proofs.lemmas.List.{length-map}
use Rattle.lift_base.specs.declared.command.Reply.TheVariants.{Unknown}
use Rattle.lift_policy.specs.declared.command.Command.{Command}
use Rattle.lift_policy.specs.Run.{unknowns}
use Rattle.lift_clerk.specs.declared.answering.DueAnswer.{DueAnswer}
use Rattle.lift_clerk.specs.Answering.{terminals_in, stored_replies}
use Rattle.lift_clerk.specs.Scanning.{terminals_of}

pub many-commands : (answers : List DueAnswer) (commands : List Command) → terminals_in answers ≡ terminals_of commands → length answers ≡ length commands
many-commands answers commands e =
    sym (length-map answers (λ (a : DueAnswer). a.terminal)) ∙ ap length e ∙ length-map commands (λ (c : Command). c.terminal)

-- where nothing is safe, each command is answered Unknown
pub told_unknown : (answers : List DueAnswer) (commands : List Command) → length answers ≡ length commands → stored_replies false answers ≡ unknowns commands
told_unknown [] [] e = refl
told_unknown [] (c ∷ commands) e = absurd (omega arith)
told_unknown (a ∷ answers) [] e = absurd (omega arith)
told_unknown (a ∷ answers) (c ∷ commands) e = ap (λ l. Unknown ∷ l) (told_unknown answers commands (omega arith))
