-- Runs that meet join to a run.
use Rattle.std.proofs.Common.{List, [], ◌∷◌, ◌++◌, subst}
use Rattle.lift_base.specs.declared.command.Reply.{Reply}
use Rattle.lift_building.specs.Plan.{Plan}
use Rattle.lift_policy.specs.declared.command.Command.{Command}
use Rattle.lift_policy.specs.Eligible.{Choice}
use Rattle.lift_policy.specs.Step.{State}
use Rattle.lift_policy.specs.Run.{Run}

pub Run-append : (plan : Plan) (choice : Choice) (state mid next : State) (earlier later : List Command) (replies others : List Reply)
    → Run plan choice state earlier replies mid → Run plan choice mid later others next
    → Run plan choice state (earlier ++ later) (replies ++ others) next
Run-append plan choice state mid next [] later [] others first second =
    subst (λ (s : State). Run plan choice s later others next) first second
Run-append plan choice state mid next [] later (reply ∷ replies) others first second = absurd first
Run-append plan choice state mid next (c ∷ earlier) later [] others first second = absurd first
Run-append plan choice state mid next (c ∷ earlier) later (reply ∷ replies) others (between, step, run) second =
    (between, step, Run-append plan choice between mid next earlier later replies others run second)
