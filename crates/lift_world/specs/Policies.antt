-- Whatever a policy decides, the machine decides: a decision under any policy is one under the
-- policy that may name any eligible car.
use Rattle.std.specs.Prelude.{ℕ, List}
use Rattle.lift_base.specs.declared.command.Body.{Body}
use Rattle.lift_base.specs.declared.command.Reply.{Reply}
use Rattle.lift_building.specs.Plan.{Plan}
use Rattle.lift_policy.specs.declared.command.Command.{Command}
use Rattle.lift_policy.specs.Eligible.{Choice, any_eligible}
use Rattle.lift_policy.specs.Step.{State, Step}
use Rattle.lift_policy.specs.Run.{Run}

abbrev pub StepsAreAny : Choice → Type 0
StepsAreAny choice = (plan : Plan) (state : State) (terminal number : ℕ) (body : Body)
    (reply : Reply) (next : State)
    → Step plan choice state terminal number body reply next
    → Step plan any_eligible state terminal number body reply next

abbrev pub RunsAreAny : Choice → Type 0
RunsAreAny choice = (plan : Plan) (state : State) (commands : List Command) (replies : List Reply)
    (next : State)
    → Run plan choice state commands replies next
    → Run plan any_eligible state commands replies next
