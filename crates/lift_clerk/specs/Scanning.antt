-- A scan, as far as it has come.
use Rattle.std.specs.Prelude.{ℕ, Bool, true, false, ◌≡◌, ◌≤◌, List, map, length}
use Rattle.atomic_table.specs.Seated.{TableId}
use Rattle.lift_base.specs.declared.command.Reply.{Reply}
use Rattle.lift_building.specs.Plan.{Plan}
use Rattle.lift_desk.specs.Seats.{ClerkPlace, IsClerkOf}
use Rattle.lift_policy.specs.declared.command.Command.{Command}
use Rattle.lift_policy.specs.Eligible.{Choice}
use Rattle.lift_policy.specs.Step.{State}
use Rattle.lift_policy.specs.Run.{Run, RunWhileBroken}
use Rattle.lift_keeper.specs.Keeper.{KeeperView}
use Rattle.lift_clerk.specs.declared.answering.DueAnswer.{DueAnswer}
use Rattle.lift_clerk.specs.Answering.{terminals_in, replies_in}
use Rattle.lift_clerk.specs.Visits.{Visit, FindsAt, Scans, commands_of}

abbrev pub terminals_of : List Command → List ℕ
terminals_of commands = map (λ (c : Command). c.terminal) commands

-- commands are decided by the rules, or answered Unknown
abbrev pub Decides : Bool → Plan → Choice → State → List Command → List Reply → State → Type 0
Decides true plan choice state commands replies next = RunWhileBroken state commands replies next
Decides false plan choice state commands replies next = Run plan choice state commands replies next

-- what these looks found was decided, each command on the state that the earlier ones left
pub record ClerkDecides (choice : Choice) (plan : Plan) (is_broken : Bool) (before after : State)
    (answers : List DueAnswer) (visits : List Visit) : Type 0 where
  pub terminals : terminals_in answers ≡ terminals_of (commands_of 0 visits)
  pub decides : Decides is_broken plan choice before (commands_of 0 visits)
      (replies_in answers) after

-- a clerk's scan as far as n terminals of its desk: of its seats, and of its keeper
pub record ClerkScans {D : Type 0} (choice : Choice) (desk : List TableId)
    (places seat : List ClerkPlace) (before after : KeeperView D) (answers : List DueAnswer)
    (n : ℕ) : Type 0 where
  pub scans : Scans FindsAt (ClerkDecides choice before.writer.plan before.writer.is_broken
      before.state after.state answers) places seat n
  pub seated : IsClerkOf desk seat
  pub writer : after.writer ≡ before.writer
  pub few : before.writer.is_broken ≡ false → length after.state.batch ≤ n
