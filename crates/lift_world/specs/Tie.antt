-- Each take of the machine is one decision of the rules, and each decision that the rules allow is
-- a take.
use Rattle.std.specs.Prelude.{ℕ, ◌≡◌, ◌≤◌, true, reverse, find, length, Option, Some}
use Rattle.lift_base.specs.declared.command.Reply.{Reply}
use Rattle.lift_policy.specs.Eligible.{Choice, any_eligible}
use Rattle.lift_policy.specs.Step.{State, Step}
use Rattle.lift_policy.specs.declared.command.Command.{Command}
use Rattle.lift_world.specs.declared.event.Event.TheVariants.{Take}
use Rattle.lift_world.specs.World.{World, asks, state_of}
use Rattle.lift_world.specs.Next.{next, may_take, deciding}
use Rattle.lift_world.specs.Possible.{CanBeLookedAt}

-- the policy that names this letter
abbrev pub naming : Option ℕ → Choice
naming letter plan view call eligible car = letter ≡ Some car

-- the ask that a take finds
abbrev pub TakeFinds : World → ℕ → Command → Type 0
TakeFinds w terminal command = (may_take w terminal ≡ true)
    × (find (asks terminal) (reverse w.asked) ≡ Some command)

-- the take decides that ask by the rules, under the policy that names its letter
pub record IsStep (w : World) (terminal : ℕ) (letter : Option ℕ) (after : World) : Type 0 where
  pub command : Command
  pub reply : Reply
  pub state : State
  pub finds : TakeFinds w terminal command
  pub step : Step w.building (naming letter)
      (state_of w) command.terminal command.number command.body reply state
  pub decided : after ≡ deciding w command (record { reply = reply; next = state })
  pub state_is : w.sealed ≤ length w.accepted → state_of after ≡ state

abbrev pub TakesAreSteps : World → Type 0
TakesAreSteps w = (terminal : ℕ) (letter : Option ℕ) (after : World)
    → next w (Take terminal letter) ≡ Some after → IsStep w terminal letter after

-- whatever the rules allow under the policy that may name any eligible car, some take has that
-- outcome
abbrev pub StepsAreTakes : World → Type 0
StepsAreTakes w = (terminal : ℕ) (command : Command) (reply : Reply) (state : State)
    → TakeFinds w terminal command
    → Step w.building any_eligible (state_of w) command.terminal command.number command.body reply
    state
    → (letter : Option ℕ) × (next w (Take terminal letter)
    ≡ Some (deciding w command (record { reply = reply; next = state })))

-- the ask that a look finds, and a decision of the rules on it that some take makes
pub record HasTake (w : World) (terminal : ℕ) : Type 0 where
  pub command : Command
  pub letter : Option ℕ
  pub reply : Reply
  pub state : State
  pub finds : TakeFinds w terminal command
  pub takes : next w (Take terminal letter)
      ≡ Some (deciding w command (record { reply = reply; next = state }))

-- wherever a terminal can be looked at, a take is possible: the rules decide on every ask
abbrev pub LooksAreTakes : World → Type 0
LooksAreTakes w = (terminal : ℕ) → CanBeLookedAt w terminal → HasTake w terminal
