-- Decisions along a list of commands, and what a turn answers while its keeper is broken.
use Rattle.std.specs.Prelude.{◌≡◌, List, [], ◌∷◌, map}
use Rattle.lift_base.specs.declared.command.Reply.{Reply}
use Rattle.lift_base.specs.declared.command.Reply.TheVariants.{Unknown}
use Rattle.lift_building.specs.Plan.{Plan}
use Rattle.lift_policy.specs.declared.command.Command.{Command}
use Rattle.lift_policy.specs.Eligible.{Choice}
use Rattle.lift_policy.specs.Step.{State, Step}

-- these commands may be answered so, one after another, each on the state that the earlier ones
-- left
abbrev pub Run : Plan → Choice → State → List Command → List Reply → State → Type 0
Run plan choice state [] [] next = next ≡ state
Run plan choice state (c ∷ commands) (reply ∷ replies) next =
    (mid : State) × Step plan choice state c.terminal c.number c.body reply mid
    × Run plan choice mid commands replies next
Run plan choice state _ _ next = ⊥

-- one Unknown for each command
abbrev pub unknowns : List Command → List Reply
unknowns commands = map (λ (c : Command). Unknown) commands

-- a turn while the keeper is broken: each command is answered Unknown, and nothing changes
abbrev pub RunWhileBroken : State → List Command → List Reply → State → Type 0
RunWhileBroken state commands answers next = (answers ≡ unknowns commands) × (next ≡ state)
