-- What the code of a decision carries out.
use Rattle.std.specs.Prelude.{ℕ, ◌≡◌, ◌++◌, List, Option, Some, None}
use Rattle.std.specs.Option.{option_to_list}
use Rattle.lift_base.specs.declared.travel.Position.{Position}
use Rattle.lift_base.specs.declared.history.Entry.{Entry}
use Rattle.lift_building.specs.Plan.{Plan}
use Rattle.lift_register.specs.Register.{RegisterState}
use Rattle.lift_policy.specs.Step.{State}
use Rattle.lift_policy.specs.Verdict.{IsVerdict}
use Rattle.lift_policy.specs.declared.verdict.Verdict.{Verdict}
use Rattle.lift_policy.specs.declared.command.Command.{Command}
use Rattle.lift_policy.specs.Decision.{Decision}
use Rattle.lift_world.specs.Decided.{decided}
use Rattle.lift_world.specs.declared.decide.Decided.{Decided}

abbrev pub state_with : RegisterState → List (Option Position) → List Entry → State
state_with register positions batch =
    record { register = register; positions = positions; batch = batch }

-- the decision's reply, its entry after the batch, and its register and positions; or nothing,
-- where there is none
abbrev pub CarriesDecision : Option Decision → RegisterState → List (Option Position) → List Entry
    → Option Decided → RegisterState → List (Option Position) → Type 0
CarriesDecision None register positions batch result register_after positions_after =
    (result ≡ None) × (register_after ≡ register) × (positions_after ≡ positions)
CarriesDecision (Some d) register positions batch result register_after positions_after =
    (entry : Option Entry) × (result ≡ Some (record { reply = d.reply; entry = entry }))
    × (d.next ≡ state_with register_after positions_after (batch ++ option_to_list entry))

-- what the rules make of the command, whatever the batch
abbrev pub IsVerdictOf : Plan → RegisterState → List (Option Position) → Command → Verdict → Type 0
IsVerdictOf building register positions command verdict = (batch : List Entry)
    → IsVerdict building (state_with register positions batch) command.terminal command.number
    command.body verdict

-- the command is decided with this letter and carried out, whatever the batch
abbrev pub CarriesOut : Plan → RegisterState → List (Option Position) → Command → Option ℕ
    → Option Decided → RegisterState → List (Option Position) → Type 0
CarriesOut building register positions command letter result register_after positions_after =
    (batch : List Entry)
    → CarriesDecision (decided building (state_with register positions batch) command.terminal
    command.number command.body letter)
    register positions batch result register_after positions_after
