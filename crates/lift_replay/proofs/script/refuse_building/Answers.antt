use Rattle.std.proofs.Common.{refl}
use Rattle.lift_replay.specs.lemmas.Writes.{called_err}
use Rattle.lift_replay.proofs.script.refuse_building.Goals as goal

pub returns-in_err-push_building_fault-clause-calls : goal.returns-in_err-push_building_fault-clause-calls
returns-in_err-push_building_fault-clause-calls g c = called_err g.W.Outflow.gives _ _ c.from_residual.result _ c.from_residual.ensures.1 (0, refl)
