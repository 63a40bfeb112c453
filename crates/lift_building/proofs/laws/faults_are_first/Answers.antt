use Rattle.lift_building.proofs.Faulty.{plan_err}
use Rattle.lift_building.proofs.Found.{plan_found}
use Rattle.lift_building.proofs.laws.faults_are_first.Goals as goal

pub returns : goal.returns
returns c document fault = (plan_err document fault, plan_found document fault)
