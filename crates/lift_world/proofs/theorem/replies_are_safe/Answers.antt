use Rattle.lift_world.proofs.Due.{due_once_safe}
use Rattle.lift_world.proofs.Given.{only_faults_break}
use Rattle.lift_world.proofs.Failed.{faults_leave_doubt, unknown_after_fault, unknown_over_reopening}
use Rattle.lift_world.proofs.theorem.replies_are_safe.Goals as goal

pub returns : goal.returns
returns c w = record {
  due = due_once_safe w;
  faults = faults_leave_doubt w;
  breaks = only_faults_break w;
  unknown = unknown_after_fault w;
  reopening = unknown_over_reopening w;
}
