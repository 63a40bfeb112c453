use Rattle.lift_world.specs.lemmas.Steps.{takes_are_steps, steps_are_takes}
use Rattle.lift_world.proofs.Scans.{runs_are_takes}
use Rattle.lift_world.proofs.Whole.{turns_are_runs, failures_are_runs, broken_turns_are_runs}
use Rattle.lift_world.proofs.Resting.{broken_turns_change_nothing}
use Rattle.lift_world.specs.lemmas.Looks.{run_of}
use Rattle.lift_world.proofs.Standing.{asks_stand}
use Rattle.lift_world.proofs.theorem.turns_are_events.Goals as goal

pub returns-clause-decided : goal.returns-clause-decided
returns-clause-decided c building state commands = run_of building state commands

pub returns-clause-turns : goal.returns-clause-turns
returns-clause-turns c w = record {
  steps = takes_are_steps w;
  takes = steps_are_takes w;
  scans = runs_are_takes w;
  turns = turns_are_runs w;
  failures = failures_are_runs w;
  broken = broken_turns_are_runs w;
  broken_changes = broken_turns_change_nothing w;
  asks = asks_stand w;
}
