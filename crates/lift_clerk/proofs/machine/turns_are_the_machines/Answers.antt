use Rattle.lift_clerk.specs.lemmas.Turned.{turns_are_turns}
use Rattle.lift_clerk.proofs.Doubts.{failures_are_failures, broken_turns_are_broken}
use Rattle.lift_clerk.specs.lemmas.Between.{terminals_keep}
use Rattle.lift_clerk.proofs.machine.turns_are_the_machines.Goals as goal

pub returns : goal.returns
returns g c = record {
  turns = λ policy. turns_are_turns c.machine_laws.ensures.laws (g.P.Policy.chooses policy) (c.machine_laws.ensures.covered policy);
  failures = λ policy. failures_are_failures c.machine_laws.ensures.laws (g.P.Policy.chooses policy) (c.machine_laws.ensures.covered policy);
  broken = broken_turns_are_broken c.machine_laws.ensures.laws;
  terminals = λ w end clerk event own e m. terminals_keep c.machine_laws.ensures.laws w end event own e m;
}
