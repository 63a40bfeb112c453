use Rattle.lift_world.specs.lemmas.Policies.{steps_are_any, runs_are_any}
use Rattle.lift_world.proofs.theorem.policies_are_covered.Goals as goal

pub returns : goal.returns
returns g c = record {
  steps = λ policy plan. steps_are_any (g.P.Policy.chooses policy) plan;
  runs = λ policy plan. runs_are_any (g.P.Policy.chooses policy) plan;
}
