use Rattle.lift_policy.proofs.Runs.{Run-append}
use Rattle.lift_policy.specs.lemmas.Joins.{Step-joins}
use Rattle.lift_policy.proofs.Refusals.{Step-refused, Step-known}
use Rattle.lift_policy.proofs.States.{Step-keeps, Step-tells}
use Rattle.lift_policy.proofs.laws.decisions_preserve.Goals as goal

pub returns : goal.returns
returns g c = record {
  joins = λ plan. Step-joins plan (g.P.Policy.chooses c.args.policy.now);
  refusals = λ plan. Step-refused plan (g.P.Policy.chooses c.args.policy.now);
  known = λ plan. Step-known plan (g.P.Policy.chooses c.args.policy.now);
  states = λ plan. Step-keeps plan (g.P.Policy.chooses c.args.policy.now);
  tells = λ plan state terminal number body reply next inside is h. Step-tells plan (g.P.Policy.chooses c.args.policy.now) state terminal number body reply next inside is.possible.belongs h;
  runs = λ plan. Run-append plan (g.P.Policy.chooses c.args.policy.now);
}
