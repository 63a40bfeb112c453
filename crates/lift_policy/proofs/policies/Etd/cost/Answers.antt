use Rattle.std.proofs.Common.{List, sym, subst}
use Rattle.lift_base.specs.declared.history.Row.{Row}
use Rattle.lift_cost.specs.Calls.{AreWithin}
use Rattle.lift_policy.specs.lemmas.Views.{shown, rows_within}
use Rattle.lift_policy.proofs.policies.Etd.cost.Goals as goal

pub cost_of-requires-clause-calls : goal.cost_of-requires-clause-calls
cost_of-requires-clause-calls c =
    let s = shown c.args.view.now c.args.car c.in-Some.schedule.now c.in-Some.ensures in
    let P : List Row → Type 0 = λ rows. AreWithin c.args.building.now.floors rows in
    subst P (sym s.rows) (rows_within c.args.building.now c.args.view.now.register c.args.car c.floors-lawful.ensures.lawful c.requires.possible.belongs)
