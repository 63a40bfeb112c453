use Rattle.std.proofs.Common.{ap, sym, ◌∙◌}
use Rattle.lift_building.specs.Reading.{◌>>=◌, plan_in}
use Rattle.lift_building.specs.lemmas.Again.{text_again}
use Rattle.lift_building.proofs.building.Building.read.Goals as goal

pub returns-clause-only : goal.returns-clause-only
returns-clause-only c plan is lawful =
    let read = ap (λ r. r >>= plan_in) (sym c.in_ok-document.ensures.given) ∙ text_again c.args.text.now plan is lawful in
    rw (c.building_in.ensures.taken plan read lawful) tt
