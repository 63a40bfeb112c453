use Rattle.std.proofs.Common.{arith, refl}
use Rattle.std.proofs.Math.Seq.{map-set_same}
use Rattle.std.proofs.lemmas.List.{map-set}
use Rattle.lift_register.proofs.ReadLemmas.{row_lists-at}
use Rattle.lift_register.proofs.rows.serve_car.Goals as goal

pub returns-clause-rows : goal.returns-clause-rows
returns-clause-rows c =
    rw (map-set, c.serve.ensures.rows, c.get.ensures.value, row_lists-at c.args.rows.now c.args.car c.index-rows-get.result (omega arith)) refl

pub returns-clause-unchanged : goal.returns-clause-unchanged
returns-clause-unchanged c none =
    map-set_same (λ rows. rows.items) c.args.rows.now c.get.result _ c.index-rows-get.result (c.serve.ensures.unchanged none)
