use Rattle.std.proofs.Common.{arith, refl}
use Rattle.std.proofs.lemmas.List.{map-set}
use Rattle.lift_register.proofs.ReadLemmas.{row_lists-at}
use Rattle.lift_register.proofs.rows.push_row.Goals as goal

pub returns-clause-rows : goal.returns-clause-rows
returns-clause-rows c =
    rw (map-set, c.push.ensures.items, c.get.ensures.value, row_lists-at c.args.rows.now c.args.row.car c.index-rows-get.result (omega arith)) refl
