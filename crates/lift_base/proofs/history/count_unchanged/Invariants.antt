use Rattle.std.proofs.Common.{◌≡◌, take}
use Rattle.std.specs.List.{flat_map}
use Rattle.lift_base.specs.History.{row_after}
use Rattle.lift_base.proofs.history.count_unchanged.Given as goal

abbrev pub invariant-loop-index : goal.invariant-loop-index
invariant-loop-index l = flat_map (row_after l.stop) (take l.index l.rows) ≡ take l.index l.rows
