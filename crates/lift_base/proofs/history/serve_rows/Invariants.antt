use Rattle.std.proofs.Common.{◌≡◌, ◌-◌, ◌≤◌, ◌++◌, length, take, drop}
use Rattle.std.specs.List.{flat_map}
use Rattle.lift_base.specs.History.{row_after}
use Rattle.lift_base.proofs.history.serve_rows.Given as goal

abbrev pub invariant-loop-index : goal.invariant-loop-index
invariant-loop-index g l = record {
  still_open : flat_map (row_after l.stop) l.initial.rows.items
      ≡ take l.index l.rows.items ++ flat_map (row_after l.stop) (drop l.index l.rows.items);
  fewer : length l.rows.items ≤ length l.initial.rows.items;
  within : l.index ≤ length l.rows.items;
}

abbrev pub decreases-loop-index : goal.decreases-loop-index
decreases-loop-index g l = length l.rows.items - l.index
