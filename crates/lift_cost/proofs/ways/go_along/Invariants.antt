use Rattle.std.proofs.Common.{◌≡◌, ◌+◌, ◌*◌, ◌≤◌, take}
use Rattle.lift_cost.specs.Ways.{floor_after, leaves_after}
use Rattle.lift_cost.proofs.ways.go_along.Given as goal

abbrev pub invariant-loop-halt : goal.invariant-loop-halt
invariant-loop-halt l = record {
  here : l.floor ≡ floor_after l.fn.floor (take l.halt-index l.halts);
  leaves : l.leaves ≡ leaves_after l.building l.fn.floor l.fn.leaves (take l.halt-index l.halts);
  short : l.leaves ≤ l.fn.leaves + l.halt-index * 660000;
}
