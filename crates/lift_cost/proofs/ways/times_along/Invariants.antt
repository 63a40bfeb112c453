use Rattle.std.proofs.Common.{◌≡◌, ◌*◌, ◌≤◌, take}
use Rattle.lift_cost.specs.Ways.{persons_along}
use Rattle.lift_cost.specs.Delays.{persons_in}
use Rattle.lift_cost.proofs.ways.times_along.Given as goal

abbrev pub invariant-loop-halt : goal.invariant-loop-halt
invariant-loop-halt l = record {
  so_far : l.sum ≡ l.time * persons_along (persons_in l.leaving) (take l.halt-index l.halts);
  short : l.sum ≤ l.halt-index * (65535 * 4294967295);
}
