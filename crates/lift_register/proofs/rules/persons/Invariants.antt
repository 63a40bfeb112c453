use Rattle.std.proofs.Common.{◌≡◌, ◌≤◌, ◌*◌, take}
use Rattle.lift_register.specs.Fits.{persons_of}
use Rattle.lift_register.proofs.rules.persons.Given as goal

abbrev pub invariant-loop-row : goal.invariant-loop-row
invariant-loop-row l = record {
  counted : l.count ≡ persons_of (take l.row-index l.rows);
  few : l.count ≤ 15 * l.row-index;
}
