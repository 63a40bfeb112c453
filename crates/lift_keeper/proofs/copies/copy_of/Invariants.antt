use Rattle.std.proofs.Common.{◌≡◌, take, drop}
use Rattle.lift_register.specs.Register.{empty}
use Rattle.lift_register.specs.Base.{BaseFitFrom, base_records, with_records}
use Rattle.lift_register.specs.WellFormed.{IsWellFormed}
use Rattle.lift_keeper.proofs.copies.copy_of.Given as goal

abbrev pub invariant-loop-place : goal.invariant-loop-place
invariant-loop-place l = record {
  value : l.copy ≡ with_records empty (take l.place (base_records l.register));
  fit : BaseFitFrom l.building l.copy (drop l.place (base_records l.register));
  lawful : IsWellFormed l.copy;
}
