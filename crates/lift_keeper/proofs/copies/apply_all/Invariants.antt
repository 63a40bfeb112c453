use Rattle.std.proofs.Common.{◌≡◌, take, drop}
use Rattle.lift_register.specs.Register.{register_of}
use Rattle.lift_register.specs.Fits.{FitFrom}
use Rattle.lift_register.specs.Belongs.{BelongsTo}
use Rattle.lift_register.specs.Balanced.{IsBalanced}
use Rattle.lift_register.specs.WellFormed.{IsWellFormed}
use Rattle.lift_keeper.proofs.copies.apply_all.Given as goal

abbrev pub invariant-loop-entry : goal.invariant-loop-entry
invariant-loop-entry l = record {
  value : l.register ≡ register_of l.fn.register (take l.entry-index l.entries);
  fit : FitFrom l.building l.register (drop l.entry-index l.entries);
  lawful : IsWellFormed l.register;
  balanced : IsBalanced l.register;
  belongs : BelongsTo l.building l.register;
}
