use Rattle.std.proofs.Common.{◌≡◌, take}
use Rattle.lift_register.specs.Balanced.{IsBalanced}
use Rattle.lift_register.specs.Register.{register_of, empty}
use Rattle.lift_world.proofs.world.replay.Given as goal

abbrev pub invariant-loop-entry : goal.invariant-loop-entry
invariant-loop-entry l = record {
  value : l.register ≡ register_of empty (take l.entry-index l.entries);
  balanced : IsBalanced l.register;
}
