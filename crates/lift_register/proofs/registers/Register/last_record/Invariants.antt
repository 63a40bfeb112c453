use Rattle.std.proofs.Common.{◌≡◌, drop, slice_get}
use Rattle.std.specs.List.{flat_map}
use Rattle.lift_register.specs.Base.{last_records}
use Rattle.lift_register.specs.Register.{terminals}
use Rattle.lift_register.proofs.registers.Register.last_record.Given as goal

abbrev pub invariant-loop-index : goal.invariant-loop-index
invariant-loop-index l =
    slice_get (flat_map (last_records l.self) terminals) l.place ≡ slice_get (flat_map (last_records l.self) (drop l.index terminals)) l.left
