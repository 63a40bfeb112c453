use Rattle.std.proofs.Common.{◌≡◌, ◌-◌, take, drop}
use Rattle.lift_register.specs.Base.{base_records}
use Rattle.lift_journal.proofs.checkpoint.base_batch.Given as goal

abbrev pub invariant-loop-place : goal.invariant-loop-place
invariant-loop-place l = l.batch.items ≡ take (l.place - l.from) (drop l.from (base_records l.register))
