use Rattle.std.proofs.Common.{refl}
use Rattle.lift_register.proofs.ReadLemmas.{length-base_records}
use Rattle.lift_register.specs.lemmas.BaseLemmas.{IsRecord-base_records, with_records-base_records, BaseFitFrom-base_records}
use Rattle.lift_register.proofs.registers.Register.base_len.Goals as goal

pub returns-clause-value : goal.returns-clause-value
returns-clause-value c = rw (length-base_records c.args.self.now, ← c.open_count.ensures.count, ← c.last_count.ensures.count) refl

pub returns-clause-records : goal.returns-clause-records
returns-clause-records c = IsRecord-base_records c.args.self.now c.open_count.ensures.lawful

pub returns-clause-spelled : goal.returns-clause-spelled
returns-clause-spelled c = with_records-base_records c.args.self.now c.open_count.ensures.lawful

pub returns-clause-fitting : goal.returns-clause-fitting
returns-clause-fitting c plan belongs balanced = BaseFitFrom-base_records plan c.args.self.now c.open_count.ensures.lawful belongs balanced
