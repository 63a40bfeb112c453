use Rattle.std.proofs.Common.{◌≡◌, map, take}
use Rattle.lift_base.specs.declared.history.Record.TheVariants.{Entry as EntryRecord}
use Rattle.lift_keeper.proofs.copies.put_records.Given as goal

abbrev pub invariant-loop-place : goal.invariant-loop-place
invariant-loop-place l = l.records.items ≡ map EntryRecord (take l.place l.batch.items)
