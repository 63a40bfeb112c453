use Rattle.std.proofs.Common.{◌≡◌, All, length}
use Rattle.lift_base.specs.Records.{IsLawful}
use Rattle.lift_journal.specs.Order.{IsEntry}
use Rattle.lift_bench.proofs.images.stops.Given as goal

abbrev pub invariant-loop-place : goal.invariant-loop-place
invariant-loop-place l = record {
  counted : length l.batch.items ≡ l._place;
  lawful : All IsLawful l.batch.items;
  entries : All IsEntry l.batch.items;
}
