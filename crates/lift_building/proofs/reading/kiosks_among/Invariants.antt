use Rattle.std.proofs.Common.{◌≡◌, ◌-◌, drop, length}
use Rattle.toml.specs.View.{items_view}
use Rattle.lift_building.specs.declared.fault.Field.TheVariants.{Kiosks}
use Rattle.lift_building.specs.Reading.{each, number_in}
use Rattle.lift_building.proofs.Each.{with_front}
use Rattle.lift_building.proofs.reading.kiosks_among.Given as goal

abbrev pub invariant-loop-item : goal.invariant-loop-item
invariant-loop-item l = record {
  so_far : with_front l.kiosks.items (each (λ _. number_in Kiosks 0 (l.floors - 1)) l.item-index (items_view (drop l.item-index l.items))) ≡ each (λ _. number_in Kiosks 0 (l.floors - 1)) 0 (items_view l.items);
  len : length l.kiosks.items ≡ l.item-index;
}
