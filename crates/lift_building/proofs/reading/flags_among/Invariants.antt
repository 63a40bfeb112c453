use Rattle.std.proofs.Common.{◌≡◌, ℕ, ◌-◌, List, drop}
use Rattle.toml.specs.View.{items_view}
use Rattle.lift_building.specs.declared.fault.Field.TheVariants.{Serves}
use Rattle.lift_building.specs.Reading.{each, number_in, flags_of}
use Rattle.lift_building.proofs.Each.{with_front}
use Rattle.lift_building.proofs.reading.flags_among.Given as goal

abbrev pub invariant-loop-item : goal.invariant-loop-item
invariant-loop-item l = (listed : List ℕ)
    × (with_front listed (each (λ _. number_in Serves 0 (l.floors - 1)) l.item-index (items_view (drop l.item-index l.items))) ≡ each (λ _. number_in Serves 0 (l.floors - 1)) 0 (items_view l.items))
    × (l.served.items ≡ flags_of l.floors listed)
