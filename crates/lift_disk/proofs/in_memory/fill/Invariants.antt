use Rattle.std.proofs.Common.{◌≡◌}
use Rattle.lift_disk.specs.Places.{all_now, all_safe}
use Rattle.lift_disk.proofs.Fills.{IsFilledTo}
use Rattle.lift_disk.proofs.in_memory.fill.Given as goal

abbrev pub invariant-loop-i : goal.invariant-loop-i
invariant-loop-i l = record {
  safe : all_safe l.sectors.items ≡ all_safe l.initial.sectors.items;
  filled : IsFilledTo l.byte l.i l.loose (all_now l.initial.sectors.items) (all_now l.sectors.items);
}
