use Rattle.std.proofs.Common.{◌≡◌}
use Rattle.lift_disk.specs.Places.{all_now, all_safe}
use Rattle.lift_disk.proofs.Fills.{IsCopiedTo}
use Rattle.lift_disk.proofs.in_memory.take_back.Given as goal

abbrev pub invariant-loop-i : goal.invariant-loop-i
invariant-loop-i l = record {
  safe : all_safe l.sectors.items ≡ all_safe l.initial.sectors.items;
  copied : IsCopiedTo l.i l.lost (all_safe l.initial.sectors.items) (all_now l.sectors.items);
}
