use Rattle.std.proofs.Common.{◌≡◌}
use Rattle.lift_disk.specs.Places.{all_now, all_safe}
use Rattle.lift_disk.proofs.Fills.{IsCopiedTo}
use Rattle.lift_disk.proofs.in_memory.save_flagged.Given as goal

abbrev pub invariant-loop-i : goal.invariant-loop-i
invariant-loop-i l = record {
  now : all_now l.sectors.items ≡ all_now l.initial.sectors.items;
  copied : IsCopiedTo l.i l.flags (all_now l.initial.sectors.items) (all_safe l.sectors.items);
}
