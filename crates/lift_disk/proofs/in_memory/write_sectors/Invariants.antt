use Rattle.std.proofs.Common.{◌≡◌, take}
use Rattle.lift_disk.specs.Places.{all_now, all_safe}
use Rattle.lift_disk.specs.Runs.{with_run}
use Rattle.lift_disk.proofs.in_memory.write_sectors.Given as goal

abbrev pub invariant-loop-i : goal.invariant-loop-i
invariant-loop-i l = record {
  now : all_now l.sectors.items ≡ with_run l.from (take l.i l.run) (all_now l.initial.sectors.items);
  safe : all_safe l.sectors.items ≡ all_safe l.initial.sectors.items;
}
