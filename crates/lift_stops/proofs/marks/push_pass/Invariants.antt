use Rattle.std.proofs.Common.{◌≡◌, ◌+◌, ◌≤◌, ◌++◌, length}
use Rattle.lift_base.specs.declared.limits.TheConstants.{MOST_HALTS}
use Rattle.lift_stops.specs.Marks.{marked, halts_marked}
use Rattle.lift_stops.proofs.marks.push_pass.Given as goal

abbrev pub invariant-loop-left : goal.invariant-loop-left
invariant-loop-left l = record {
  listed : l.halts.items ++ halts_marked l.pass l.dir l.left ≡ l.initial.halts.items ++ halts_marked l.pass l.dir l.set;
  room : length l.halts.items + length (marked l.dir l.left) ≤ MOST_HALTS;
}

abbrev pub decreases-loop-left : goal.decreases-loop-left
decreases-loop-left l = length (marked l.dir l.left)
