use Rattle.std.proofs.Common.{ℕ, ◌<◌, slice_index_or}
use Rattle.lift_base.specs.declared.travel.Halt.{Halt}
use Rattle.lift_stops.specs.Insertion.{rank_of}
use Rattle.lift_stops.proofs.stops.find_halt.Given as goal

abbrev pub invariant-loop-i : goal.invariant-loop-i
invariant-loop-i l = (k : ℕ) (d : Halt) → k < l.i → rank_of l.dir (slice_index_or l.halts k d) < rank_of l.dir l.halt
