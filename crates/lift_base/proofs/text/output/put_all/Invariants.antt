use Rattle.std.proofs.Common.{◌≤◌, ◌-◌, ℕ, length, take}
use Rattle.std.specs.Io.KnownBytes.{Appends}
use Rattle.lift_base.specs.Output.{Wrote}
use Rattle.lift_base.proofs.text.output.put_all.Given as goal

abbrev pub invariant-loop-written : goal.invariant-loop-written
invariant-loop-written g l = record {
  so_far : Appends (g.W.Outflow.contents l.fn.writer) (g.W.Outflow.contents l.writer) (take l.written l.bytes);
  within : l.written ≤ length l.bytes;
  each : (calls : ℕ) × Wrote g.W.Outflow.gives calls l.bytes l.written l.fn.writer l.writer;
}

abbrev pub decreases-loop-written : goal.decreases-loop-written
decreases-loop-written g l = length l.initial.bytes - l.written
