use Rattle.std.proofs.Common.{◌≡◌, ◌≤◌, ◌++◌, ℕ, false, vec_len}
use Rattle.std.specs.Io.KnownBytes.{Consumes}
use Rattle.lift_replay.specs.Reading.{GiveEach}
use Rattle.lift_replay.specs.Writing.{TakesSomeEachCall}
use Rattle.lift_replay.proofs.input.read_all.Given as goal

abbrev pub invariant-loop : goal.invariant-loop
invariant-loop g l = record {
  taken : Consumes (g.R.Read.remaining l.fn.input.reader) (g.R.Read.remaining l.input.reader) l.bytes.items;
  came : l.input.came ≡ l.fn.input.came ++ l.bytes.items;
  room : vec_len l.bytes ≤ l.most;
  calls : l.input.calls ≡ l.counter;
  each : (calls : ℕ) × GiveEach g.R.Read.remaining calls l.bytes.items l.fn.input l.input;
  told : TakesSomeEachCall g.R.Inlet.gives l.fn.input.reader l.input.reader;
  unhurt : l.input.failed ≡ false;
  unended : l.input.ended ≡ false;
}
