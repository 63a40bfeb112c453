use Rattle.std.proofs.Common.{◌≡◌, ◌+◌, ◌<◌, ◌≤◌, ℕ, List, length, string_bytes}
use Rattle.lift_replay.specs.Group.{ScriptGroup}
use Rattle.lift_replay.specs.Running.{Continues}
use Rattle.lift_replay.specs.Shows.{Shows}
use Rattle.lift_replay.specs.Report.{Reports}
use Rattle.std.specs.Str.Lines.{lines as lines_in}
use Rattle.lift_replay.specs.Writing.{TakesSomeEachCall, gone_in}
use Rattle.lift_replay.proofs.segment.add_lines.Given as goal

abbrev pub invariant-loop : goal.invariant-loop
invariant-loop g l = record {
  tells : (group : ScriptGroup) → Shows l.fn.station.building.now group l.fn.station.clerk l.fn.station.terminals.seats.items
      → (added : List ℕ) × (next : ScriptGroup) × Shows l.fn.station.building.now next l.station.clerk l.station.terminals.seats.items
      × Continues l.fn.station.building.now l.fn.lines.count group (lines_in l.fn.lines.rest.now) added l.lines.count next (lines_in l.lines.rest.now)
      × Reports (gone_in g.W.Outflow.sent l.fn.writer) (gone_in g.W.Outflow.sent l.writer) (string_bytes l.fn.piece) (string_bytes l.piece) added;
  small : length (string_bytes l.piece) < 32768;
  called : TakesSomeEachCall g.W.Outflow.gives l.fn.writer l.writer;
  left : l.counter + length l.lines.rest.now ≤ length l.fn.lines.rest.now;
  building : l.station.building ≡ l.fn.station.building;
}
