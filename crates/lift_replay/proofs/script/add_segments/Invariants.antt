use Rattle.std.proofs.Common.{◌+◌, ◌<◌, ◌≤◌, ◌++◌, ℕ, List, length, string_bytes}
use Rattle.lift_disk.specs.Outcomes.{state_of}
use Rattle.lift_register.specs.Balanced.{open_count}
use Rattle.lift_replay.specs.Group.{Found, first_group, recovered}
use Rattle.lift_replay.specs.Running.{Continues}
use Rattle.lift_replay.specs.Shows.{IsFound}
use Rattle.lift_replay.specs.Report.{Reports, start_text}
use Rattle.std.specs.Str.Lines.{lines as lines_in}
use Rattle.lift_replay.specs.Writing.{TakesSomeEachCall, gone_in}
use Rattle.lift_replay.proofs.script.add_segments.Given as goal

abbrev pub invariant-loop : goal.invariant-loop
invariant-loop g l = record {
  tells : (added : List ℕ) × (found : Found) × IsFound l.fn.building found (state_of l.disk).image
      × Continues l.fn.building 0 (first_group l.fn.building) (lines_in l.fn.text) (added ++ start_text l.is_after_cut (open_count found.register)) l.lines.count (recovered l.fn.building found) (lines_in l.lines.rest.now)
      × Reports (gone_in g.W.Outflow.sent l.fn.writer) (gone_in g.W.Outflow.sent l.writer) (string_bytes l.fn.piece) (string_bytes l.piece) added;
  small : length (string_bytes l.piece) < 32768;
  called : TakesSomeEachCall g.W.Outflow.gives l.fn.writer l.writer;
  left : l.counter + length l.lines.rest.now ≤ length l.fn.text;
}
