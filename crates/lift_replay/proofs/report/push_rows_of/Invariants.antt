use Rattle.std.proofs.Common.{◌≡◌, ◌++◌, take, string_bytes}
use Rattle.std.specs.List.{flat_map}
use Rattle.lift_replay.specs.Report.{row_text}
use Rattle.lift_replay.proofs.report.push_rows_of.Given as goal

abbrev pub invariant-loop-row : goal.invariant-loop-row
invariant-loop-row l =
    string_bytes l.report ≡ string_bytes l.fn.report ++ flat_map row_text (take l.row-index l.row-items)
