use Rattle.std.proofs.Common.{◌≡◌, ◌++◌, take, string_bytes}
use Rattle.std.specs.List.{flat_map}
use Rattle.lift_replay.specs.Report.{halt_text}
use Rattle.lift_replay.proofs.query.push_halts.Given as goal

abbrev pub invariant-loop-halt : goal.invariant-loop-halt
invariant-loop-halt l =
    string_bytes l.report ≡ string_bytes l.fn.report ++ flat_map halt_text (take l.halt-index l.halts)
