use Rattle.std.proofs.Common.{◌≡◌, ◌++◌, take, string_bytes}
use Rattle.std.specs.List.{flat_map}
use Rattle.lift_register.specs.Balanced.{open_count}
use Rattle.lift_register.specs.Register.{cars}
use Rattle.lift_replay.specs.Report.{rows_text, car_text}
use Rattle.lift_replay.proofs.report.push_rows.Given as goal

abbrev pub invariant-loop-index : goal.invariant-loop-index
invariant-loop-index l =
    string_bytes l.report ≡ (string_bytes l.fn.report ++ rows_text (open_count l.register) l.register.done) ++ flat_map (car_text l.register) (take l.index cars)
