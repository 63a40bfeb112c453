use Rattle.std.proofs.Common.{◌++◌, ap, ◌∙◌, take, string_bytes}
use Rattle.std.specs.List.{flat_map}
use Rattle.lift_register.specs.Balanced.{open_count}
use Rattle.lift_register.specs.Register.{cars}
use Rattle.lift_replay.specs.Report.{rows_text, car_text}
use Rattle.lift_replay.proofs.CarTexts.{lines_more, lines_all}
use Rattle.lift_replay.proofs.report.push_rows.Goals as goal

pub loop-index-preserved : goal.loop-index-preserved
loop-index-preserved c =
    let register = c.args.register.now in
    let head = string_bytes c.args.report.now ++ rows_text (open_count register) register.done in
    c.in_ok-push_rows_of-in-Some.ensures
    ∙ ap (λ before. before ++ car_text register c.in-Some.car) c.loop-index.invariant
    ∙ ap (λ car. (head ++ flat_map (car_text register) (take c.loop-index.index cars)) ++ car_text register car) c.in-Some.ensures.value
    ∙ lines_more (car_text register) head c.loop-index.index c.loop-index-test.true

pub returns : goal.returns
returns c =
    let register = c.args.register.now in
    c.loop-index.invariant
    ∙ lines_all (car_text register) (string_bytes c.args.report.now) (rows_text (open_count register) register.done) c.loop-index.index c.loop-index-test.false
