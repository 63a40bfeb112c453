use Rattle.lift_replay.proofs.Once.{lines_one}
use Rattle.lift_replay.proofs.OneReport.{report_one}
use Rattle.lift_replay.proofs.Total.{lines_total, report_total}
use Rattle.lift_replay.proofs.law.each_script_has_one_report.Goals as goal

pub returns-clause-lines : goal.returns-clause-lines
returns-clause-lines c = λ plan count g script.
    let told = lines_total plan count g script in
    (told.0, told.1, told.2, λ other second is. lines_one plan count g script other told.0 second told.1 is told.2)

pub returns-clause-reports : goal.returns-clause-reports
returns-clause-reports c = λ bytes.
    let told = report_total bytes in
    (told.0, told.1, told.2, λ other second is. report_one bytes other told.0 second told.1 is told.2)
