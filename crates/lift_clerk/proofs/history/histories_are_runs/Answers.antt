-- proofs/history/histories_are_runs/Answers.antt
use Rattle.lift_clerk.proofs.Histories.{histories_are_runs, crashes_keep, moments_keep}
use Rattle.lift_clerk.proofs.history.histories_are_runs.Goals as goal

pub returns-clause-runs : goal.returns-clause-runs
returns-clause-runs g c = histories_are_runs c.laws.ensures

pub returns-clause-kept : goal.returns-clause-kept
returns-clause-kept g c = crashes_keep c.laws.ensures

pub returns-clause-moments : goal.returns-clause-moments
returns-clause-moments g c = moments_keep g.D.Disk.state (crashes_keep c.laws.ensures)
