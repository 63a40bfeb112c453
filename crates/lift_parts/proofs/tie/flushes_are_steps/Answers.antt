use Rattle.lift_parts.proofs.GoesOn.{flushes_stand, turns_go_on, flushes_lead_on}
use Rattle.lift_parts.proofs.tie.flushes_are_steps.Goals as goal

pub returns-clause-flushes : goal.returns-clause-flushes
returns-clause-flushes g c = flushes_stand g.D.Disk.state c.histories_are_runs.ensures.kept c.histories_are_runs.ensures.moments

pub returns-clause-turns : goal.returns-clause-turns
returns-clause-turns g c = turns_go_on g.D.Disk.state c.histories_are_runs.ensures.kept c.histories_are_runs.ensures.moments

pub returns-clause-pasts : goal.returns-clause-pasts
returns-clause-pasts g c = flushes_lead_on g.D.Disk.state c.histories_are_runs.ensures.kept c.histories_are_runs.ensures.moments c.pasts_go_on.ensures
