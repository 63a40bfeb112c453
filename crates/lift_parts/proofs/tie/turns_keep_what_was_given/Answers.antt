use Rattle.lift_parts.proofs.Keeps.{turns_keep}
use Rattle.lift_parts.proofs.tie.turns_keep_what_was_given.Goals as goal

pub returns : goal.returns
returns g c = turns_keep g.D.Disk.state c.histories_are_runs.ensures.kept c.flushes_are_steps.ensures.flushes
