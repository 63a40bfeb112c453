use Rattle.lift_program.proofs.Counting.{all_passed_on, failed_once}
use Rattle.lift_program.proofs.output.output_is_counted.Goals as goal

pub returns-clause-flushed : goal.returns-clause-flushed
returns-clause-flushed g c = all_passed_on g.W.Outflow.gives g.W.Outflow.flushes g.W.Outflow.sent g.met.W.Outflow.counts g.met.W.Outflow.counts_flush

pub returns-clause-failed : goal.returns-clause-failed
returns-clause-failed g c = failed_once g.W.Outflow.gives g.W.Outflow.flushes g.W.Outflow.sent g.met.W.Outflow.counts g.met.W.Outflow.counts_flush
