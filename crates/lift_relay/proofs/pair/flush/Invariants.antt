use Rattle.std.proofs.Common.{None}
use Rattle.lift_parts.specs.Turns.{FlusherTurns}
use Rattle.lift_relay.specs.Notified.{FailureNotified}
use Rattle.lift_relay.proofs.pair.flush.Given as goal

abbrev pub invariant-loop : goal.invariant-loop
invariant-loop g l = record {
  turns : FlusherTurns g.D.Disk.state l.fn.flusher None l.flusher l.first;
  notified : FailureNotified g.V.Witness.is_notified l.fn.flusher.writer.is_broken l.flusher.writer.is_broken l.fn.witness l.witness;
}
