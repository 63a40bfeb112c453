use Rattle.std.proofs.Common.{◌≡◌, ◌⊎◌, false}
use Rattle.lift_parts.specs.Turns.{AllocatorTurns, FlusherTurns, IsSending}
use Rattle.lift_relay.specs.Notified.{FailureNotified}
use Rattle.lift_relay.proofs.Draining.{Waits}
use Rattle.lift_relay.proofs.pair.drain.Given as goal

abbrev pub invariant-loop : goal.invariant-loop
invariant-loop g l = record {
  closed : l.allocator.goes_on ≡ false;
  allocator : AllocatorTurns (g.P.Policy.chooses l.fn.allocator.allocator.policy) l.fn.allocator.allocator l.allocator.allocator;
  sends : Waits l.fn.allocator.allocator l.allocator.allocator ⊎ IsSending l.fn.allocator.allocator l.allocator.allocator;
  notified : FailureNotified g.V.Witness.is_notified l.fn.flusher.writer.is_broken l.flusher.writer.is_broken l.fn.witness l.witness;
  flusher : FlusherTurns g.D.Disk.state l.fn.flusher l.fn.first l.flusher l.first;
}
