use Rattle.std.proofs.Common.{inl, refl, sym, subst}
use Rattle.lift_parts.specs.Allocator.{AllocatorState}
use Rattle.lift_parts.specs.Turns.{AllocatorTurns, NoMore, NoFlush}
use Rattle.lift_relay.specs.lemmas.Notified.{flush_stays, notified_none, notified_on, turns_stay}
use Rattle.lift_relay.proofs.Draining.{sending_more, sends_on, waits_by}
use Rattle.lift_relay.proofs.Ran.{one_flush}
use Rattle.lift_relay.proofs.pair.drain.Goals as goal

pub loop-init : goal.loop-init
loop-init g c = record { closed = c.requires.closed; allocator = NoMore; sends = inl refl; notified = notified_none g.V.Witness.is_notified c.args.flusher.now.writer.is_broken c.args.witness.now; flusher = NoFlush }

pub loop-preserved : goal.loop-preserved
loop-preserved g c =
    let i = c.loop.invariant in
    let sent = c.send_hand-is_sent in
    let a = c.args.allocator.allocator in
    let e = c.turn.ensures in
    record {
      closed = sent.ensures.closed;
      allocator = sending_more (g.P.Policy.chooses a.policy) a c.loop.allocator.allocator sent.new.self.allocator sent.result i.allocator sent.ensures.sent sent.ensures.full;
      sends = sends_on a c.loop.allocator.allocator sent.new.self.allocator sent.result i.sends (λ is. (sent.ensures.sent is).1) (λ no. waits_by _ _ (sent.ensures.full no));
      notified = notified_on g.V.Witness.is_notified _ _ _ c.args.witness.now c.loop.witness c.turn.new.witness
          (turns_stay g.D.Disk.state _ _ _ _ i.flusher) (flush_stays g.D.Disk.state _ _ _ e.turn) i.notified e.notified;
      flusher = one_flush g.D.Disk.state _ _ _ _ _ _ _ _ i.flusher e.turn c.err.ensures.value c.or-first.ensures;
    }

pub returns-then-sent-received-clause-allocator : goal.returns-then-sent-received-clause-allocator
returns-then-sent-received-clause-allocator g c =
    let sent = c.send_hand-is_sent in
    let choice = g.P.Policy.chooses c.args.allocator.allocator.policy in
    subst (λ (a : AllocatorState g.row.P.Denot). AllocatorTurns choice c.args.allocator.allocator a) (sym c.drained.ensures)
    (sending_more choice c.args.allocator.allocator c.loop.allocator.allocator sent.new.self.allocator sent.result c.loop.invariant.allocator sent.ensures.sent sent.ensures.full)
