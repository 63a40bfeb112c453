use Rattle.lift_parts.specs.Turns.{NoFlush}
use Rattle.lift_relay.proofs.Ran.{one_flush}
use Rattle.lift_relay.specs.lemmas.Notified.{flush_stays, notified_none, notified_on, turns_stay}
use Rattle.lift_relay.proofs.pair.flush.Goals as goal

pub loop-init : goal.loop-init
loop-init g c = record { turns = NoFlush; notified = notified_none g.V.Witness.is_notified c.args.flusher.now.writer.is_broken c.args.witness.now }

pub loop-preserved : goal.loop-preserved
loop-preserved g c =
    let i = c.loop.invariant in
    let e = c.turn.ensures in
    record {
      turns = one_flush g.D.Disk.state _ _ _ _ _ _ _ _ i.turns e.turn c.err.ensures.value c.or-first.ensures;
      notified = notified_on g.V.Witness.is_notified _ _ _ c.args.witness.now c.loop.witness c.turn.new.witness
          (turns_stay g.D.Disk.state _ _ _ _ i.turns) (flush_stays g.D.Disk.state _ _ _ e.turn) i.notified e.notified;
    }
