use Rattle.std.proofs.Common.{subst}
use Rattle.lift_parts.specs.Flusher.{FlusherState}
use Rattle.lift_parts.specs.Turns.{IsFlush}
use Rattle.lift_relay.proofs.Turned.{flusher_of, idle, flushed}
use Rattle.lift_relay.proofs.flusher.Flusher.turn.Goals as goal

pub returns-in-None-clause-turn : goal.returns-in-None-clause-turn
returns-in-None-clause-turn g c =
    let e = c.rest.ensures in
    subst (λ (v : FlusherState g.row.D.Denot). IsFlush g.D.Disk.state v (flusher_of c.rest.new.self c.receive.new.self) c.rest.result) c.self.view_is
    (idle g.D.Disk.state c.self.inside.settler c.rest.new.self c.self.inside.end c.receive.new.self c.self.invariant c.rest.result c.in-None.ensures e.same e.commits e.counts e.calls)

pub returns-clause-turn : goal.returns-clause-turn
returns-clause-turn g c =
    let e = c.settle.ensures in
    subst (λ (v : FlusherState g.row.D.Denot). IsFlush g.D.Disk.state v (flusher_of c.settle.new.self c.receive.new.self) c.settle.result) c.self.view_is
    (flushed g.D.Disk.state c.self.inside.settler c.settle.new.self c.self.inside.end c.receive.new.self c.self.invariant c.settle.result c.in-Some.batch c.in-Some.ensures e.settles e.calls)

pub returns-in-None-clause-keeps : goal.returns-in-None-clause-keeps
returns-in-None-clause-keeps g c = c.flushes_are_steps.ensures.flushes _ _ _ (returns-in-None-clause-turn g c)

pub returns-clause-keeps : goal.returns-clause-keeps
returns-clause-keeps g c = c.flushes_are_steps.ensures.flushes _ _ _ (returns-clause-turn g c)
