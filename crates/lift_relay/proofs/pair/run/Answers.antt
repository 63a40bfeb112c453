use Rattle.std.proofs.Common.{◌≡◌, rules, sym, subst}
use Rattle.lift_parts.specs.Flusher.{FlusherState}
use Rattle.lift_parts.specs.Queued.{Queued}
use Rattle.lift_relay.specs.Notified.{FailureNotified}
use Rattle.lift_relay.specs.Pair.{IsRun}
use Rattle.lift_relay.proofs.Queues.{all_received}
use Rattle.lift_relay.proofs.Ran.{refused_of, ran_of, run_is, broken_of, stay_of, goes_on}
use Rattle.lift_relay.proofs.pair.run.Goals as goal

pub returns : goal.returns
returns g c =
    let both = c.with_both-witness in
    let state = g.D.Disk.state in
    let is_notified = g.V.Witness.is_notified in
    let a = c.args.allocator.now in
    let b = c.compare.new.allocator in
    let f = c.args.flusher.now in
    let h = c.compare.new.self in
    let v = c.args.witness.now in
    let fault = both.result.1 in
    let choice = g.P.Policy.chooses a.policy in
    let met = c.compare in
    let same_w : c.witness-1.given.0 ≡ both.result.0.now = search rules in
    let has_run : IsRun choice state a both.new.a f both.new.b fault = search rules in
    let notified : FailureNotified is_notified f.writer.is_broken both.new.b.writer.is_broken v both.result.0.now = search rules in
    let queued : Queued b.end h.end = search rules in
    let run = run_is state choice a both.new.a b f both.new.b h fault met.ensures.allocator met.ensures.flusher has_run in
    record {
      refused = refused_of choice state a b f h fault run;
      ran = λ goes. (ran_of choice state a b f h fault run goes).0;
      notified = subst (λ (x : FlusherState g.row.D.Denot × g.row.V.Denot). FailureNotified is_notified f.writer.is_broken x.0.writer.is_broken v x.1) (λ i. (sym met.ensures.flusher i, sym same_w i)) notified;
      closed = search rules;
      broken = broken_of choice state a b f h fault run;
      stay = stay_of choice state a b f h fault (c.turns_preserve_parts.ensures a.policy) run c.requires.of_one;
      queued = queued;
      received = λ goes. all_received b.end h.end queued (ran_of choice state a b f h fault run goes).1;
      history = goes_on choice state a b f h fault c.flushes_are_steps.ensures.turns run;
    }
