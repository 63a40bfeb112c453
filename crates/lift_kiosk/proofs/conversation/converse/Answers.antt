use Rattle.std.proofs.Common.{ℕ, List, [], refl, subst, arith, rules, ◌∙◌}
use Rattle.lift_base.specs.Output.{Sink, Takes, sink_of}
use Rattle.lift_kiosk.specs.Session.{LastStep, Standing, standing_of}
use Rattle.lift_kiosk.proofs.Sessions.{answers_more, ends_full, ends_early}
use Rattle.lift_kiosk.proofs.conversation.converse.Goals as goal

pub loop-init : goal.loop-init
loop-init g c =
    let sink : Sink = sink_of g.W.Write.contents c.args.writer.now in
    let sink' : Sink = sink_of g.W.Write.contents c.put.new.self in
    record {
      free = search rules;
      calls = refl;
      stays = c.bring_in-opening.ensures.stays;
      answered = record {
        opening = c.bring_in-opening.result;
        greeted = standing_of g.R.Read.remaining g.W.Write.contents g.P.Port.view c.args.reader.now c.put.new.self c.bring_in-opening.new.port c.last_after_opening.result;
        opens = record { port = c.bring_in-opening.ensures.opened; last = c.last_after_opening.ensures; source = refl };
        greets = subst (λ (bytes : List ℕ). Takes bytes sink sink') (c.deref.ensures.0 ∙ c.opening_of.ensures) c.in-Ok.ensures.ok;
        ready = c.in_default.not-StillWaits;
        exchanges = [];
        count_is = refl;
        runs = refl;
      };
    }

pub loop-preserved : goal.loop-preserved
loop-preserved g c =
    let i = c.loop.invariant in
    let done = c.in-Ok-exchange.ensures.ok in
    record {
      free = c.in-Ok-exchange.ensures.free;
      calls = c.in-Ok-exchange.ensures.calls ∙ i.calls;
      stays = c.in-Ok-exchange.ensures.stays ∙ i.stays;
      answered = answers_more _ _ _ _ _ _ i.answered done.0 done.1 _ done.2 done.3;
    }

pub returns-in-Err-exchange : goal.returns-in-Err-exchange
returns-in-Err-exchange g c =
    let i = c.loop.invariant in
    let e = c.in-Err-exchange.ensures in
    let limits = c.args.limits.now in
    let mid : Standing = standing_of g.R.Read.remaining g.W.Write.contents g.P.Port.view c.loop.reader c.loop.writer c.loop.port c.loop.last in
    let after : Standing =
    standing_of g.R.Read.remaining g.W.Write.contents g.P.Port.view c.exchange.new.reader c.exchange.new.writer c.exchange.new.port c.exchange.new.last in
    record {
      converses = ends_early _ _ _ _ _ mid i.answered c.in-Err-exchange.end after (omega (arith, c.loop-test.true))
          (subst (λ (calls : ℕ). LastStep g.T.Dialect.wants g.T.Dialect.keeps limits calls c.in-Err-exchange.end mid after) i.calls e.end)
          (omega (arith, e.calls, i.calls));
      stays = e.stays ∙ i.stays;
    }

pub returns : goal.returns
returns g c =
    let i = c.loop.invariant in
    record {
      converses = ends_full _ _ _ _ _ _ i.answered (omega (arith, c.loop-test.false, c.loop.auto.counter-end)) (omega (arith, i.calls));
      stays = i.stays;
    }
