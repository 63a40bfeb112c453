use Rattle.std.proofs.Common.{ℕ, rules, subst, sym}
use Rattle.std.specs.Io.KnownBytes.{Appends}
use Rattle.lift_program.specs.Ends.{serving_text}
use Rattle.lift_program.proofs.Asked.{served_end}
use Rattle.lift_program.proofs.Stages.{is_whole_yet}
use Rattle.lift_program.proofs.Telling.{notified_errors, reported_at_once}
use Rattle.lift_program.proofs.serve.serve.Goals as goal

pub returns-clause-end : goal.returns-clause-end
returns-clause-end g c =
    let a = c.args.asked in
    let of = c.in-Ok.ready.1 in
    let served = c.serve-served.result.0 in (
      (
        c.in-Ok.ensures.port,
        served_end _ a.image.now a.building.now a.port a.sessions a.policy of.allocator of.flusher of.bound _ c.in-Ok.ensures.ready (record {
          b = served.allocator;
          g = served.flusher;
          is_left = sym c.left_served.ensures;
          ran = c.serve-served.ensures.ran;
          keeps = c.serve-served.ensures.keeps;
          reported = search rules;
          reports = c.serve-served.ensures.reports;
        }),
      ),
      tt,
      tt,
      tt,
    )

pub returns-clause-said : goal.returns-clause-said
returns-clause-said g c =
    let written = Appends (g.W.Outflow.contents c.args.writer.now) (g.W.Outflow.contents c.made_ready.new.writer) in
    (c.in-Ok.ensures.flushed, subst (λ (p : ℕ). written (serving_text p)) (sym c.in-Ok.ensures.port) c.in-Ok.ensures.said)

pub returns-clause-at_once : goal.returns-clause-at_once
returns-clause-at_once g c =
    let contents = g.E.Write.contents in
    let of = c.in-Ok.ready.1 in
    let ready = c.in-Ok.ensures.ready in
    let was = of.flusher.writer.is_broken in
    let served = c.serve-served.result.0 in
    let is = served.flusher.writer.is_broken in
    let whole = is_whole_yet _ c.args.asked.policy ready.keeper of.allocator of.flusher ready.group ready.is_kept.whole in
    reported_at_once contents c.args.errors served.witness.errors was is c.serve-served.result.1.fault c.fault_of.result whole (search rules)
    (notified_errors contents was is (record { errors = c.args.errors }) served.witness c.serve-served.ensures.notified)
