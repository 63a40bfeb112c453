use Rattle.std.proofs.Common.{◌≡◌, ◌<◌, [], length, ap, subst, refl, arith, string_bytes}
use Rattle.lift_replay.specs.Group.{first_group, nothing_found}
use Rattle.lift_replay.specs.Running.{TellsLines}
use Rattle.lift_replay.specs.Segment.{IfCut}
use Rattle.std.specs.Str.Lines.{lines as lines_in}
use Rattle.lift_replay.specs.declared.segment.SegmentEnd.{SegmentEnd}
use Rattle.lift_replay.proofs.Runs.{reports_none, segment_more, segment_last}
use Rattle.lift_replay.proofs.Written.{err_so, tells_none, tells_after}
use Rattle.lift_replay.specs.lemmas.Writes.{takes_more, pieces_ok, pieces_memory, pieces_after}
use Rattle.lift_replay.proofs.script.add_segments.Goals as goal

pub loop-init : goal.loop-init
loop-init g c =
    let long : length c.new-lines.result.rest.now ≡ length c.args.text.now = ap length c.new-lines.ensures.text in
    record {
      tells = (
        [],
        nothing_found,
        c.in_ok-disk.ensures.found,
        (λ more verdict tells. subst (λ t. TellsLines c.args.building.now 0 (first_group c.args.building.now) (lines_in t) more verdict) c.new-lines.ensures.text
            (subst (λ n. TellsLines c.args.building.now n (first_group c.args.building.now) (lines_in c.new-lines.result.rest.now) more verdict) c.new-lines.ensures.count tells)),
        reports_none _ _,
      );
      small = c.requires.small;
      called = (0, refl);
      left = omega (arith, long);
    }

pub loop-preserved : goal.loop-preserved
loop-preserved g c =
    let shorter : length c.add_segment.new.lines.rest.now < length c.loop.lines.rest.now =
    subst (λ (end : SegmentEnd). IfCut end (length c.add_segment.new.lines.rest.now < length c.loop.lines.rest.now)) c.in-Cut.is c.in_ok-verdict.ensures.cut in
    record {
      tells = (let before = c.loop.invariant.tells in
          segment_more c.args.building.now 0 c.loop.lines.count c.add_segment.new.lines.count (first_group c.args.building.now) before.1 (lines_in c.args.text.now) (lines_in c.loop.lines.rest.now) (lines_in c.add_segment.new.lines.rest.now)
          before.0 _ c.in_ok-verdict.field-0 c.in-Cut.left _ _ _ _ _ _ c.in-Cut.is before.3 before.4 (c.in_ok-verdict.ensures.tells before.1 before.2));
      small = subst (λ (end : SegmentEnd). IfCut end (length (string_bytes c.add_segment.new.piece) < 32768)) c.in-Cut.is c.in_ok-verdict.ensures.small;
      called = takes_more g.W.Outflow.gives _ _ _ c.loop.invariant.called c.in_ok-verdict.ensures.writes.calls;
      left = omega (arith, c.loop.invariant.left, shorter);
    }

pub returns-in-Run-clause-tells : goal.returns-in-Run-clause-tells
returns-in-Run-clause-tells g c =
    let before = c.loop.invariant.tells in
    segment_last c.args.building.now 0 c.loop.lines.count c.add_segment.new.lines.count (first_group c.args.building.now) before.1 (lines_in c.args.text.now) (lines_in c.loop.lines.rest.now) (lines_in c.add_segment.new.lines.rest.now)
    before.0 _ c.in_ok-verdict.field-0 c.in-Run.verdict _ _ _ _ _ _ c.in-Run.is before.3 before.4 (c.in_ok-verdict.ensures.tells before.1 before.2)

pub returns-in_err-disk-clause-front : goal.returns-in_err-disk-clause-front
returns-in_err-disk-clause-front g c = err_so c.from_residual.result (tells_none c.args.building.now 0 (first_group c.args.building.now) (lines_in c.args.text.now) _ _)

pub returns-in_err-verdict-clause-front : goal.returns-in_err-verdict-clause-front
returns-in_err-verdict-clause-front g c = err_so c.from_residual-in_err-verdict.result
    (let before = c.loop.invariant.tells in
    tells_after _ c.args.building.now 0 c.loop.lines.count (first_group c.args.building.now) _ (lines_in c.args.text.now) (lines_in c.loop.lines.rest.now) _ _ _ _ _ _ before.0 before.3 before.4
    (c.in_err-verdict.ensures.front before.1 before.2))

pub returns-in_err-disk-clause-writes : goal.returns-in_err-disk-clause-writes
returns-in_err-disk-clause-writes g c = pieces_memory g.W.Outflow.gives _ _ _ c.from_residual.result c.from_residual.ensures.1 (0, refl)

pub returns-in-Run-clause-writes : goal.returns-in-Run-clause-writes
returns-in-Run-clause-writes g c = pieces_ok g.W.Outflow.gives _ _ _ _ (takes_more g.W.Outflow.gives _ _ _ c.loop.invariant.called c.in_ok-verdict.ensures.writes.calls)

pub returns-in_err-verdict-clause-writes : goal.returns-in_err-verdict-clause-writes
returns-in_err-verdict-clause-writes g c = pieces_after g.W.Outflow.gives _ _ _ _ c.from_residual-in_err-verdict.result _ c.from_residual-in_err-verdict.ensures.1 c.loop.invariant.called c.in_err-verdict.ensures.writes
