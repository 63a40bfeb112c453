use Rattle.std.proofs.Common.{refl}
use Rattle.lift_replay.specs.Group.{first_group}
use Rattle.std.specs.Str.Lines.{lines as lines_in}
use Rattle.lift_replay.proofs.Written.{err_so, no_front, on_err, tells_either, tells_put, taken_front, whole_front}
use Rattle.lift_replay.proofs.Runs.{report_put}
use Rattle.lift_replay.proofs.Told.{if_ok}
use Rattle.lift_replay.proofs.Total.{lines_total}
use Rattle.lift_replay.specs.lemmas.Writes.{called_after, called_err, fails_later}
use Rattle.lift_replay.proofs.script.run_lines.Goals as goal

pub returns-clause-tells : goal.returns-clause-tells
returns-clause-tells g c =
    if_ok c.add_segments-end.result (λ verdict tells. (tells.0, tells.1, report_put _ _ _ _ _ tells.0 c.in_ok-piece.ensures.bytes tells.2 c.in_ok-put_piece.ensures.ok)) c.add_segments-end.ensures.tells

pub returns-clause-front : goal.returns-clause-front
returns-clause-front g c =
    on_err c.add_segments-end.result (λ front. tells_put c.args.building.now 0 (first_group c.args.building.now) (lines_in c.args.lines.now) _ _ _ _ _ c.in_ok-piece.ensures.bytes front
    (whole_front _ _ _ c.in_ok-put_piece.ensures.ok)) c.add_segments-end.ensures.front

pub returns-clause-calls : goal.returns-clause-calls
returns-clause-calls g c =
    called_after g.W.Outflow.gives _ _ _ c.add_segments-end.result _ c.add_segments-end.ensures.writes.output c.add_segments-end.ensures.writes.calls c.add_segments-end.ensures.writes.emptied c.put_piece.ensures.idle c.in_ok-put_piece.ensures.each_call

pub returns-in_err-piece-clause-front : goal.returns-in_err-piece-clause-front
returns-in_err-piece-clause-front g c = err_so c.from_residual.result (
    let told = lines_total c.args.building.now 0 (first_group c.args.building.now) (lines_in c.args.lines.now) in
    (told.0, told.1, told.2, no_front _ told.0))

pub returns-in_err-put_piece-clause-front : goal.returns-in_err-put_piece-clause-front
returns-in_err-put_piece-clause-front g c = err_so c.from_residual-in_err-put_piece.result
    (tells_put c.args.building.now 0 (first_group c.args.building.now) (lines_in c.args.lines.now) _ _ _ _ _ c.in_ok-piece.ensures.bytes
    (tells_either c.args.building.now 0 (first_group c.args.building.now) (lines_in c.args.lines.now) _ _ _ _ c.add_segments-end.result c.add_segments-end.ensures.tells c.add_segments-end.ensures.front)
    (taken_front _ _ _ _ c.in_err-put_piece.ensures.front))

pub returns-in_err-piece-clause-calls : goal.returns-in_err-piece-clause-calls
returns-in_err-piece-clause-calls g c = called_err g.W.Outflow.gives _ _ c.from_residual.result _ c.from_residual.ensures.1 (0, refl)

pub returns-in_err-put_piece-clause-calls : goal.returns-in_err-put_piece-clause-calls
returns-in_err-put_piece-clause-calls g c = called_err g.W.Outflow.gives _ _ c.from_residual-in_err-put_piece.result _ c.from_residual-in_err-put_piece.ensures.1
    (fails_later g.W.Outflow.gives _ _ _ c.add_segments-end.result _ c.add_segments-end.ensures.writes.output c.add_segments-end.ensures.writes.calls c.add_segments-end.ensures.writes.emptied c.put_piece.ensures.idle c.in_err-put_piece.ensures.failed)
