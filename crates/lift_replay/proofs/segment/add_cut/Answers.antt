use Rattle.std.proofs.Common.{◌≡◌, ◌++◌, ◌∙◌, true, ap, refl, rules, subst, sym, string_bytes}
use Rattle.lift_replay.specs.Report.{ReportsPart, cut_text, start_text}
use Rattle.lift_replay.proofs.Written.{err_so, torn_told}
use Rattle.lift_replay.specs.lemmas.Writes.{pieces_ok, pieces_memory, pieces_failed}
use Rattle.lift_replay.specs.Writing.{gone_in}
use Rattle.lift_replay.proofs.segment.add_cut.Goals as goal

pub returns-in_err-put_large_piece-clause-front : goal.returns-in_err-put_large_piece-clause-front
returns-in_err-put_large_piece-clause-front g c =
    let told_is : c.deref.result.now ≡ cut_text c.args.calls = c.deref.ensures ∙ c.in_ok-push_cut.ensures ∙ ap (λ bytes. bytes ++ cut_text c.args.calls) c.new-report.ensures.bytes in
    let piece_is : string_bytes c.add.new.text ≡ string_bytes c.args.piece.now ++ cut_text c.args.calls = c.in_ok-add.ensures.bytes ∙ ap (λ bytes. string_bytes c.args.piece.now ++ bytes) told_is in
    let after : c.args.is_after_cut ≡ true = search rules in
    err_so c.from_residual-in_err-put_large_piece.result
    (subst (λ b. ReportsPart (gone_in g.W.Outflow.sent c.args.writer.now) (gone_in g.W.Outflow.sent c.put_large_piece.new.writer) (string_bytes c.args.piece.now) (string_bytes c.put_large_piece.new.piece) (start_text b c.args.calls)) (sym after)
    (torn_told _ _ _ (string_bytes c.args.piece.now) (string_bytes c.add.new.text) (string_bytes c.put_large_piece.new.piece) (cut_text c.args.calls) piece_is
    c.in_err-put_large_piece.ensures.front c.in_err-put_large_piece.ensures.emptied))

pub returns-clause-writes : goal.returns-clause-writes
returns-clause-writes g c = pieces_ok g.W.Outflow.gives _ _ _ _ c.in_ok-put_large_piece.ensures.each_call

pub returns-in_err-push_cut-clause-writes : goal.returns-in_err-push_cut-clause-writes
returns-in_err-push_cut-clause-writes g c = pieces_memory g.W.Outflow.gives _ _ _ c.from_residual.result c.from_residual.ensures.1 (0, refl)

pub returns-in_err-add-clause-writes : goal.returns-in_err-add-clause-writes
returns-in_err-add-clause-writes g c = pieces_memory g.W.Outflow.gives _ _ _ c.from_residual-in_err-add.result c.from_residual-in_err-add.ensures.1 (0, refl)

pub returns-in_err-put_large_piece-clause-writes : goal.returns-in_err-put_large_piece-clause-writes
returns-in_err-put_large_piece-clause-writes g c = pieces_failed g.W.Outflow.gives _ _ _ c.from_residual-in_err-put_large_piece.result c.from_residual-in_err-put_large_piece.ensures.1
    c.in_err-put_large_piece.ensures.failed c.in_err-put_large_piece.ensures.emptied
