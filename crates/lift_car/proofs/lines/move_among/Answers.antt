use Rattle.std.proofs.Common.{codes, sym}
use Rattle.lift_base.specs.lemmas.Texts.{begins_with, texts}
use Rattle.lift_car.proofs.Moves.{moves_alike}
use Rattle.lift_car.proofs.lines.move_among.Goals as goal

pub returns-then-eq-clause-some : goal.returns-then-eq-clause-some
returns-then-eq-clause-some c =
    moves_alike c.place_of.result (texts c.args.words.now) _ (begins_with c.args.words.now _ (codes "PLACE") c.in-len1-up.len_at_least (sym c.if-eq.ensures)) c.place_of.ensures.some

pub returns-then-eq-2-clause-some : goal.returns-then-eq-2-clause-some
returns-then-eq-2-clause-some c =
    moves_alike c.stop_of.result (texts c.args.words.now) _ (begins_with c.args.words.now _ (codes "STOP") c.in-len1-up.len_at_least (sym c.if-eq-2.ensures)) c.stop_of.ensures.some
