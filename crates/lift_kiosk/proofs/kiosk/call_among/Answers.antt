use Rattle.std.proofs.Common.{codes, sym}
use Rattle.std.proofs.lemmas.Option.{IfSome_then}
use Rattle.lift_base.specs.lemmas.Texts.{begins_with, texts}
use Rattle.lift_kiosk.proofs.Calls.{no_call_among}
use Rattle.lift_kiosk.proofs.kiosk.call_among.Goals as goal

pub returns-then-eq-clause-some : goal.returns-then-eq-clause-some
returns-then-eq-clause-some c =
    let begins = begins_with c.args.words.now _ (codes "CALL") c.in-len1-up.len_at_least (sym c.if-eq.ensures) in
    IfSome_then c.call_of.result c.call_of.ensures.some (λ call said. (_, begins, said))

pub returns-then-eq-clause-none : goal.returns-then-eq-clause-none
returns-then-eq-clause-none c =
    let begins = begins_with c.args.words.now _ (codes "CALL") c.in-len1-up.len_at_least (sym c.if-eq.ensures) in
    no_call_among c.call_of.result (texts c.args.words.now) _ begins c.call_of.ensures.none
