use Rattle.std.proofs.Common.{List, ℕ, subst, sym, ap}
use Rattle.lift_base.specs.Text.{AreWords}
use Rattle.lift_base.specs.lemmas.Texts.{texts}
use Rattle.lift_kiosk.proofs.Calls.{no_call_line, call_has_words}
use Rattle.lift_kiosk.proofs.kiosk.call_line.Goals as goal

pub returns-in-Some-clause-none : goal.returns-in-Some-clause-none
returns-in-Some-clause-none c =
    let are = subst (λ (words : List (List ℕ)). AreWords c.args.line.now words) (ap texts (sym c.as_slice.ensures.value)) c.in-Some.ensures.some.0 in
    no_call_line c.call_among.result c.args.line.now (texts c.as_slice.result.now) are c.call_among.ensures.none

pub returns-in-None-clause-none : goal.returns-in-None-clause-none
returns-in-None-clause-none c = call_has_words c.args.line.now c.in-None.ensures.none
