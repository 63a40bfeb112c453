use Rattle.std.proofs.Common.{ap, sym, ◌∙◌, ◌++◌, arith, List, ℕ}
use Rattle.std.proofs.lemmas.Fmt.{decimal_digit}
use Rattle.lift_kiosk.proofs.Texts.{last_digit, few_digits, eight_digits}
use Rattle.lift_kiosk.proofs.speaking.+push_number.Goals as goal

pub returns-then-number-lt10-clause-text : goal.returns-then-number-lt10-clause-text
returns-then-number-lt10-clause-text t c =
    c.push.ensures.items ∙ ap (λ (digits : List ℕ). c.args.text.now.items ++ digits) (sym (decimal_digit c.args.number c.if-number-lt10.true))

pub returns-else-number-lt10-clause-text : goal.returns-else-number-lt10-clause-text
returns-else-number-lt10-clause-text t c =
    last_digit c.args.text.now.items _ _ c.args.number (omega arith) c.requires.small c.push_number.ensures.text c.push-else-number-lt10.ensures.items

pub returns-else-number-lt10-clause-count : goal.returns-else-number-lt10-clause-count
returns-else-number-lt10-clause-count t c =
    let all = last_digit c.args.text.now.items _ _ c.args.number (omega arith) c.requires.small c.push_number.ensures.text c.push-else-number-lt10.ensures.items in
    eight_digits c.args.text.now.items _ c.args.number c.requires.small all

pub returns-else-number-lt10-clause-few : goal.returns-else-number-lt10-clause-few
returns-else-number-lt10-clause-few t c few =
    let all = last_digit c.args.text.now.items _ _ c.args.number (omega arith) c.requires.small c.push_number.ensures.text c.push-else-number-lt10.ensures.items in
    few_digits c.args.text.now.items _ c.args.number few all
