use Rattle.std.proofs.Common.{◌∙◌, sym, arith}
use Rattle.std.proofs.lemmas.Fmt.{decimal_injective}
use Rattle.lift_base.proofs.text.number.number_up_to.Goals as goal

pub returns-in-None-clause-none : goal.returns-in-None-clause-none
returns-in-None-clause-none c n small = c.in-None.ensures.none n (let most = c.ranges.most.fits in omega arith)

pub returns-else-number-most-clause-none : goal.returns-else-number-most-clause-none
returns-else-number-most-clause-none c n small same =
    let equal = decimal_injective c.in-Some.number n (let little = c.in-Some.ensures.small in omega arith) (let most = c.ranges.most.fits in omega arith) (sym c.in-Some.ensures.some ∙ same) in
    let more = c.if-number-most.false in omega (arith, equal, more)
