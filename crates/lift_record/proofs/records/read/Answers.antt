use Rattle.lift_record.proofs.Parts.{if_none, no_allot, no_stop}
use Rattle.lift_record.proofs.records.read.Goals as goal

pub returns-in_err-row-in-1-clause-none : goal.returns-in_err-row-in-1-clause-none
returns-in_err-row-in-1-clause-none c =
    if_none c.from_residual.result
    (rw c.in-1.is (no_allot c.args.version c.args.terminal c.args.content c.args.number
    c.in_err-row-in-1.ensures.none))

pub returns-in_err-number-in-2-clause-none : goal.returns-in_err-number-in-2-clause-none
returns-in_err-number-in-2-clause-none c =
    if_none c.from_residual-in_err-number-in-2.result
    (rw c.in-2.is (no_stop c.args.version c.args.terminal c.args.content c.args.number
    c.ranges.number.fits c.in_err-number-in-2.ensures.none))
