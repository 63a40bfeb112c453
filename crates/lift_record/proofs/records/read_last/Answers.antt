use Rattle.std.proofs.Common.{◌<◌, ◌≤◌, subst, rules}
use Rattle.lift_base.specs.declared.limits.TheConstants.{FIRST_KIOSK}
use Rattle.lift_record.proofs.Parts.{NoWaiting, if_none, no_last_call, no_last_stop}
use Rattle.lift_record.proofs.records.read_last.Goals as goal

pub returns-in_err-row-clause-none : goal.returns-in_err-row-clause-none
returns-in_err-row-clause-none c =
    let kiosk : FIRST_KIOSK ≤ c.args.terminal = search rules in
    let absent : NoWaiting c.args.version c.args.terminal c.args.content c.args.number =
    subst (λ t. NoWaiting c.args.version t c.args.content c.args.number) c.get.ensures.value
    c.in_err-row.ensures.none in
    if_none c.from_residual.result
    (no_last_call c.args.version c.args.terminal c.args.content c.args.number kiosk absent)

pub returns-in_err-number-clause-none : goal.returns-in_err-number-clause-none
returns-in_err-number-clause-none c =
    let car : c.args.terminal < FIRST_KIOSK = search rules in
    if_none c.from_residual-in_err-number.result
    (no_last_stop c.args.version c.args.terminal c.args.content c.args.number car
    c.ranges.number.fits c.in_err-number.ensures.none)
