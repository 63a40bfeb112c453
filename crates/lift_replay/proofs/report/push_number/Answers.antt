use Rattle.std.proofs.Common.{arith}
use Rattle.lift_replay.proofs.Digits.{digit_pushed}
use Rattle.lift_replay.proofs.report.push_number.Goals as goal

pub returns-then-number-lt10 : goal.returns-then-number-lt10
returns-then-number-lt10 c =
    digit_pushed c.add_char.result _ _ c.args.number _ c.if-number-lt10.true c.add_char.ensures.bytes (omega arith)
