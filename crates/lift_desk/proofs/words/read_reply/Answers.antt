use Rattle.lift_desk.proofs.Spelled.{reply_spelled, reply_read}
use Rattle.std.proofs.Common.{◌≢◌, ◌∙◌}
use Rattle.lift_desk.specs.Words.{turn_of}
use Rattle.lift_desk.proofs.words.read_reply.Goals as goal

pub returns-clause-valid : goal.returns-clause-valid
returns-clause-valid c =
    let turn = c.turn_of.ensures.turn in
    let turned : turn_of c.args.word ≢ 0 = λ e. c.if-turn_of-eq0.false (turn ∙ e) in
    (reply_spelled c.args.word c.read_bits_of_reply.result c.ranges.word.fits turned c.read_bits_of_reply.ensures.spelled, reply_read c.args.word c.read_bits_of_reply.result c.read_bits_of_reply.ensures.known)
