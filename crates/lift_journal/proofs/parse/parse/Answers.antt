use Rattle.lift_journal.proofs.Texts.{tail_split, tail_blank}
use Rattle.lift_journal.proofs.parse.parse.Goals as goal

pub returns-then-not-is_zero_from-clause-none : goal.returns-then-not-is_zero_from-clause-none
returns-then-not-is_zero_from-clause-none c _ records counted tail =
    let blank = c.is_zero_from.ensures.1 (tail_blank c.args.version c.args.count records c.args.text.now counted tail) in
    absurd (cc (blank, c.if-not-is_zero_from.true))

pub returns-clause-some : goal.returns-clause-some
returns-clause-some c is =
    let there = c.read_records.ensures.some is in
    (there.counted, tail_split c.args.version c.args.count c.read_records.new.records.items c.args.text.now c.requires.whole c.requires.few there (c.is_zero_from.ensures.0 c.if-not-is_zero_from.false))
