use Rattle.std.proofs.Common.{rules, ap, option_map, ◌≡◌, Some, arith}
use Rattle.lift_program.proofs.Rows.{no_count}
use Rattle.lift_program.proofs.words.count_of.Goals as goal

pub returns-then-count-lt1-clause-none : goal.returns-then-count-lt1-clause-none
returns-then-count-lt1-clause-none c =
    let there : c.args.word ≡ Some c.in_ok-word.word = search rules in
    no_count c.args.most _ _ c.in_ok-count.count (omega (arith, c.ranges.most.fits)) (ap (option_map (λ w. w.now)) there) c.in_ok-count.ensures.some c.if-count-lt1.true
