use Rattle.std.proofs.Common.{rules, ap, option_map, ◌≡◌, Some}
use Rattle.lift_program.proofs.Rows.{too_small}
use Rattle.lift_program.proofs.words.half_of.Goals as goal

pub returns-then-half-lt-LEAST_HALF-clause-none : goal.returns-then-half-lt-LEAST_HALF-clause-none
returns-then-half-lt-LEAST_HALF-clause-none c =
    let there : c.args.word ≡ Some c.in-Some.word = search rules in
    too_small _ _ c.in_ok-half.half (ap (option_map (λ w. w.now)) there) c.in_ok-half.ensures.some c.if-half-lt-LEAST_HALF.true
