use Rattle.std.proofs.Common.{codes, refl, subst, sym}
use Rattle.clap.specs.Words.{found_of, rows_of}
use Rattle.lift_program.specs.Words.{IsHalf}
use Rattle.lift_program.proofs.Rows.{if_none, no_format, text_in}
use Rattle.lift_program.proofs.words.format_of.Goals as goal

pub returns-in_err-image-clause-none : goal.returns-in_err-image-clause-none
returns-in_err-image-clause-none c = if_none c.from_residual.result _ (no_format (rows_of (found_of c.args.matches.now)) (λ image building half is. c.in_err-image.ensures.none image.now building.now is.0))

pub returns-in_err-half-clause-none : goal.returns-in_err-half-clause-none
returns-in_err-half-clause-none c =
    let same = text_in (found_of c.args.matches.now) (codes "half") c.get_str.result c.get_str.result c.get_str.ensures refl in
    if_none c.from_residual-in_err-half.result _ (no_format (rows_of (found_of c.args.matches.now)) (λ image building half is. c.in_err-half.ensures.none half (subst (λ w. IsHalf w half) same is.1)))

pub returns-clause-some : goal.returns-clause-some
returns-clause-some c =
    let found = found_of c.args.matches.now in
    let half = text_in found (codes "half") c.get_str.result c.get_str.result c.get_str.ensures refl in (
      c.in_ok-image.ensures.some,
      subst (λ w. IsHalf w c.in_ok-half.half) (sym half) c.in_ok-half.ensures.some,
    )
