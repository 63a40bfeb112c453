use Rattle.std.proofs.Common.{rules, codes, ◌≡◌, None, Some}
use Rattle.clap.specs.Words.{found_of, rows_of}
use Rattle.lift_program.proofs.Rows.{if_none, text_in, no_image, no_building}
use Rattle.lift_program.proofs.words.files_of.Goals as goal

pub returns-in_err-image-clause-none : goal.returns-in_err-image-clause-none
returns-in_err-image-clause-none c =
    let found = found_of c.args.matches.now in
    let none : c.get_str.result ≡ None = search rules in
    if_none c.from_residual.result _ (no_image (rows_of found) (text_in found (codes "image") c.get_str.result None c.get_str.ensures none))

pub returns-in_err-building-clause-none : goal.returns-in_err-building-clause-none
returns-in_err-building-clause-none c =
    let found = found_of c.args.matches.now in
    let none : c.get_str-2.result ≡ None = search rules in
    if_none c.from_residual-in_err-building.result _ (no_building (rows_of found) (text_in found (codes "building") c.get_str-2.result None c.get_str-2.ensures none))

pub returns-clause-some : goal.returns-clause-some
returns-clause-some c =
    let found = found_of c.args.matches.now in
    let image : c.get_str.result ≡ Some c.in_ok-image.image = search rules in
    let building : c.get_str-2.result ≡ Some c.in_ok-building.building = search rules in (
      text_in found (codes "image") c.get_str.result _ c.get_str.ensures image,
      text_in found (codes "building") c.get_str-2.result _ c.get_str-2.ensures building,
    )
