use Rattle.std.proofs.Common.{◌≡◌, arith, slice_get, Some}
use Rattle.std.proofs.lemmas.Grind.{common_steps}
use Rattle.std.proofs.lemmas.Option.{slice_get_within, get_or_from_slice_get}
use Rattle.std.proofs.lemmas.Str.{lead_after_ascii}
use Rattle.lift_base.specs.lemmas.Words.{cut_at}
use Rattle.lift_base.proofs.text.words.split_at_byte.Goals as goal

pub range_from-requires : goal.range_from-requires
range_from-requires c =
    let here : slice_get c.args.text.now c.in_ok-place.place ≡ Some c.args.byte = rw c.as_bytes.ensures.value at c.in_ok-place.ensures.here in
    let read = get_or_from_slice_get c.args.text.now c.in_ok-place.place c.args.byte 0 here in
    λ _. (
      (let inside = slice_get_within c.args.text.now c.in_ok-place.place c.args.byte here in omega (arith, inside)),
      lead_after_ascii c.args.text.now c.in_ok-place.place c.utf8.text (omega (arith, read, c.requires)),
    )

pub returns-clause-cut : goal.returns-clause-cut
returns-clause-cut c =
    let here : slice_get c.args.text.now c.in_ok-place.place ≡ Some c.args.byte = rw c.as_bytes.ensures.value at c.in_ok-place.ensures.here in
    let cut = cut_at c.args.text.now c.in_ok-place.place c.args.byte here in
    grind (arith, common_steps, cut)
