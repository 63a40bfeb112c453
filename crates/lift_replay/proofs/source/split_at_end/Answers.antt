use Rattle.std.proofs.Common.{◌≡◌, ◌<◌, ◌∙◌, length, get_or, take, sym, ap, subst, arith}
use Rattle.std.proofs.lemmas.Bool.{eqb-true, eq-eqb}
use Rattle.std.proofs.lemmas.Grind.{common_steps}
use Rattle.std.proofs.lemmas.List.{get_or-take, get_or_default}
use Rattle.std.proofs.lemmas.Str.{lead_after_ascii}
use Rattle.lift_replay.proofs.source.split_at_end.Goals as goal

pub range_from-requires : goal.range_from-requires
range_from-requires c =
    let found = rw c.as_bytes.ensures.value at c.in_ok-place.ensures in
    let inside = found.0.high in
    let here : get_or c.args.text.now c.in_ok-place.place 0 ≡ 10 = eqb-true _ 10 found.1 in
    λ _. (
      omega (arith, inside),
      lead_after_ascii c.args.text.now c.in_ok-place.place c.utf8.text (omega (arith, here)),
    )

pub returns-clause-first : goal.returns-clause-first
returns-clause-first c k d below end =
    let found = rw c.as_bytes.ensures.value at c.in_ok-place.ensures in
    let front : c.range.result.now ≡ take c.in_ok-place.place c.args.text.now = grind (arith, common_steps) in
    let inside : k < length (take c.in_ok-place.place c.args.text.now) = subst (λ l. k < length l) front below in
    let before : k < c.in_ok-place.place = let long = c.range.ensures.len in omega (arith, below, long) in
    let here : get_or c.args.text.now k 0 ≡ 10 =
    sym (get_or-take c.in_ok-place.place c.args.text.now k 0 before) ∙ get_or_default (take c.in_ok-place.place c.args.text.now) k 0 d inside ∙ ap (λ l. get_or l k d) (sym front) ∙ end in
    found.0.before k (omega arith) before (eq-eqb _ 10 here)
