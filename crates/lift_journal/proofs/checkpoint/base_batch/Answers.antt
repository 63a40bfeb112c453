use Rattle.std.proofs.Common.{◌≡◌, ◌+◌, ◌-◌, suc, Some, arith, sym, ◌∙◌, ◌++◌, List, ap, take, drop, slice_get, length-drop}
use Rattle.std.specs.Option.{option_to_list}
use Rattle.lift_base.specs.declared.limits.TheConstants.{MOST_ENTRIES}
use Rattle.lift_base.specs.declared.history.Record.{Record}
use Rattle.lift_register.specs.Base.{base_records}
use Rattle.lift_journal.proofs.Checkpoints.{take_next, take_as_far}
use Rattle.lift_journal.proofs.checkpoint.base_batch.Goals as goal

pub loop-place-preserved : goal.loop-place-preserved
loop-place-preserved c =
    let records = base_records c.args.register.now in
    let from = c.args.from in
    let taken = c.loop-place.place - from in
    let here : from + taken ≡ c.loop-place.place = omega (arith, c.loop-place.auto.place) in
    c.push_some.ensures
    ∙ ap (λ (l : List Record). l ++ option_to_list (Some c.base_record.result)) c.loop-place.invariant
    ∙ ap (λ o. take taken (drop from records) ++ option_to_list o) (sym (ap (slice_get records) here ∙ c.base_record.ensures.value))
    ∙ take_next records from taken
    ∙ ap (λ n. take n (drop from records)) (let next : suc taken ≡ c.loop-place.place + 1 - from = omega (arith, c.loop-place.auto.place) in next)

pub returns : goal.returns
returns c =
    let left = drop c.args.from (base_records c.args.register.now) in
    c.loop-place.invariant
    ∙ take_as_far (c.loop-place.place - c.args.from) MOST_ENTRIES left
    (grind (arith, length-drop c.args.from (base_records c.args.register.now), c.requires.count, c.min-place-end.ensures, c.loop-place-test.false, c.loop-place.auto.place, c.loop-place.auto.place-end))
