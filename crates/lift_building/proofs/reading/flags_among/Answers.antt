use Rattle.std.proofs.Common.{arith, ◌-◌, ◌++◌, ◌∷◌, [], ◌∙◌, length, ap}
use Rattle.std.proofs.lemmas.Result.{err_from_is_err_and}
use Rattle.lift_building.specs.declared.fault.Field.TheVariants.{Serves}
use Rattle.lift_building.specs.Reading.{number_in}
use Rattle.lift_building.proofs.Each.{each_starts, each_goes_on, each_fails, each_is_done}
use Rattle.lift_building.proofs.Flags.{flags_none, flags_more, flags_length, flags_fail, flags_done}
use Rattle.lift_building.proofs.reading.flags_among.Goals as goal

pub loop-item-init : goal.loop-item-init
loop-item-init c = ([], each_starts _, c.same_flags-served.ensures ∙ flags_none c.args.floors)

pub returns-in_err-floor_in : goal.returns-in_err-floor_in
returns-in_err-floor_in c =
    let p = err_from_is_err_and c.from_residual.result c.from_residual.ensures.1 in
    rw (p.1, p.2) (flags_fail c.args.floors _ _ (each_fails (λ _. number_in Serves 0 (c.args.floors - 1)) _ c.args.items.now c.loop-item.item-index c.item-item.result c.in_err-floor_in.field-0.0 _ c.loop-item-test.true c.item-item.is c.in_err-floor_in.ensures.given c.loop-item.invariant.1))

pub mark-requires : goal.mark-requires
mark-requires c = omega (arith, c.in_ok-floor_in.ensures.limit, ap length c.loop-item.invariant.2 ∙ flags_length c.args.floors c.loop-item.invariant.0)

pub loop-item-preserved : goal.loop-item-preserved
loop-item-preserved c =
    let inv = c.loop-item.invariant in (
      inv.0 ++ c.in_ok-floor_in.field-0 ∷ [],
      each_goes_on (λ _. number_in Serves 0 (c.args.floors - 1)) _ c.args.items.now c.loop-item.item-index c.item-item.result c.in_ok-floor_in.field-0 _ c.loop-item-test.true c.item-item.is c.in_ok-floor_in.ensures.given inv.1,
      rw (c.mark.ensures, inv.2) (flags_more c.args.floors c.in_ok-floor_in.field-0 inv.0 c.in_ok-floor_in.ensures.limit),
    )

pub returns : goal.returns
returns c =
    let inv = c.loop-item.invariant in
    flags_done c.args.floors _ _ _ (each_is_done (λ _. number_in Serves 0 (c.args.floors - 1)) _ c.args.items.now c.loop-item.item-index _ c.loop-item-test.false inv.1) inv.2
