use Rattle.std.proofs.Common.{◌≡◌, ◌+◌, ◌∙◌, suc, take, drop, sym, ap, subst, arith}
use Rattle.lift_register.specs.Register.{RegisterState, empty}
use Rattle.lift_register.specs.Base.{BaseFitFrom, base_records, with_record, with_records}
use Rattle.lift_keeper.proofs.Applying.{base_here, base_next}
use Rattle.lift_keeper.proofs.copies.copy_of.Goals as goal

pub apply_base-requires : goal.apply_base-requires
apply_base-requires c = record {
  fits = (base_here c.args.building.now c.loop-place.copy (base_records c.args.register.now) c.loop-place.place c.base_record.result c.base_record.ensures.value c.loop-place.invariant.fit).0;
}

pub loop-place-preserved : goal.loop-place-preserved
loop-place-preserved c =
    let plan = c.args.building.now in
    let records = base_records c.args.register.now in
    let k = c.loop-place.place in
    let next = c.base_record.result in
    let more : suc k ≡ k + 1 = omega arith in
    let here = base_here plan c.loop-place.copy records k next c.base_record.ensures.value c.loop-place.invariant.fit in
    record {
      value = c.apply_base.ensures.value ∙ ap (λ (r : RegisterState). with_record r next) c.loop-place.invariant.value
          ∙ sym (base_next empty records k next c.base_record.ensures.value) ∙ ap (λ n. with_records empty (take n records)) more;
      fit = subst (λ (r : RegisterState). BaseFitFrom plan r (drop (k + 1) records)) (sym c.apply_base.ensures.value)
          (subst (λ n. BaseFitFrom plan (with_record c.loop-place.copy next) (drop n records)) more here.1);
      lawful = c.apply_base.ensures.lawful;
    }
