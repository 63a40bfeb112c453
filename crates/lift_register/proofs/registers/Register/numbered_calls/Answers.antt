use Rattle.std.proofs.Common.{arith}
use Rattle.lift_base.specs.declared.limits.TheConstants.{FIRST_KIOSK}
use Rattle.lift_register.specs.Register.{last_number}
use Rattle.lift_register.specs.lemmas.Sums.{sum_by-range_more}
use Rattle.lift_register.proofs.ReadLemmas.{sum_over_all_kiosks}
use Rattle.lift_register.proofs.registers.Register.numbered_calls.Goals as goal

pub loop-kiosk-preserved : goal.loop-kiosk-preserved
loop-kiosk-preserved c = record {
  counted = rw (sum_by-range_more (last_number c.args.self.now) FIRST_KIOSK c.loop-kiosk.kiosk) (omega (arith, c.loop-kiosk.invariant.counted, c.numbered_by-count.ensures.number));
  few = omega (arith, c.loop-kiosk.invariant.few, c.numbered_by-count.ensures.limit);
}

pub returns : goal.returns
returns c = rw c.loop-kiosk.invariant.counted (sum_over_all_kiosks (last_number c.args.self.now) c.loop-kiosk.kiosk (omega arith))
