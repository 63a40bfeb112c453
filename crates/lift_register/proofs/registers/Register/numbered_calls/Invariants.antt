use Rattle.std.proofs.Common.{◌≡◌, ◌≤◌, ◌*◌, sum_by}
use Rattle.std.specs.List.{range_with_len}
use Rattle.lift_base.specs.declared.limits.TheConstants.{FIRST_KIOSK}
use Rattle.lift_register.specs.Register.{last_number}
use Rattle.lift_register.proofs.registers.Register.numbered_calls.Given as goal

abbrev pub invariant-loop-kiosk : goal.invariant-loop-kiosk
invariant-loop-kiosk l = record {
  counted : l.count ≡ sum_by (last_number l.self) (range_with_len FIRST_KIOSK l.kiosk);
  few : l.count ≤ 16777215 * l.kiosk;
}
