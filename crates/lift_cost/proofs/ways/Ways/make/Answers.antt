use Rattle.std.proofs.Common.{◌≡◌, ℕ, ◌+◌, ◌*◌, [], arith, refl, ap, ◌∙◌}
use Rattle.std.proofs.Math.Nat.{mul_comm}
use Rattle.lift_cost.specs.Delays.{persons_in}
use Rattle.lift_cost.proofs.Delayed.{both_make}
use Rattle.lift_cost.proofs.ways.Ways.make.Goals as goal

none_more : (n : ℕ) → n ≡ n + 0
none_more n = omega arith

pub returns-clause-on : goal.returns-clause-on
returns-clause-on c start made made_with on =
    let persons = persons_in c.args.leaving.now in
    let delay = c.delay_at-delay.result in
    let times-is : c.times.result ≡ delay * (persons c.args.halt.now + 0) = c.times.ensures.value ∙ ap (λ n. n * delay) c.at.ensures.value ∙ mul_comm (persons c.args.halt.now) delay ∙ ap (λ n. delay * n) (none_more (persons c.args.halt.now)) in
    both_make c.args.building.now persons start made made_with c.args.self c.args.halt.now [] c.args.halt.now.floor _ delay _ on
    c.delay_at-delay.ensures.value times-is refl (omega (arith, c.arrives.ensures.value, c.door_ms.ensures.value))
