use Rattle.std.proofs.Common.{◌≡◌, ℕ, ◌+◌, ◌*◌, arith, ap, ◌∙◌, take, [], ◌∷◌}
use Rattle.std.proofs.Math.Nat.{mul-add, mul_comm}
use Rattle.std.proofs.lemmas.List.{take_more}
use Rattle.lift_base.specs.declared.travel.Halt.{Halt}
use Rattle.lift_cost.specs.Ways.{persons_along}
use Rattle.lift_cost.specs.Delays.{persons_in}
use Rattle.lift_cost.proofs.Weighted.{persons_along-append}
use Rattle.lift_cost.proofs.ways.times_along.Goals as goal

pub loop-halt-preserved : goal.loop-halt-preserved
loop-halt-preserved c =
    let persons = persons_in c.args.leaving.now in
    let before = take c.loop-halt.halt-index c.args.halts.now in
    let halt : Halt = c.halt-item.result in
    let more = take_more c.args.halts.now c.loop-halt.halt-index halt (omega arith) in
    let along = persons_along-append persons before (halt ∷ []) in
    let sums = ap (λ n. c.args.time * n) along ∙ mul-add c.args.time (persons_along persons before) (persons halt + 0) in
    let one = c.times-sum.ensures.value ∙ ap (λ n. n * c.args.time) c.at.ensures.value ∙ mul_comm (persons halt) c.args.time in
    let none = ap (λ n. c.args.time * n) (zero_more (persons halt)) in
    rw (more, ← c.halt-item.is) (record {
      so_far = omega (arith, c.loop-halt.invariant.so_far, sums, one, none);
      short = omega (arith, c.loop-halt.invariant.short, c.times-sum.ensures.limit);
    })
  where
    zero_more : (n : ℕ) → n + 0 ≡ n
    zero_more n = omega arith
