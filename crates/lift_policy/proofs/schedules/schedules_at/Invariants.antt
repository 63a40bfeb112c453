use Rattle.std.proofs.Common.{◌≡◌, ℕ, ◌<◌, None, get_or, length}
use Rattle.lift_base.specs.declared.limits.TheConstants.{MOST_CARS}
use Rattle.lift_policy.specs.lemmas.Views.{made_at}
use Rattle.lift_policy.proofs.schedules.schedules_at.Given as goal

abbrev pub invariant-loop-index : goal.invariant-loop-index
invariant-loop-index l = record {
  count : length l.schedules ≡ MOST_CARS;
  made : (k : ℕ) → k < l.index → get_or l.schedules k None ≡ made_at l.register k (get_or l.positions k None);
}
