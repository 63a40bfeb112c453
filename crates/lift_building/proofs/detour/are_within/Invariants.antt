use Rattle.std.proofs.Common.{ℕ, ◌+◌, ◌<◌, ◌≤◌, get_or, IsTrue}
use Rattle.lift_building.proofs.detour.are_within.Given as goal

abbrev pub invariant-loop-k : goal.invariant-loop-k
invariant-loop-k l = IsTrue l.within → (c : ℕ) → c < l.k → get_or l.direct c 0 ≤ l.more + get_or l.onwards c 0
