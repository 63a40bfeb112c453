use Rattle.std.proofs.Common.{◌≡◌, false}
use Rattle.lift_parts.specs.Turns.{AllocatorTurns}
use Rattle.lift_relay.proofs.pair.allocate.Given as goal

abbrev pub invariant-loop : goal.invariant-loop
invariant-loop g l = record {
  turns : AllocatorTurns (g.P.Policy.chooses l.fn.allocator.policy) l.fn.allocator l.gated.allocator;
  policy : l.gated.allocator.policy ≡ l.fn.allocator.policy;
  closes : l.gated.goes_on ≡ false → g.G.Gate.closed l.fn.gate;
}
