use Rattle.std.proofs.Common.{◌≡◌, ◌+◌, take}
use Rattle.lift_keeper.specs.Recovery.{AllPass, all_passed}
use Rattle.lift_keeper.proofs.recovery.Recovery.take_all.Given as goal

abbrev pub invariant-loop-content : goal.invariant-loop-content
invariant-loop-content l = record {
  pass : AllPass l.fn.self (take l.content-index l.records);
  same : l.self ≡ all_passed l.fn.self (take l.content-index l.records);
  plan : l.self.plan ≡ l.fn.self.plan;
  taken : l.self.taken ≡ l.fn.self.taken + l.content-index;
}
