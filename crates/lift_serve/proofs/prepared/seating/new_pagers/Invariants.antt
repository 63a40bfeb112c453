use Rattle.std.proofs.Common.{◌≡◌, ◌≤◌, length, vec_capacity}
use Rattle.lift_base.specs.declared.limits.TheConstants.{MOST_TERMINALS}
use Rattle.lift_serve.specs.Lobby.{AreInOrder}
use Rattle.lift_serve.proofs.prepared.seating.new_pagers.Given as goal

abbrev pub invariant-loop-index : goal.invariant-loop-index
invariant-loop-index l = record {
  count : length l.pagers.items ≡ l.index;
  room : MOST_TERMINALS ≤ vec_capacity l.pagers;
  in_order : AreInOrder l.pagers.items;
}
